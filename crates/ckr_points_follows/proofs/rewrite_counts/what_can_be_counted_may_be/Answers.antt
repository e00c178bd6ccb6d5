use Rattle.ckr_points_follows.proofs.RewriteCounts.{counted-may, may-counted}
use Rattle.ckr_points_follows.proofs.rewrite_counts.what_can_be_counted_may_be.Goals as goal

pub returns : goal.returns
returns c = record { may = counted-may; all = may-counted }
