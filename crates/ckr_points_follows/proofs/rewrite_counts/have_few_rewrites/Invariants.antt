use Rattle.ckr_points_follows.proofs.RewriteCounts.{AreFewTo}
use Rattle.ckr_points_follows.proofs.rewrite_counts.have_few_rewrites.Given as goal

abbrev pub invariant-loop-place : goal.invariant-loop-place
invariant-loop-place l = AreFewTo l.tables.desk.sets l.place
