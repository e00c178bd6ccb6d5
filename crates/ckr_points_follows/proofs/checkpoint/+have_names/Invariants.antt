use Rattle.std.proofs.Common.{length}
use Rattle.ckr_points_follows.proofs.checkpoint.+have_names.Given as goal

abbrev pub decreases-have_names : goal.decreases-have_names
decreases-have_names l = length l.dds.now
