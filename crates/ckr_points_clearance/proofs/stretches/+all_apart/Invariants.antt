use Rattle.std.proofs.Common.{length}
use Rattle.ckr_points_clearance.proofs.stretches.+all_apart.Given as goal

abbrev pub decreases-all_apart : goal.decreases-all_apart
decreases-all_apart l = length l.stretches.now
