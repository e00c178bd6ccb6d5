use Rattle.std.proofs.Common.{length}
use Rattle.ckr_points.proofs.syschk.+are_on_volumes.Given as goal

abbrev pub decreases-are_on_volumes : goal.decreases-are_on_volumes
decreases-are_on_volumes l = length l.volumes.now
