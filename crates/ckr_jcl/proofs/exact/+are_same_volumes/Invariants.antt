use Rattle.std.proofs.Common.{length}
use Rattle.ckr_jcl.proofs.exact.+are_same_volumes.Given as goal

abbrev pub decreases-are_same_volumes : goal.decreases-are_same_volumes
decreases-are_same_volumes l = length l.first.now
