use Rattle.std.proofs.Common.{length}
use Rattle.ckr_points.proofs.statements.+same_dds.Given as goal

abbrev pub decreases-same_dds : goal.decreases-same_dds
decreases-same_dds l = length l.first.now
