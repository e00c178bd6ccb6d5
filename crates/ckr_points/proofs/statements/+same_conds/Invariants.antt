use Rattle.std.proofs.Common.{length}
use Rattle.ckr_points.proofs.statements.+same_conds.Given as goal

abbrev pub decreases-same_conds : goal.decreases-same_conds
decreases-same_conds l = length l.first.now
