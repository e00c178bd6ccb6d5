use Rattle.std.proofs.Common.{length}
use Rattle.ckr_jcl_operands.proofs.parm_values.+with_undoubled.Given as goal

abbrev pub decreases-with_undoubled : goal.decreases-with_undoubled
decreases-with_undoubled l = length l.inside.now
