use Rattle.std.proofs.Common.{length}
use Rattle.ckr_jcl_operands.proofs.parm_values.+with_items.Given as goal

abbrev pub decreases-with_items : goal.decreases-with_items
decreases-with_items l = length l.list.now
