use Rattle.std.proofs.Common.{length}
use Rattle.ckr_jcl_operands.proofs.dcb_values.+parts_read.Given as goal

abbrev pub decreases-parts_read : goal.decreases-parts_read
decreases-parts_read l = length l.list.now
