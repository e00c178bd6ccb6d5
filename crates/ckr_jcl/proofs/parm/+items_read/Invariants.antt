use Rattle.std.proofs.Common.{length}
use Rattle.ckr_jcl.proofs.parm.+items_read.Given as goal

abbrev pub decreases-items_read : goal.decreases-items_read
decreases-items_read l = length l.text.now
