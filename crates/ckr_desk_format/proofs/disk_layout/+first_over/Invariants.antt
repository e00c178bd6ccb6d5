use Rattle.std.proofs.Common.{length}
use Rattle.ckr_desk_format.proofs.disk_layout.+first_over.Given as goal

abbrev pub decreases-first_over : goal.decreases-first_over
decreases-first_over l = length l.shares.now
