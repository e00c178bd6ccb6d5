use Rattle.std.proofs.Common.{length, ◌-◌}
use Rattle.ckr_outside.proofs.file_disk.read_or_zeros.Given as goal

-- proposed from the loop's first test
abbrev pub decreases-loop-filled : goal.decreases-loop-filled
decreases-loop-filled l = length l.initial.buf - l.filled
