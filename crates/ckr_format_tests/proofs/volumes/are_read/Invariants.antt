use Rattle.std.proofs.Common.{◌≡◌, length}
use Rattle.ckr_outside.specs.MemDisk.{content_of}
use Rattle.ckr_format_tests.proofs.volumes.are_read.Given as goal

abbrev pub invariant-loop-place : goal.invariant-loop-place
invariant-loop-place l = length (content_of l.disk) ≡ length (content_of l.initial.disk)
