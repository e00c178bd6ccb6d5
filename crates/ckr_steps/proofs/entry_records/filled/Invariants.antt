use Rattle.std.proofs.Common.{◌≡◌, ◌++◌, take, replicate}
use Rattle.ckr_steps.proofs.entry_records.filled.Given as goal

abbrev pub invariant-loop-place : goal.invariant-loop-place
invariant-loop-place l = l.record.items ≡ take l.place (l.bytes ++ replicate 256 0)
