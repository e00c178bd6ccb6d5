use Rattle.std.proofs.Common.{◌≡◌, ◌++◌, take, replicate}
use Rattle.ckr_base.proofs.record_columns.filled.Given as goal

abbrev pub invariant-loop-place : goal.invariant-loop-place
invariant-loop-place g l = l.filled.items ≡ take l.place (l.bytes ++ replicate l.count 32)
