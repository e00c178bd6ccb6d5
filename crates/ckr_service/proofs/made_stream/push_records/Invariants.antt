use Rattle.std.proofs.Common.{◌≡◌, ◌++◌}
use Rattle.ckr_service.specs.MadeStream.{made_records}
use Rattle.ckr_service.proofs.made_stream.push_records.Given as goal

abbrev pub invariant-loop-number : goal.invariant-loop-number
invariant-loop-number l = l.out ≡ l.fn.out ++ made_records l.job l.number
