use Rattle.std.proofs.Common.{◌≡◌}
use Rattle.ckr_service.specs.MadeStream.{made_stream}
use Rattle.ckr_service.proofs.made_stream.stream_of.Given as goal

abbrev pub invariant-loop-made : goal.invariant-loop-made
invariant-loop-made l = l.text ≡ made_stream l.made
