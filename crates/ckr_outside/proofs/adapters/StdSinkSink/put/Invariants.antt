use Rattle.std.specs.Prelude.{◌≡◌}
use Rattle.std.specs.Io.KnownBytes.{Keeps}
use Rattle.ckr_outside.proofs.adapters.StdSinkSink.put.Given as goal

abbrev pub invariant-loop : goal.invariant-loop
invariant-loop g l =
    Keeps (g.W.Write.contents l.initial.self.inner) (g.W.Write.contents l.self.inner)
    × (l.self.failures ≡ l.initial.self.failures) × (l.bytes ≡ l.initial.bytes)
