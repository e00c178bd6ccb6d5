use Rattle.std.specs.Prelude.{◌≡◌, length}
use Rattle.std.specs.Io.KnownBytes.{Keeps}
use Rattle.ckr_outside.proofs.adapters.StdSourceSource.take.Given as goal

abbrev pub invariant-loop : goal.invariant-loop
invariant-loop g l =
    Keeps (g.R.Read.remaining l.initial.self.inner) (g.R.Read.remaining l.self.inner)
    × (l.self.failures ≡ l.initial.self.failures) × (length l.buf ≡ length l.initial.buf)
