-- Bytes that a source gives piece by piece.
-- Consumes-kept          bytes are given, and then none
use Rattle.std.proofs.Common.{ℕ, List, ◌++◌, ◌∙◌, Option, None, Some, sym, ap}
use Rattle.std.specs.Io.KnownBytes.{Consumes, Keeps}

pub Consumes-kept : (a b c : Option (List ℕ)) (xs : List ℕ) → Consumes a b xs → Keeps b c → Consumes a c xs
Consumes-kept None b c xs p q = tt
Consumes-kept (Some x) None c xs p q = absurd p
Consumes-kept (Some x) (Some y) None xs p q = absurd q
Consumes-kept (Some x) (Some y) (Some z) xs p q = p ∙ ap (λ l. xs ++ l) (sym q)
