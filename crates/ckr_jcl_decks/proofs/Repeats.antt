-- What was met of the items before one, and of the items behind it.
use Rattle.std.proofs.Common.{◌≡◌, ℕ, ◌+◌, ◌<◌, ◌||◌, Bool, true, false, List, [], ◌∷◌, ◌++◌, length, take, get_or, refl, arith}
use Rattle.std.proofs.lemmas.Grind.{common_steps}

pub front : {X : Type 0} (xs : List X) (i : ℕ) (x : X) → i < length xs → x ≡ get_or xs i x → take (i + 1) xs ≡ take i xs ++ x ∷ []
front xs i x inside is = grind (arith, common_steps)

or-behind : (a b : Bool) → (a || b) ≡ (b || (a || false))
or-behind true true = refl
or-behind true false = refl
or-behind false true = refl
or-behind false false = refl
