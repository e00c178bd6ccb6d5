-- The place of an item in a list that a test parts.
use Rattle.std.specs.Prelude.{ℕ, suc, Bool, cond, List, [], ◌∷◌}

-- how many items lead the list that pass the test
abbrev pub lead : {A : Type 0} → (A → Bool) → List A → ℕ
lead p [] = 0
lead p (item ∷ items) = cond (p item) (suc (lead p items)) 0
