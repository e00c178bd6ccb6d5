-- The blanks at the end of a text.
use Rattle.std.proofs.Common.{◌≡◌, ℕ, true, false, List, [], ◌∷◌, ◌++◌, refl, ap, ◌∙◌, arith}
use Rattle.std.proofs.lemmas.Grind.{common_steps}
use Rattle.ckr_base.specs.Words.{is_blank, trimmed, before_trimmed}

pub trimmed-blank : (xs : List ℕ) (y : ℕ) → is_blank y ≡ true → trimmed (xs ++ y ∷ []) ≡ trimmed xs
trimmed-blank [] y blank = grind (arith, common_steps)
trimmed-blank (x ∷ xs) y blank = ap (before_trimmed x) (trimmed-blank xs y blank)

before_trimmed-more : (x y : ℕ) (xs : List ℕ) → before_trimmed x (xs ++ y ∷ []) ≡ x ∷ (xs ++ y ∷ [])
before_trimmed-more x y [] = refl
before_trimmed-more x y (z ∷ xs) = refl

pub trimmed-kept : (xs : List ℕ) (y : ℕ) → is_blank y ≡ false → trimmed (xs ++ y ∷ []) ≡ xs ++ y ∷ []
trimmed-kept [] y kept = grind (arith, common_steps)
trimmed-kept (x ∷ xs) y kept = ap (before_trimmed x) (trimmed-kept xs y kept) ∙ before_trimmed-more x y xs
