-- The lines of a list, one element after another.
use Rattle.std.proofs.Common.{◌≡◌, ◌≤◌, ◌+◌, ℕ, zero, suc, List, [], ◌∷◌, ◌++◌, length, take, None, Some, slice_get, sym, ap, ◌∙◌, append_assoc, append-nil, arith}
use Rattle.std.specs.List.{flat_map}
use Rattle.std.proofs.lemmas.Grind.{flat_map-append}
use Rattle.std.proofs.lemmas.List.{take_all, take_more}
use Rattle.std.proofs.lemmas.Option.{get_or_from_slice_get, none-some, slice_get_within}

pub past : {X : Type 0} (l : List X) (n : ℕ) → None ≡ slice_get l n → length l ≤ n
past [] n is = omega arith
past (x ∷ xs) zero is = absurd (none-some x is)
past (x ∷ xs) (suc n) is = omega (arith, past xs n is)

-- one line more
pub listed_more : {X : Type 0} (f : X → List ℕ) (l : List X) (n : ℕ) (x : X) (before mid now : List ℕ) → Some x ≡ slice_get l n
    → mid ≡ before ++ flat_map f (take n l) → now ≡ mid ++ f x → now ≡ before ++ flat_map f (take (n + 1) l)
listed_more f l n x before mid now found so written =
    let more : take (n + 1) l ≡ take n l ++ x ∷ [] =
    take_more l n x (slice_get_within l n x (sym found)) ∙ ap (λ y. take n l ++ y ∷ []) (get_or_from_slice_get l n x x (sym found)) in
    written ∙ ap (λ t. t ++ f x) so ∙ append_assoc before (flat_map f (take n l)) (f x)
    ∙ ap (λ t. before ++ t)
    (ap (λ t. flat_map f (take n l) ++ t) (sym (append-nil (f x))) ∙ sym (flat_map-append f (take n l) (x ∷ [])) ∙ ap (flat_map f) (sym more))

-- there is none behind the last
pub listed_all : {X : Type 0} (f : X → List ℕ) (l : List X) (n : ℕ) (before mid : List ℕ) → None ≡ slice_get l n
    → mid ≡ before ++ flat_map f (take n l) → mid ≡ before ++ flat_map f l
listed_all f l n before mid none so = so ∙ ap (λ xs. before ++ flat_map f xs) (take_all n l (past l n none))
