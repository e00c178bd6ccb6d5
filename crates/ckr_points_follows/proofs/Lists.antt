-- Tests of lists that a function goes through.
use Rattle.std.proofs.Common.{◌≡◌, ℕ, zero, suc, ◌&&◌, ◌||◌, Bool, false, List, [], ◌∷◌, flat_map, slice_get, refl, ap, ◌∙◌, Some, None, Option}
use Rattle.std.specs.Option.{option_map_or, option_to_list}
use Rattle.std.specs.List.{list_all, list_any}
use Rattle.std.proofs.lemmas.List.Folds.{list_any-append}
use Rattle.ckr_base.proofs.Bools.{or-false}

pub any-flat_mapped : {A B : Type 0} (f : A → List B) (test : B → Bool) (items : List A) → list_any test (flat_map f items) ≡ list_any (λ item. list_any test (f item)) items
any-flat_mapped f test [] = refl
any-flat_mapped f test (item ∷ items) = list_any-append test (f item) (flat_map f items) ∙ ap (λ b. list_any test (f item) || b) (any-flat_mapped f test items)

pub any-option : {A : Type 0} (test : A → Bool) (found : Option A) → list_any test (option_to_list found) ≡ option_map_or test found false
any-option test None = refl
any-option test (Some item) = or-false (test item)

-- tests that agree on each item of a list
pub all-same : {A : Type 0} (one other : A → Bool) (items : List A) → ((place : ℕ) (item : A) → slice_get items place ≡ Some item → one item ≡ other item) → list_all one items ≡ list_all other items
all-same one other [] same = refl
all-same one other (item ∷ items) same = λ i. same zero item refl i && all-same one other items (λ place. same (suc place)) i
