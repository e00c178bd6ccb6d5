-- The steps of a run that continues another one, and their names: the steps that it executes itself are the one at which it continues the other
-- one, and those of its own deck behind it.
use Rattle.std.proofs.Common.{◌≡◌, ℕ, zero, suc, true, List, [], ◌∷◌, ◌++◌, map, flat_map, take, drop, ap, sym, ◌∙◌, Some}
use Rattle.std.specs.Prelude.{slice_get}
use Rattle.std.proofs.lemmas.Bool.{or_left, or_right}
use Rattle.std.proofs.lemmas.List.Folds.{list_any-append}
use Rattle.std.proofs.lemmas.Option.{same_Some}
use Rattle.ckr_base.proofs.Options.{some-not-none}
use Rattle.ckr_jcl.specs.declared.deck.Job.{Job}
use Rattle.ckr_jcl.specs.declared.deck.Step.{Step}
use Rattle.ckr_library.specs.NameMaps.{Name, same_name}
use Rattle.ckr_meaning.specs.EffectiveJob.{Effective, OwnedStep, is_among, owned_by, step_at}
use Rattle.ckr_points.specs.Restart.{spliced}

-- ---- names in lists

-- the names that an item of a list gives are among those of the list
pub among-at : {A : Type 0} (names : A → List Name) (items : List A) (place : ℕ) (item : A) (name : Name) → slice_get items place ≡ Some item → is_among (names item) name ≡ true → is_among (flat_map names items) name ≡ true
among-at names [] place item name found among = absurd (some-not-none item (sym found))
among-at names (first ∷ rest) zero item name found among =
    list_any-append (same_name name) (names first) (flat_map names rest)
    ∙ or_left (is_among (names first) name) _ (ap (λ one. is_among (names one) name) (same_Some first item found) ∙ among)
among-at names (first ∷ rest) (suc place) item name found among =
    list_any-append (same_name name) (names first) (flat_map names rest)
    ∙ or_right (is_among (names first) name) _ (among-at names rest place item name found among)

pub among-rest : {A : Type 0} (names : A → List Name) (count : ℕ) (items : List A) (name : Name) → is_among (flat_map names (drop count items)) name ≡ true → is_among (flat_map names items) name ≡ true
among-rest names zero items name among = among
among-rest names (suc count) [] name among = among
among-rest names (suc count) (first ∷ rest) name among =
    list_any-append (same_name name) (names first) (flat_map names rest)
    ∙ or_right (is_among (names first) name) _ (among-rest names count rest name among)

-- what stands at a place stands in the front or behind it
front-or-behind : {A B : Type 0} (count place : ℕ) (items others : List A) (item : A) → slice_get (take count items ++ others) place ≡ Some item → (slice_get items place ≡ Some item → B) → ((behind : ℕ) → slice_get others behind ≡ Some item → B) → B
front-or-behind zero place items others item found front rest = rest place found
front-or-behind (suc count) place [] others item found front rest = rest place found
front-or-behind (suc count) zero (first ∷ items) others item found front rest = front found
front-or-behind (suc count) (suc place) (first ∷ items) others item found front rest = front-or-behind count place items others item found front rest

-- and their owner
pub owner-is : (run : ℕ) (deck : Job) (steps : List Step) (place : ℕ) (owned : OwnedStep) → slice_get (map (owned_by run deck) steps) place ≡ Some owned → owned.owner ≡ run
owner-is run deck [] place owned found = absurd (some-not-none owned (sym found))
owner-is run deck (first ∷ rest) zero owned found = sym (ap (λ (one : OwnedStep). one.owner) (same_Some (owned_by run deck first) owned found))
owner-is run deck (first ∷ rest) (suc place) owned found = owner-is run deck rest place owned found

-- ---- the steps of a run that continues another one

-- each of its steps is one of the earlier job, or its own
pub step-either : {B : Type 0} (earlier : Effective) (step run : ℕ) (deck : Job) (number : ℕ) (owned : OwnedStep) → step_at (spliced earlier step run deck) number ≡ Some owned → (step_at earlier number ≡ Some owned → B) → (owned.owner ≡ run → B) → B
step-either earlier step run deck zero owned found front mine = absurd (some-not-none owned (sym found))
step-either earlier step run deck (suc before) owned found front mine =
    front-or-behind step before earlier.steps (map (owned_by run deck) (drop step deck.steps)) owned found front
    (λ behind at. mine (owner-is run deck (drop step deck.steps) behind owned at))
