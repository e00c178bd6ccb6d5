-- Tests over the DDs and the steps of a deck: what no DD meets, and what each step of the job meets.
use Rattle.std.proofs.Common.{◌≡◌, ℕ, Bool, true, false, List, [], ◌∷◌, map, Option, Some, None, find, refl, sym, cond}
use Rattle.std.specs.List.{AllByRecursion, cons_option, filter_map, list_all}
use Rattle.std.specs.Option.{option_map}
use Rattle.std.proofs.lemmas.Option.{none-some}
use Rattle.std.proofs.lemmas.Bool.{and_from}
use Rattle.ckr_base.proofs.Options.{option_or-none}
use Rattle.ckr_jcl.specs.declared.deck.Kind.{Kind}
use Rattle.ckr_jcl.specs.declared.deck.Step.{Step}
use Rattle.ckr_jcl_decks.specs.Parts.DdText.{DdText}
use Rattle.ckr_jcl_decks.specs.Parts.StepText.{StepText}
use Rattle.ckr_jcl_decks.specs.DeckFaults.{dd_card, dd_in_steps, dd_where}
use Rattle.ckr_jcl_decks.specs.Deck.{step_of, step_with}

pub all_pass : {X Y : Type 0} (test : Y → Bool) (f : X → Y) (xs : List X) → AllByRecursion (λ x. test (f x) ≡ true) xs → list_all test (map f xs) ≡ true
all_pass test f [] all = refl
all_pass test f (x ∷ xs) all = and_from (test (f x)) (list_all test (map f xs)) all.0 (all_pass test f xs all.1)

-- ---- DDs

pub map_none : {X : Type 0} (card : X → ℕ) (found : Option X) → option_map card found ≡ None → found ≡ None
map_none card None none = refl
map_none card (Some x) none = absurd (none-some (card x) (sym none))

-- no DD meets a test
abbrev pub NoneMeets : (DdText → Bool) → List DdText → Type 0
NoneMeets test dds = AllByRecursion (λ dd. test dd ≡ false) dds

pub none_found : {X : Type 0} (test : X → Bool) (xs : List X) → find test xs ≡ None → AllByRecursion (λ x. test x ≡ false) xs
none_found test [] none = tt
none_found {X} test (x ∷ xs) none = by_test (none_found test xs) (test x) refl none
  where
    by_test : (find test xs ≡ None → AllByRecursion (λ x. test x ≡ false) xs) → (b : Bool) → test x ≡ b → cond b (Some x) (find test xs) ≡ None → (test x ≡ false) × AllByRecursion (λ x. test x ≡ false) xs
    by_test later true is none = absurd (none-some x (sym none))
    by_test later false is none = (is, later none)

pub none_meets : (test : DdText → Bool) (steps : List StepText) → dd_in_steps test steps ≡ None → AllByRecursion (λ step. NoneMeets test step.dds) steps
none_meets test [] none = tt
none_meets test (step ∷ rest) none =
    let both = option_or-none (dd_where test step.dds) (dd_in_steps test rest) none in
    (none_found test step.dds (map_none dd_card (find test step.dds) both.0), none_meets test rest both.1)

-- ---- steps

-- what holds of a step with each program that it may name
abbrev pub OfStep : (Step → Type 0) → StepText → Type 0
OfStep P step = (kind : Kind) → step.program ≡ Some kind → P (step_with step kind)

pub steps_hold : (P : Step → Type 0) (steps : List StepText) → AllByRecursion (OfStep P) steps → AllByRecursion P (filter_map step_of steps)
steps_hold P [] all = tt
steps_hold P (step ∷ rest) all = by_program (steps_hold P rest all.1) step.program refl
  where
    by_program : AllByRecursion P (filter_map step_of rest) → (program : Option Kind) → step.program ≡ program → AllByRecursion P (cons_option (option_map (step_with step) program) (filter_map step_of rest))
    by_program later None is = later
    by_program later (Some kind) is = (all.0 kind is, later)
