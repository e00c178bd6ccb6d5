-- No two steps of an accepted deck have one name. So the number of a step that a run executed itself is told by its name.
use Rattle.std.proofs.Common.{◌≡◌, ℕ, zero, suc, Bool, false, ◌||◌, List, [], ◌∷◌, ◌++◌, slice_get, refl, ap, sym, ◌∙◌, subst, Option, Some, None, Ok}
use Rattle.std.specs.Prelude.{bytes_eq}
use Rattle.std.specs.List.{AllByRecursion, cons_option, filter_map, list_any}
use Rattle.std.specs.Option.{option_map}
use Rattle.std.proofs.lemmas.Bool.{false≢true, or_parts}
use Rattle.std.proofs.lemmas.List.Folds.{list_any-append}
use Rattle.std.proofs.lemmas.Slice.Eq.{bytes_eq-Decides}
use Rattle.ckr_base.proofs.Options.{option_or-none, some-not-none}
use Rattle.ckr_base.proofs.Sequences.{each-get, each-implies}
use Rattle.ckr_jcl.specs.Text.{if_holds}
use Rattle.ckr_jcl.specs.declared.deck.Job.{Job}
use Rattle.ckr_jcl.specs.declared.deck.Kind.{Kind}
use Rattle.ckr_jcl.specs.declared.deck.Step.{Step}
use Rattle.ckr_jcl_decks.specs.Deck.{job_of, step_of, step_with, stored_deck}
use Rattle.ckr_jcl_decks.specs.DeckFaults.{has_step_name, repeated_dd, repeated_in, repeated_name}
use Rattle.ckr_jcl_decks.specs.Parts.StepText.{StepText}
use Rattle.ckr_desk_turn.proofs.Decks.Clashes.{if_none}
use Rattle.ckr_desk_turn.proofs.Decks.DeckTests.{OfStep, steps_hold}
use Rattle.ckr_desk_turn.proofs.Decks.Texts.{IsReadFrom, read_from}

-- ---- the texts of the steps

-- a step stands in the list: what no step of the list meets, it doesn't meet
abbrev StandsIn : StepText → List StepText → Type 0
StandsIn own steps = (test : StepText → Bool) → list_any test steps ≡ false → test own ≡ false

stands-more : (own other : StepText) (steps : List StepText) → StandsIn own steps → StandsIn own (steps ++ other ∷ [])
stands-more own other steps there test none = there test (or_parts (list_any test steps) (test other || false) (sym (list_any-append test steps (other ∷ [])) ∙ none)).0

stands-last : (own : StepText) (steps : List StepText) → StandsIn own (steps ++ own ∷ [])
stands-last own steps test none = (or_parts (test own) false (or_parts (list_any test steps) (test own || false) (sym (list_any-append test steps (own ∷ [])) ∙ none)).1).0

apart-behind : (own : StepText) (before rest : List StepText) → StandsIn own before → repeated_in before rest ≡ None → AllByRecursion (λ (later : StepText). bytes_eq own.name later.name ≡ false) rest
apart-behind own before [] there none = tt
apart-behind own before (step ∷ rest) there none =
    let one = option_or-none (if_holds (list_any (has_step_name step.name) before) step.card) _ none in
    let both = option_or-none (repeated_dd [] step.dds) (repeated_in (before ++ step ∷ []) rest) one.1 in
    (there (has_step_name step.name) (if_none (list_any (has_step_name step.name) before) step.card one.0), apart-behind own (before ++ step ∷ []) rest (stands-more own step before there) both.1)

-- ---- the steps

-- no later step has the name of an earlier one
abbrev pub AreApart : List Step → Type 0
AreApart [] = Unit {0}
AreApart (step ∷ rest) = AllByRecursion (λ (later : Step). bytes_eq step.name later.name ≡ false) rest × AreApart rest

named-apart : (name : List ℕ) (text : StepText) → bytes_eq name text.name ≡ false → OfStep (λ (step : Step). bytes_eq name step.name ≡ false) text
unfolding step_with
named-apart name text apart kind is = apart

named-as : (text : StepText) (kind : Kind) → (step_with text kind).name ≡ text.name
unfolding step_with
named-as text kind = refl

texts-apart : (before texts : List StepText) → repeated_in before texts ≡ None → AreApart (filter_map step_of texts)
texts-apart before [] none = tt
texts-apart before (text ∷ rest) none =
    let one = option_or-none (if_holds (list_any (has_step_name text.name) before) text.card) _ none in
    let both = option_or-none (repeated_dd [] text.dds) (repeated_in (before ++ text ∷ []) rest) one.1 in
    by text.program (apart-behind text (before ++ text ∷ []) rest (stands-last text before) both.1) (texts-apart (before ++ text ∷ []) rest both.1)
  where
    by : (program : Option Kind) → AllByRecursion (λ (later : StepText). bytes_eq text.name later.name ≡ false) rest → AreApart (filter_map step_of rest) → AreApart (cons_option (option_map (step_with text) program) (filter_map step_of rest))
    by None apart later = later
    by (Some kind) apart later = (
      subst (λ name. AllByRecursion (λ (step : Step). bytes_eq name step.name ≡ false) (filter_map step_of rest)) (sym (named-as text kind))
          (steps_hold (λ (step : Step). bytes_eq text.name step.name ≡ false) rest
          (each-implies (λ (later : StepText). bytes_eq text.name later.name ≡ false) (OfStep (λ (step : Step). bytes_eq text.name step.name ≡ false)) rest (named-apart text.name) apart)),
      later,
    )

apart-from : (deck : Job) → IsReadFrom deck → AreApart deck.steps
unfolding job_of repeated_name
apart-from deck read = subst (λ (job : Job). AreApart job.steps) (sym read.is) (texts-apart [] read.text.steps read.faultless.repeated)

pub deck-apart : (cards : List ℕ) (deck : Job) → stored_deck cards ≡ Ok deck → AreApart deck.steps
deck-apart cards deck accepted = apart-from deck (read_from cards deck accepted)

-- ---- by name

same-bytes : (one other : List ℕ) → one ≡ other → bytes_eq one other ≡ false → ⊥
same-bytes one other same apart = false≢true (sym apart ∙ (bytes_eq-Decides one other).1 same)

-- two steps of one name are the same
pub same-place : (steps : List Step) → AreApart steps → (one other : ℕ) (first second : Step) → slice_get steps one ≡ Some first → slice_get steps other ≡ Some second → first.name ≡ second.name → one ≡ other
same-place [] apart one other first second at there same = absurd (some-not-none first (sym at))
same-place (step ∷ rest) apart zero zero first second at there same = refl
same-place (step ∷ rest) apart zero (suc other) first second at there same =
    absurd (same-bytes first.name second.name same (subst (λ (own : Step). bytes_eq own.name second.name ≡ false) (is at) (each-get (λ (later : Step). bytes_eq step.name later.name ≡ false) rest other second apart.0 there)))
  where
    is : Some step ≡ Some first → step ≡ first
    is e = cc
same-place (step ∷ rest) apart (suc one) zero first second at there same =
    absurd (same-bytes second.name first.name (sym same) (subst (λ (own : Step). bytes_eq own.name first.name ≡ false) (is there) (each-get (λ (later : Step). bytes_eq step.name later.name ≡ false) rest one first apart.0 at)))
  where
    is : Some step ≡ Some second → step ≡ second
    is e = cc
same-place (step ∷ rest) apart (suc one) (suc other) first second at there same = ap suc (same-place rest apart.1 one other first second at there same)
