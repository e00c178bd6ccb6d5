-- What the steps of an accepted deck are to a run: no tests of return codes, and DDs such as allocation needs them.
use Rattle.std.proofs.Common.{◌≡◌, ◌≤◌, ℕ, zero, suc, true, false, List, [], ◌∷◌, ◌++◌, slice_get, refl, ap, sym, ◌∙◌, subst, Option, Some, None, Ok, arith}
use Rattle.std.specs.List.{AllByRecursion, cons_option, list_all}
use Rattle.std.specs.Option.{option_map, option_map_or}
use Rattle.std.proofs.lemmas.Option.{same_Some, slice_get-map}
use Rattle.ckr_base.proofs.Bools.{and-first, and-second}
use Rattle.ckr_base.proofs.Options.{option-cases, some-not-none}
use Rattle.ckr_base.proofs.Sequences.{each-get}
use Rattle.ckr_points_library.specs.Allocation.{fits_dd}
use Rattle.ckr_points_library.specs.AllocationSteps.{fits_named}
use Rattle.ckr_points_library.proofs.FreeSpace.{made_space}
use Rattle.ckr_jcl.specs.declared.deck.Cond.{Cond}
use Rattle.ckr_jcl.specs.declared.deck.Dd.{Dd}
use Rattle.ckr_jcl.specs.declared.deck.Job.{Job}
use Rattle.ckr_jcl.specs.declared.deck.Kind.{Kind}
use Rattle.ckr_jcl.specs.declared.deck.Step.{Step}
use Rattle.ckr_jcl_decks.specs.Parts.StepText.{StepText}
use Rattle.ckr_jcl_decks.specs.Deck.{job_of, step_with, stored_deck}
use Rattle.ckr_library.specs.NameMaps.{Name, entry_at}
use Rattle.ckr_meaning.specs.LibrarySet.{SetWays}
use Rattle.ckr_meaning.specs.Allotments.{is_passed}
use Rattle.ckr_meaning.specs.Dispositions.{Stock}
use Rattle.ckr_meaning.specs.EffectiveJob.{OwnedStep, name_of, owned_by, placed_from, placed_one, plain_job, step_at}
use Rattle.ckr_meaning.specs.JobRun.{StepCodes, is_bypassed}
use Rattle.ckr_desk_turn.proofs.Decks.AllocationNeeds.{all_fit}
use Rattle.ckr_desk_turn.proofs.Decks.CheckParts.{steps_checked}
use Rattle.ckr_desk_turn.proofs.Decks.DeckTests.{OfStep, steps_hold}
use Rattle.ckr_desk_turn.proofs.Decks.Texts.{IsReadFrom, read_from}
use Rattle.ckr_desk_turn.specs.DeckLimits.{FitsAllocation, HasCheckParts}
use Rattle.ckr_desk_turn.proofs.Start.Items.{IsAsked, Rises}

-- ---- tests of return codes

abbrev IsUntested : Step → Type 0
IsUntested step = step.cond ≡ []

untested-step : (step : StepText) (kind : Kind) → IsUntested (step_with step kind)
unfolding step_with
untested-step step kind = refl

untested-texts : (steps : List StepText) → AllByRecursion (OfStep IsUntested) steps
untested-texts [] = tt
untested-texts (step ∷ steps) = (λ kind is. untested-step step kind, untested-texts steps)

record HasNoTests (job : Job) : Type 0 where
  own : job.cond ≡ []
  steps : AllByRecursion IsUntested job.steps

untested-text : (job : Job) → IsReadFrom job → HasNoTests job
unfolding job_of
untested-text job read =
    subst HasNoTests (sym read.is)
    (record { own = refl; steps = steps_hold IsUntested read.text.steps (untested-texts read.text.steps) })

-- ---- a step of a run

-- the step is one of its deck
pub record IsOfDeck (run : ℕ) (deck : Job) (owned : OwnedStep) : Type 0 where
  pub place : ℕ
  pub step : Step
  pub at : slice_get deck.steps place ≡ Some step
  pub is : owned_by run deck step ≡ owned

pub of-deck : (run : ℕ) (deck : Job) (number : ℕ) (owned : OwnedStep) → step_at (plain_job run deck) number ≡ Some owned → IsOfDeck run deck owned
of-deck run deck zero owned found = absurd (some-not-none owned (sym found))
of-deck run deck (suc place) owned found =
    option-cases (slice_get deck.steps place)
    (λ none. absurd (some-not-none owned (sym found ∙ slice_get-map (owned_by run deck) deck.steps place ∙ ap (option_map (owned_by run deck)) none)))
    (λ step at. record {
      place = place;
      step = step;
      at = at;
      is = same_Some _ _ (sym (slice_get-map (owned_by run deck) deck.steps place ∙ ap (option_map (owned_by run deck)) at) ∙ found);
    })

-- no return code bypasses it
pub never-bypassed : (cards : List ℕ) (run : ℕ) (deck : Job) (number : ℕ) (owned : OwnedStep) (rcs : StepCodes) → stored_deck cards ≡ Ok deck → step_at (plain_job run deck) number ≡ Some owned → is_bypassed rcs owned ≡ false
never-bypassed cards run deck number owned rcs accepted found =
    let from : IsOfDeck run deck owned = of-deck run deck number owned found in
    let none : HasNoTests deck = untested-text deck (read_from cards deck accepted) in
    let tests : deck.cond ++ from.step.cond ≡ [] = ap (λ (own : List Cond). own ++ from.step.cond) none.own ∙ each-get IsUntested deck.steps from.place from.step none.steps from.at in
    subst (λ (one : OwnedStep). is_bypassed rcs one ≡ false) from.is
    (ap (λ (tests : List Cond). is_bypassed rcs (record { step = from.step; owner = run; tests = tests })) tests)

-- its DDs are such as allocation needs them
pub fits-allocation : (cards : List ℕ) (run : ℕ) (deck : Job) (number : ℕ) (owned : OwnedStep) (root : ℕ) → stored_deck cards ≡ Ok deck → step_at (plain_job run deck) number ≡ Some owned → list_all (fits_named (name_of root owned)) owned.step.dds ≡ true
fits-allocation cards run deck number owned root accepted found =
    let from : IsOfDeck run deck owned = of-deck run deck number owned found in
    subst (λ (one : OwnedStep). list_all (fits_named (name_of root one)) one.step.dds ≡ true) from.is
    (each-get FitsAllocation deck.steps from.place from.step (all_fit cards deck accepted) from.at root run)

-- and its checkpoints have what they are taken by
pub check-parts : (cards : List ℕ) (run : ℕ) (deck : Job) (number : ℕ) (owned : OwnedStep) → stored_deck cards ≡ Ok deck → step_at (plain_job run deck) number ≡ Some owned → HasCheckParts owned.step
check-parts cards run deck number owned accepted found =
    let from : IsOfDeck run deck owned = of-deck run deck number owned found in
    subst (λ (one : OwnedStep). HasCheckParts one.step) from.is (each-get HasCheckParts deck.steps from.place from.step (steps_checked cards deck accepted) from.at)

-- ---- the DDs that have data sets

module _ {X : Type 0} (ways : SetWays X) (standing : Stock X) (root : ℕ) (owned : OwnedStep) where
  -- their numbers rise
  pub rises : (low number : ℕ) (dds : List Dd) → low ≤ number → Rises low (placed_from ways standing root owned number dds)
  rises low number [] above = tt
  rises low number (dd ∷ dds) above =
      by (name_of root owned dd) (rises low (suc number) dds (omega (arith, above))) (rises (suc number) (suc number) dds (omega arith))
    where
      by : (name : Option Name) → Rises low (placed_from ways standing root owned (suc number) dds) → Rises (suc number) (placed_from ways standing root owned (suc number) dds)
          → Rises low (cons_option (option_map (placed_one ways standing number dd) name) (placed_from ways standing root owned (suc number) dds))
      by None here later = here
      by (Some name) here later = (above, later)

  -- and each is such as allocation needs it
  pub asks : (number : ℕ) (dds : List Dd) → list_all (fits_named (name_of root owned)) dds ≡ true → AllByRecursion IsAsked (placed_from ways standing root owned number dds)
  asks number [] fits = tt
  asks number (dd ∷ dds) fits =
      by (name_of root owned dd) (and-first (fits_named (name_of root owned) dd) _ fits) (asks (suc number) dds (and-second (fits_named (name_of root owned) dd) _ fits))
    where
      by : (name : Option Name) → option_map_or (λ (name : Name). fits_dd dd) name true ≡ true → AllByRecursion IsAsked (placed_from ways standing root owned (suc number) dds)
          → AllByRecursion IsAsked (cons_option (option_map (placed_one ways standing number dd) name) (placed_from ways standing root owned (suc number) dds))
      by None fit rest = rest
      by (Some name) fit rest = (record { fits = fit; space = λ makes. made_space dd (is_passed standing.passed name) (option_map ways.known (entry_at standing.sets name)) fit makes }, rest)
