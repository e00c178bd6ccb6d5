-- Where a run owns the steps of its job from one on: if the data sets before this step begin what the steps of their stamps write, so do those at
-- each later place to which the job comes.
use Rattle.std.proofs.Common.{◌≡◌, ◌≤◌, ◌<◌, inl, inr, ℕ, zero, suc, pred, ◌+◌, Bool, true, false, ◌&&◌, List, [], ◌∷◌, ◌++◌, take, length, refl, ap, sym, ◌∙◌, subst, Option, Some, None, arith}
use Rattle.std.specs.Prelude.{◌==◌}
use Rattle.std.specs.Option.{option_map_or}
use Rattle.std.proofs.lemmas.Bool.{false≢true}
use Rattle.ckr_base.proofs.Bools.{bool-cases}
use Rattle.ckr_base.proofs.Numbers.{equal-apart, equal-true, number-cases}
use Rattle.ckr_base.proofs.Options.{option-cases}
use Rattle.ckr_base.proofs.Sequences.{length-take, take-next}
use Rattle.ckr_library.specs.declared.sets.Stamp.{Stamp}
use Rattle.ckr_library.specs.NameMaps.{Name, entry_at}
use Rattle.ckr_meaning.specs.LibrarySet.{Library, LibrarySet}
use Rattle.ckr_meaning.specs.Dispositions.{Stock}
use Rattle.ckr_meaning.specs.EffectiveJob.{OwnedStep, flaws_in, step_at}
use Rattle.ckr_meaning.specs.declared.place.Place.{Place}
use Rattle.ckr_meaning.specs.declared.place.Place.TheVariants.{Before, Opened, Within}
use Rattle.ckr_meaning.specs.StepRun.{StepStart, opened_at, placed_at, within_at, work_at}
use Rattle.ckr_meaning.specs.JobRun.{Walk, all_go_on, at, end_in, is_bypassed, start_at, step_walked, walk_before, walk_from, walked, walked_by, walked_one}
use Rattle.ckr_meaning.proofs.JobEnds.{all_go_on-step, go_on_unless}
use Rattle.ckr_meaning.proofs.Walks.{walk_before-next}
use Rattle.ckr_points.specs.Office.{Leg, Office, leg_of}
use Rattle.ckr_points.specs.Payload.{is_formed, is_formed_step}
use Rattle.ckr_points.specs.Restart.{step_in}
use Rattle.ckr_points.specs.Soundness.{stamped_writes}
use Rattle.ckr_points_invariant.specs.Invariant.{AreBegun, HasBegun, IsReached}
use Rattle.ckr_points_invariant.specs.RunningSteps.{start_of}
use Rattle.ckr_points_invariant.proofs.Holders.Rows.{step-all}
use Rattle.ckr_points_invariant.proofs.Stamps.Beginnings.{begun-as, disposed-from, take-past, opened-none, within-none}
use Rattle.ckr_points_invariant.proofs.Stamps.Steps.{IsOfStep, Outcome, opened-outcome, within-outcome}
use Rattle.ckr_points_invariant.proofs.Steps.Walks.{at-before, at-opened, at-within, start_at-of}
use Rattle.ckr_points_invariant.proofs.PassedNames.Walks.{flawless-on}

-- ---- steps that go on

-- steps go on, and the one behind them has no end
abbrev GoOnTo : ℕ → ℕ → List OwnedStep → OwnedStep → Walk → Type 0
GoOnTo root number front owned walk = (all_go_on root number front walk ≡ true) × (end_in root (number + length front) owned (walked root number front walk) ≡ None)

-- so it is where steps and one more go on
all_go_on-less : (root number : ℕ) (front : List OwnedStep) (owned : OwnedStep) (walk : Walk) → all_go_on root number (front ++ owned ∷ []) walk ≡ true → GoOnTo root number front owned walk
all_go_on-less root number [] owned walk goes =
    (refl, ap (λ n. end_in root n owned walk) (let e : number + 0 ≡ number = omega arith in e) ∙ by (end_in root number owned walk) (sym (all_go_on-step root number owned [] walk) ∙ goes))
  where
    by : (place : Option Place) → go_on_unless place true ≡ true → place ≡ None
    by None e = refl
    by (Some place) e = absurd (false≢true e)
all_go_on-less root number (first ∷ front) owned walk goes =
    by (end_in root number first walk) refl (sym (all_go_on-step root number first (front ++ owned ∷ []) walk) ∙ goes) (λ others. all_go_on-less root (suc number) front owned (walked_one root number first walk) others)
  where
    by : (place : Option Place) → end_in root number first walk ≡ place → go_on_unless place (all_go_on root (suc number) (front ++ owned ∷ []) (walked_one root number first walk)) ≡ true
        → (all_go_on root (suc number) (front ++ owned ∷ []) (walked_one root number first walk) ≡ true → GoOnTo root (suc number) front owned (walked_one root number first walk))
        → (all_go_on root number (first ∷ front) walk ≡ true) × (end_in root (number + suc (length front)) owned (walked root (suc number) front (walked_one root number first walk)) ≡ None)
    by (Some place) e goes more = absurd (false≢true goes)
    by None e goes more =
        let its = more goes in (
          all_go_on-step root number first front walk ∙ ap (λ place. go_on_unless place (all_go_on root (suc number) front (walked_one root number first walk))) e ∙ its.0,
          ap (λ n. end_in root n owned (walked root (suc number) front (walked_one root number first walk))) (let s : number + suc (length front) ≡ suc number + length front = omega arith in s) ∙ its.1,
        )

-- ---- before a step

-- a data set before a step: one with a stamp of the run has it of an earlier step
pub record Sits (office : Office) (number step : ℕ) (name : Name) (set : LibrarySet) : Type 0 where
  pub begins : HasBegun office name set
  pub early : set.stamp.run ≡ number → set.stamp.step < step

abbrev pub AreSeated : Office → ℕ → ℕ → Library → Type 0
AreSeated office number step library = (name : Name) (set : LibrarySet) → entry_at library name ≡ Some set → Sits office number step name set

seated-later : (office : Office) (number step later : ℕ) (name : Name) (set : LibrarySet) → step ≤ later → Sits office number step name set → Sits office number later name set
seated-later office number step later name set low its = record {
  begins = its.begins;
  early = λ mine. let before : set.stamp.step < step = its.early mine in omega (arith, low, before);
}

abbrev pub GoesTo : Leg → ℕ → Type 0
GoesTo leg before = all_go_on leg.job.root 1 (take before leg.job.steps) (walk_from leg.start) ≡ true

-- the data sets behind so many steps
abbrev pub sets_behind : Leg → ℕ → Library
sets_behind leg before = (walk_before leg.job leg.start (suc before)).standing.sets

module _ (office : Office) (leg : Leg) (number from : ℕ) (led : leg_of office number ≡ Some leg) (formed : is_formed leg.job ≡ true)
    (owns : (step : ℕ) (owned : OwnedStep) → from < step → step_at leg.job step ≡ Some owned → owned.owner ≡ number)
    (begun : GoesTo leg from → AreSeated office number (suc from) (sets_behind leg from)) where
  -- ---- a step that the run owns

  module _ (step : ℕ) (owned : OwnedStep) (later : from < step) (found : step_at leg.job step ≡ Some owned) where
    abbrev start : StepStart
    start = start_of leg.job leg.start step owned

    abbrev before : Library
    before = (walk_before leg.job leg.start step).standing.sets

    mine : owned.owner ≡ number
    mine = owns step owned later found

    of_step : (name : Name) (set : LibrarySet) → IsOfStep start name set → HasBegun office name set
    of_step name set its = record {
      last = its.last;
      found =
          ap (λ library. entry_at library name) (
          ap (λ n. option_map_or (λ (leg : Leg). option_map_or (λ start. within_at start (stamped_writes (work_at start).writes set.stamp.rewrites)) (start_at leg.job leg.start set.stamp.step) []) (leg_of office n) []) (its.run ∙ mine)
          ∙ ap (λ (o : Option Leg). option_map_or (λ (leg : Leg). option_map_or (λ start. within_at start (stamped_writes (work_at start).writes set.stamp.rewrites)) (start_at leg.job leg.start set.stamp.step) []) o []) led
          ∙ ap (λ n. option_map_or (λ start. within_at start (stamped_writes (work_at start).writes set.stamp.rewrites)) (start_at leg.job leg.start n) []) its.step
          ∙ ap (λ (o : Option StepStart). option_map_or (λ start. within_at start (stamped_writes (work_at start).writes set.stamp.rewrites)) o []) (start_at-of leg.job leg.start step owned found))
          ∙ its.found;
      content = its.content;
      lrecl = its.lrecl;
      space = its.space;
      begins = its.begins;
    }

    module _ (seated : AreSeated office number step before) where
      outcome_seated : (name : Name) (set : LibrarySet) → Outcome start name set → Sits office number (suc step) name set
      outcome_seated name set outcome =
          elim outcome [
            | inl same ↦ seated-later office number step (suc step) name set (omega arith) (seated name set same)
            | inr its ↦ record { begins = of_step name set its; early = λ mine. let e : set.stamp.step ≡ step = its.step in omega (arith, e) }
          ]

      fresh : (name : Name) (set : LibrarySet) → entry_at before name ≡ Some set → (set.stamp.run == owned.owner && set.stamp.step == step) ≡ false
      fresh name set e =
          bool-cases (set.stamp.run == owned.owner)
          (λ its.
          let low : set.stamp.step < step = (seated name set e).early (equal-true set.stamp.run owned.owner its ∙ mine) in
          ap (λ b. b && set.stamp.step == step) its ∙ equal-apart set.stamp.step step (λ same. absurd (omega (arith, low, same))))
          (λ other. ap (λ b. b && set.stamp.step == step) other)

      formed_step : is_formed_step leg.job.root owned ≡ true
      formed_step = step-all (is_formed_step leg.job.root) leg.job step owned formed found

      module _ (flawless : flaws_in (placed_at start) ≡ []) where
        opened_seated : AreSeated office number (suc step) (opened_at start)
        opened_seated name set e = outcome_seated name set (opened-outcome start name formed_step flawless (fresh name) set e)

        within_seated : (writes : ℕ) → writes ≤ length (work_at start).writes → AreSeated office number (suc step) (within_at start writes)
        within_seated writes some name set e = outcome_seated name set (within-outcome start name formed_step flawless (fresh name) writes set some e)

        walked_seated : AreSeated office number (suc step) (step_walked start (walk_before leg.job leg.start step)).standing.sets
        unfolding step_walked
        walked_seated name set e =
            let old = disposed-from start false (within_at start (length (work_at start).writes)) name set e in
            let its : Sits office number (suc step) name old.0 = within_seated (length (work_at start).writes) (omega arith) name old.0 old.1 in
            record {
              begins = begun-as office name old.0 set old.2 its.begins;
              early = λ mine. subst (λ (stamp : Stamp). stamp.step < suc step) old.2.stamp (its.early (ap (λ (stamp : Stamp). stamp.run) old.2.stamp ∙ mine));
            }

      -- bypassed or not
      behind_seated : end_in leg.job.root step owned (walk_before leg.job leg.start step) ≡ None → AreSeated office number (suc step) (walked_one leg.job.root step owned (walk_before leg.job leg.start step)).standing.sets
      unfolding walked_one
      behind_seated none = by (is_bypassed (walk_before leg.job leg.start step).rcs owned) refl
        where
          by : (bypassed : Bool) → is_bypassed (walk_before leg.job leg.start step).rcs owned ≡ bypassed → AreSeated office number (suc step) (walked_by bypassed start (walk_before leg.job leg.start step)).standing.sets
          by true how name set e = seated-later office number step (suc step) name set (omega arith) (seated name set e)
          by false how name set e = walked_seated (flawless-on leg.job.root step owned (walk_before leg.job leg.start step) none how) name set e

  -- ---- from step to step

  -- behind one more step
  more_seated : (before : ℕ) → from ≤ before → (GoesTo leg before → AreSeated office number (suc before) (sets_behind leg before)) → GoesTo leg (suc before) → AreSeated office number (suc (suc before)) (sets_behind leg (suc before))
  unfolding walk_before
  more_seated before low earlier goes = by (step_at leg.job (suc before)) refl
    where
      by : (step : Option OwnedStep) → step_at leg.job (suc before) ≡ step → AreSeated office number (suc (suc before)) (sets_behind leg (suc before))
      by None none name set e =
          let same : take (suc before) leg.job.steps ≡ take before leg.job.steps = take-past before leg.job.steps none in
          seated-later office number (suc before) (suc (suc before)) name set (omega arith)
          (earlier (ap (λ steps. all_go_on leg.job.root 1 steps (walk_from leg.start)) (sym same) ∙ goes) name set
          (ap (λ steps. entry_at (walked leg.job.root 1 steps (walk_from leg.start)).standing.sets name) (sym same) ∙ e))
      by (Some owned) found name set e =
          let parts = all_go_on-less leg.job.root 1 (take before leg.job.steps) owned (walk_from leg.start) (ap (λ steps. all_go_on leg.job.root 1 steps (walk_from leg.start)) (sym (take-next before leg.job.steps owned found)) ∙ goes) in
          let long : length (take before leg.job.steps) ≡ before = length-take before leg.job.steps owned found in
          let count : suc before ≡ 1 + length (take before leg.job.steps) = omega (arith, long) in
          let none : end_in leg.job.root (suc before) owned (walk_before leg.job leg.start (suc before)) ≡ None =
          ap (λ n. end_in leg.job.root n owned (walked leg.job.root 1 (take before leg.job.steps) (walk_from leg.start))) count ∙ parts.1 in
          behind_seated (suc before) owned (omega (arith, low)) found (earlier parts.0) none name set
          (ap (λ (w : Walk). entry_at w.standing.sets name) (sym (walk_before-next leg.job leg.start before owned found)) ∙ e)

  behind_steps : (before : ℕ) → from ≤ before → GoesTo leg before → AreSeated office number (suc before) (sets_behind leg before)
  behind_steps zero low =
      let here : from ≡ 0 = omega (arith, low) in
      subst (λ n. GoesTo leg n → AreSeated office number (suc n) (sets_behind leg n)) here begun
  behind_steps (suc before) low =
      number-cases from (suc before)
      (λ here. subst (λ n. GoesTo leg n → AreSeated office number (suc n) (sets_behind leg n)) here begun)
      (λ apart.
      let less : from ≤ before = omega (arith, low, apart) in
      more_seated before less (behind_steps before less))

  before_step : (step : ℕ) → from < step → GoesTo leg (pred step) → AreSeated office number step (walk_before leg.job leg.start step).standing.sets
  before_step zero later goes = absurd (omega (arith, later))
  before_step (suc before) later goes = behind_steps before (omega (arith, later)) goes

  -- at each place behind that step
  pub later-begun : (place : Place) → from < step_in place → IsReached leg place → AreBegun office (at leg.job leg.start place).sets
  later-begun (Before step) later reached name set e =
      (before_step step later reached.goes_on name set (ap (λ (standing : Stock LibrarySet). entry_at standing.sets name) (sym (at-before leg.job leg.start step)) ∙ e)).begins
  later-begun (Opened step) later reached name set e =
      option-cases (step_at leg.job step)
      (λ none. (before_step step later reached.goes_on name set (ap (λ (standing : Stock LibrarySet). entry_at standing.sets name) (sym (opened-none leg.job leg.start step none)) ∙ e)).begins)
      (λ owned found.
      (opened_seated step owned later found (before_step step later reached.goes_on)
      (reached.flawless (start_of leg.job leg.start step owned) refl (start_at-of leg.job leg.start step owned found))
      name set (ap (λ library. entry_at library name) (sym (at-opened leg.job leg.start step owned found)) ∙ e)).begins)
  later-begun (Within step writes) later reached name set e =
      option-cases (step_at leg.job step)
      (λ none. (before_step step later reached.goes_on name set (ap (λ (standing : Stock LibrarySet). entry_at standing.sets name) (sym (within-none leg.job leg.start step writes none)) ∙ e)).begins)
      (λ owned found.
      (within_seated step owned later found (before_step step later reached.goes_on)
      (reached.flawless (start_of leg.job leg.start step owned) refl (start_at-of leg.job leg.start step owned found))
      writes (reached.some (start_of leg.job leg.start step owned) (start_at-of leg.job leg.start step owned found))
      name set (ap (λ library. entry_at library name) (sym (at-within leg.job leg.start step writes owned found)) ∙ e)).begins)
