-- What holds of each data set before a job, and through each part of a step, holds at each place of the job and at its end.
use Rattle.std.proofs.Common.{◌≡◌, ℕ, zero, suc, pred, Bool, true, false, if◌then◌else◌, List, [], ◌∷◌, take, length, Option, Some, None, refl, sym, subst}
use Rattle.std.specs.Prelude.{slice_get}
use Rattle.std.specs.Option.{option_map, option_map_or}
use Rattle.std.proofs.lemmas.Option.{same_Some}
use Rattle.ckr_base.proofs.Options.{some-not-none}
use Rattle.ckr_library.specs.NameMaps.{EachEntry, without_entry}
use Rattle.ckr_library.proofs.Named.{each-without_entry}
use Rattle.ckr_entry.specs.declared.point.Passed.{Passed}
use Rattle.ckr_meaning.specs.declared.place.Place.{Place}
use Rattle.ckr_meaning.specs.declared.place.Place.TheVariants.{Before, Opened, Within}
use Rattle.ckr_meaning.specs.LibrarySet.{LibrarySet, Library}
use Rattle.ckr_meaning.specs.Dispositions.{Stock, passed_ended}
use Rattle.ckr_meaning.specs.EffectiveJob.{OwnedStep, Effective, step_at}
use Rattle.ckr_meaning.specs.StepRun.{StepStart, opened_at, work_at, within_at, disposed_at}
use Rattle.ckr_meaning.specs.JobRun.{Walk, start_in, step_walked, walked_by, walked_one, walked, walk_from, walk_before, start_at, is_bypassed, with_sets, at, cut_from, cut_at, end_of_job, job_run}

module _ (Q : LibrarySet → Type 0) (Fine : ℕ → OwnedStep → Type 0)
    (opens : (start : StepStart) → Fine start.root start.owned → EachEntry Q start.standing.sets → EachEntry Q (opened_at start))
    (writing : (start : StepStart) → Fine start.root start.owned → (writes : ℕ) → EachEntry Q start.standing.sets → EachEntry Q (within_at start writes))
    (disposes : (start : StepStart) (abnormal : Bool) (library : Library) → EachEntry Q library → EachEntry Q (disposed_at start abnormal library).sets) where
  abbrev Holds : Library → Type 0
  Holds library = EachEntry Q library

  -- each step of these is fine
  abbrev pub EachFine : ℕ → List OwnedStep → Type 0
  EachFine root [] = Unit {0}
  EachFine root (owned ∷ rest) = Fine root owned × EachFine root rest

  fine_front : (root count : ℕ) (steps : List OwnedStep) → EachFine root steps → EachFine root (take count steps)
  fine_front root zero steps fine = tt
  fine_front root (suc count) [] fine = tt
  fine_front root (suc count) (owned ∷ rest) fine = (fine.0, fine_front root count rest fine.1)

  fine_at : (root place : ℕ) (steps : List OwnedStep) (owned : OwnedStep) → EachFine root steps → slice_get steps place ≡ Some owned → Fine root owned
  fine_at root place [] owned fine at = absurd (some-not-none owned (sym at))
  fine_at root zero (first ∷ rest) owned fine at = subst (Fine root) (same_Some first owned at) fine.0
  fine_at root (suc place) (first ∷ rest) owned fine at = fine_at root place rest owned fine.1 at

  fine_step : (job : Effective) (number : ℕ) (owned : OwnedStep) → EachFine job.root job.steps → step_at job number ≡ Some owned → Fine job.root owned
  fine_step job zero owned fine at = absurd (some-not-none owned (sym at))
  fine_step job (suc before) owned fine at = fine_at job.root before job.steps owned fine at

  ended_holds : (passed : List Passed) (library : Library) → Holds library → Holds (passed_ended passed library)
  ended_holds [] library holds = holds
  ended_holds (one ∷ passed) library holds = ended_holds passed _ (by_maker one.made)
    where
      by_maker : (goes : Bool) → Holds (if goes then without_entry one.name library else library)
      by_maker true = each-without_entry Q one.name library holds
      by_maker false = holds

  step_holds : (start : StepStart) (walk : Walk) → Fine start.root start.owned → Holds start.standing.sets → Holds (step_walked start walk).standing.sets
  unfolding step_walked
  step_holds start walk fine holds =
      disposes start false (within_at start (length (work_at start).writes)) (writing start fine (length (work_at start).writes) holds)

  walked_one_holds : (root number : ℕ) (owned : OwnedStep) (walk : Walk) → Fine root owned → Holds walk.standing.sets → Holds (walked_one root number owned walk).standing.sets
  unfolding walked_one
  walked_one_holds root number owned walk fine holds = by (is_bypassed walk.rcs owned)
    where
      by : (bypassed : Bool) → Holds (walked_by bypassed (start_in root number owned walk) walk).standing.sets
      by true = holds
      by false = step_holds (start_in root number owned walk) walk fine holds

  walked_holds : (root number : ℕ) (steps : List OwnedStep) (walk : Walk) → EachFine root steps → Holds walk.standing.sets → Holds (walked root number steps walk).standing.sets
  walked_holds root number [] walk fine holds = holds
  walked_holds root number (owned ∷ rest) walk fine holds =
      walked_holds root (suc number) rest (walked_one root number owned walk) fine.1 (walked_one_holds root number owned walk fine.0 holds)

  module _ (job : Effective) (library : Library) (fine : EachFine job.root job.steps) (holds : Holds library) where
    before_holds : (number : ℕ) → Holds (walk_before job library number).standing.sets
    unfolding walk_before
    before_holds number = walked_holds job.root 1 (take (pred number) job.steps) (walk_from library) (fine_front job.root (pred number) job.steps fine) holds

    abbrev start_by : ℕ → Option OwnedStep → Option StepStart
    start_by number step = option_map (λ owned. start_in job.root number owned (walk_before job library number)) step

    pub at_holds : (place : Place) → Holds (at job library place).sets
    unfolding at start_at
    at_holds (Before number) = before_holds number
    at_holds (Opened number) = by (step_at job number) refl
      where
        by : (step : Option OwnedStep) → step_at job number ≡ step → Holds (option_map_or (λ (start : StepStart). with_sets (opened_at start) start.standing) (start_by number step) (walk_before job library number).standing).sets
        by None e = before_holds number
        by (Some owned) e = opens (start_in job.root number owned (walk_before job library number)) (fine_step job number owned fine e) (before_holds number)
    at_holds (Within number writes) = by (step_at job number) refl
      where
        by : (step : Option OwnedStep) → step_at job number ≡ step → Holds (option_map_or (λ (start : StepStart). with_sets (within_at start writes) start.standing) (start_by number step) (walk_before job library number).standing).sets
        by None e = before_holds number
        by (Some owned) e = writing (start_in job.root number owned (walk_before job library number)) (fine_step job number owned fine e) writes (before_holds number)

    cut_holds : (place : Place) (standing : Stock LibrarySet) → Holds standing.sets → Holds (cut_from job library place standing).sets
    cut_holds (Before number) standing holds = holds
    cut_holds (Opened number) standing holds = holds
    cut_holds (Within number writes) standing holds = by (start_at job library number)
      where
        by : (start : Option StepStart) → Holds (option_map_or (λ (s : StepStart). disposed_at s true standing.sets) start standing).sets
        by None = holds
        by (Some start) = disposes start true standing.sets holds

    cut_at_holds : (place : Place) → Holds (cut_at job library place)
    unfolding cut_at
    cut_at_holds place =
        let left : Stock LibrarySet = cut_from job library place (at job library place) in
        ended_holds left.passed left.sets (cut_holds place (at job library place) (at_holds place))

    pub job_run_holds : (cut : Option Place) → Holds (job_run job library cut)
    unfolding job_run
    job_run_holds None = cut_at_holds (end_of_job job library)
    job_run_holds (Some place) = cut_at_holds place
