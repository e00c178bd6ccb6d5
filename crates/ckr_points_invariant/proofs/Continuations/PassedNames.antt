-- The passed names of a job at a place to which it goes on: each is a name of the job, and its data set is there.
use Rattle.std.proofs.Common.{◌≡◌, pred, true, take, ap, sym, ◌∙◌, Option, Some, None}
use Rattle.std.specs.Option.{is_some, option_map, option_map_or}
use Rattle.ckr_library.specs.NameMaps.{Name, entry_at}
use Rattle.ckr_meaning.specs.Dispositions.{Stock}
use Rattle.ckr_meaning.specs.EffectiveJob.{Effective, OwnedStep, is_among, names_of_job, step_at}
use Rattle.ckr_meaning.specs.JobRun.{all_go_on, at, start_at, start_in, walk_before, walk_from, with_sets}
use Rattle.ckr_meaning.specs.LibrarySet.{Library, LibrarySet}
use Rattle.ckr_meaning.specs.StepRun.{StepStart, opened_at, within_at}
use Rattle.ckr_meaning.specs.declared.place.Place.{Place}
use Rattle.ckr_meaning.specs.declared.place.Place.TheVariants.{Before, Opened, Within}
use Rattle.ckr_points.specs.Payload.{is_formed}
use Rattle.ckr_points.specs.Restart.{step_in}
use Rattle.ckr_points_invariant.proofs.PassedNames.Dispositions.{is_listed}
use Rattle.ckr_points_invariant.proofs.PassedNames.Walks.{kept-there, passed-named, passed-there, present-some, some-present}
use Rattle.ckr_points_invariant.proofs.Soundness.{at-passed}
use Rattle.ckr_points_invariant.proofs.Start.Openings.{opened-none}

-- what is there before a step is there at each place of it
place-there : (job : Effective) (library : Library) (place : Place) (name : Name) → is_some (entry_at (walk_before job library (step_in place)).standing.sets name) ≡ true → is_some (entry_at (at job library place).sets name) ≡ true
unfolding at start_at
place-there job library (Before number) name there = there
place-there job library (Opened number) name there = by (step_at job number)
  where
    by : (step : Option OwnedStep)
        → (let standing : Stock LibrarySet = option_map_or (λ (start : StepStart). with_sets (opened_at start) start.standing) (option_map (λ owned. start_in job.root number owned (walk_before job library number)) step) (walk_before job library number).standing in is_some (entry_at standing.sets name))
        ≡ true
    by None = there
    by (Some owned) =
        let start : StepStart = start_in job.root number owned (walk_before job library number) in
        present-some (entry_at (opened_at start) name) (opened-none start name ∙ some-present (entry_at start.standing.sets name) there)
place-there job library (Within number writes) name there = by (step_at job number)
  where
    by : (step : Option OwnedStep)
        → (let standing : Stock LibrarySet = option_map_or (λ (start : StepStart). with_sets (within_at start writes) start.standing) (option_map (λ owned. start_in job.root number owned (walk_before job library number)) step) (walk_before job library number).standing in is_some (entry_at standing.sets name))
        ≡ true
    by None = there
    by (Some owned) = kept-there (start_in job.root number owned (walk_before job library number)) writes name there

module _ (job : Effective) (library : Library) (place : Place) (formed : is_formed job ≡ true)
    (goes : all_go_on job.root 1 (take (pred (step_in place)) job.steps) (walk_from library) ≡ true) (name : Name) where
  before-step : is_listed name (at job library place).passed ≡ true → is_listed name (walk_before job library (step_in place)).standing.passed ≡ true
  before-step listed = sym (ap (is_listed name) (at-passed job library place)) ∙ listed

  pub listed-known : is_listed name (at job library place).passed ≡ true → (is_among (names_of_job job) name ≡ true) × (is_some (entry_at (at job library place).sets name) ≡ true)
  listed-known listed = (
    passed-named name job library (step_in place) formed goes (before-step listed),
    place-there job library place name (passed-there name job library (step_in place) formed goes (before-step listed)),
  )
