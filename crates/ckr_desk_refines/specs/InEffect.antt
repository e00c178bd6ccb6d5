-- The checkpoints in effect of runs, and their entries, as the events give them.
use Rattle.std.specs.Prelude.{◌≡◌, ◌==◌, ℕ, true, List, find, Some}
use Rattle.std.specs.Option.{is_some}
use Rattle.ckr_library.specs.NameMaps.{Name, entry_at}
use Rattle.ckr_meaning.specs.EffectiveJob.{OwnedStep, is_among, names_of}
use Rattle.ckr_meaning.specs.JobRun.{start_at}
use Rattle.ckr_meaning.specs.StepRun.{StepStart, case_at}
use Rattle.ckr_points.specs.Follows.{is_within, own_step}
use Rattle.ckr_points.specs.Office.{Leg, Office, is_holder}
use Rattle.ckr_points.specs.Restart.{kept_at, place_of, step_in}
use Rattle.ckr_points.specs.Rows.{EffectPoint, EntryPoint, KeptEntry, RunRow, TablesModel, run_of}
use Rattle.ckr_desk_entries.specs.EntryRefusal.{are_present}

-- ---- what the events give

-- The job of the run that took an entry comes to its step as another run's own job does: with the same case of its program.
pub record HasSameCase (legs : List Leg) (run : ℕ) (owned : OwnedStep) (point : EntryPoint) : Type 0 where
  pub leg : Leg
  pub led : find (λ leg. leg.number == run) legs ≡ Some leg
  pub start : StepStart
  pub starts : start_at leg.job leg.start point.step ≡ Some start
  pub program : start.owned.step.program ≡ owned.step.program
  pub taker : Leg
  pub taker_led : find (λ leg. leg.number == point.run) legs ≡ Some taker
  pub begun : StepStart
  pub begins : start_at taker.job taker.start point.step ≡ Some begun
  pub same : case_at begun ≡ case_at start

-- The checkpoint in effect of a run is one of the step that it is in, which it took, or the run that it continues. Its data set keeps its entry,
-- with a point of that step, which the job of the run that took it comes to as the run's own.
pub record IsInEffect (office : Office) (row : RunRow) (effect : EffectPoint) : Type 0 where
  pub holds : is_holder row.state ≡ true
  pub within : is_within (place_of row) ≡ true
  pub owned : OwnedStep
  pub found : own_step row ≡ Some owned
  pub among : is_among (names_of row.job.root owned) effect.set ≡ true
  pub entry : KeptEntry
  pub at : kept_at office.tables.sets effect.set effect.kept.id ≡ Some entry
  pub kept : entry.kept ≡ effect.kept
  pub same : HasSameCase office.legs row.number owned entry.point
  pub owner : entry.point.owner ≡ owned.owner
  pub step : entry.point.step ≡ step_in (place_of row)
  pub present : are_present entry.point.marks (names_of row.job.root owned) ≡ true

-- so it is with each run that has one
abbrev pub AreInEffect : Office → Type 0
AreInEffect office =
    (number : ℕ) (row : RunRow) (effect : EffectPoint) → run_of office.tables number ≡ Some row → row.in_effect ≡ Some effect → IsInEffect office row effect

-- ---- what an event leaves

-- each name of the step that a run is in is a data set of the tables
abbrev pub HasStepNames : TablesModel → ℕ → Type 0
HasStepNames tables run =
    (row : RunRow) (owned : OwnedStep) (name : Name) → run_of tables run ≡ Some row → own_step row ≡ Some owned
    → is_among (names_of row.job.root owned) name ≡ true → is_some (entry_at tables.sets name) ≡ true
