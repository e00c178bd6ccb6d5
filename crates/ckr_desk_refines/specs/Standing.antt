-- The jobs in memory stand for the desk of the events, and an image of the disk has what those events and the running steps have written.
use Rattle.std.specs.Prelude.{◌≡◌, ℕ, ◌==◌, Bool, true, false, ◌&&◌, not, List, [], ◌∷◌, filter, find, map, Option, None, Some}
use Rattle.std.specs.List.{list_any}
use Rattle.ckr_desk_memory.specs.EventChanges.{is_point_of, without_run as seen_without}
use Rattle.ckr_desk_memory.specs.Invariant.{is_in_step}
use Rattle.ckr_desk_memory.specs.View.{JobsView, PointView, RunningStepView}
use Rattle.ckr_library.specs.declared.sets.Content.TheVariants.{Checkpoints}
use Rattle.ckr_library.specs.declared.sets.DataSet.{DataSet}
use Rattle.ckr_library.specs.Catalog.{set_of}
use Rattle.ckr_library.specs.NameMaps.{Name, entry_at}
use Rattle.ckr_base.specs.declared.code.Code.{Code}
use Rattle.ckr_base.specs.declared.programs.NextDue.TheVariants.{Checkpoint}
use Rattle.ckr_desk_turn.specs.Due.{next_due}
use Rattle.ckr_desk_turn.specs.Invariant.{IsDesk}
use Rattle.ckr_desk_refines.specs.Commits.{HasCommitted}
use Rattle.ckr_desk_refines.specs.StepSets.{HasSets}
use Rattle.ckr_meaning.specs.EffectiveJob.{is_among, names_of}
use Rattle.ckr_meaning.specs.States.{StandsFor}
use Rattle.ckr_meaning.specs.StepRun.{StepStart, case_at}
use Rattle.ckr_points.specs.Office.{Office}
use Rattle.ckr_points.specs.Rows.{KeptEntry, RunRow, TableSet, run_of}
use Rattle.ckr_steps.specs.declared.step_run.StepRun.{StepRun}
use Rattle.ckr_steps.specs.Places.{ShowsWithin, IsStepPlace}
use Rattle.ckr_steps.specs.Units.{AreServed, is_cancelled, is_checkpointed, is_closed, taken_of}
use Rattle.ckr_desk_turn.specs.Desk.{DeskModel, DeskStep}
use Rattle.ckr_desk_turn.specs.Jobs.{effect_entry}
use Rattle.ckr_desk_turn.specs.Units.{StepProgress, arrived}
use Rattle.ckr_volumes.specs.declared.layout.Layout.{Layout}
use Rattle.ckr_points.specs.Payload.{start_in_office}

-- A running step in memory stands where its job comes to, or has stopped with a code, with which its run waits; and the image has what it has
-- written.
pub record StandsForStep (layout : Layout) (office : Office) (image : List ℕ) (on : RunningStepView) (step : DeskStep) : Type 0 where
  pub row : RunRow
  pub row_at : run_of office.tables step.run ≡ Some row
  pub start : StepStart
  pub start_at : start_in_office office row ≡ Some start
  pub run : on.run ≡ step.run
  pub code : on.code ≡ step.code
  pub stands : on.code ≡ None → IsStepPlace start step.progress.taken step.progress.closed on.step on.sets
  pub served : on.code ≡ None → AreServed step.progress.checkpointed step.progress.cancelled on.step.state
  -- a cancel comes behind the checkpoint that is due at its count
  pub ordered : on.code ≡ None → next_due start step.progress ≡ Checkpoint → step.progress.cancelled ≡ false
  pub writes : on.step.writes ≡ step.progress.writes
  -- of one that has stopped only its writes are asked
  pub stopped : (code : Code) → on.code ≡ Some code → step.progress ≡ arrived 0 on.step.writes
  pub sets : HasSets office.tables.sets (names_of start.root start.owned) on.sets
  -- it has no other data sets than those of its names
  pub named : (name : Name) (set : DataSet) → set_of on.sets name ≡ Some set → is_among (names_of start.root start.owned) name ≡ true
  pub shows : ShowsWithin (Unit {0}) image layout start step.progress.writes on.sets
  -- its program writes no data set for checkpoint entries
  pub checked : (name : Name) (table : TableSet) (set : DataSet) → entry_at office.tables.sets name ≡ Some table → set_of on.sets name ≡ Some set
      → table.set.content ≡ Checkpoints → set.length ≡ table.set.length

-- the running steps, in their order
abbrev pub AllStand : Layout → Office → List ℕ → List RunningStepView → List DeskStep → Type 0
AllStand layout office image [] [] = Unit {0}
AllStand layout office image [] (step ∷ running) = ⊥
AllStand layout office image (on ∷ seen) [] = ⊥
AllStand layout office image (on ∷ seen) (step ∷ running) = StandsForStep layout office image on step × AllStand layout office image seen running

-- whether one of these steps is of a run
abbrev pub is_of_one : ℕ → List DeskStep → Bool
is_of_one run running = list_any (λ (step : DeskStep). step.run == run) running

-- no two of these steps are of one run
abbrev pub differ : List DeskStep → Bool
differ [] = true
differ (step ∷ running) = not (is_of_one step.run running) && differ running

-- the point of a run's checkpoint in effect stands in memory for its entry
pub record StandsForPoint (points : List PointView) (run : ℕ) (start : StepStart) (entry : KeptEntry) : Type 0 where
  pub point : PointView
  pub found : find (is_point_of run) points ≡ Some point
  pub stands : StandsFor point.state (case_at start) entry.point.taken
  pub writes : point.writes ≡ entry.point.writes
  pub unclosed : is_closed point.state ≡ false
  pub served : AreServed true false point.state

-- so it is with a run, where it is within its step, holds its names and has a checkpoint in effect
abbrev pub OwnStands : Office → List PointView → ℕ → Type 0
OwnStands office points run =
    (row : RunRow) (entry : KeptEntry) (start : StepStart) → run_of office.tables run ≡ Some row → is_in_step row ≡ true → effect_entry office.tables row ≡ Some entry → start_in_office office row ≡ Some start
    → StandsForPoint points run start entry

-- and with each run
abbrev pub PointsStand : Office → List PointView → Type 0
PointsStand office points = (run : ℕ) → OwnStands office points run

-- The desk is kept, and the jobs in memory stand for it: their tables, their failed runs, their running steps and the points of their
-- checkpoints in effect are those of the desk, and the image has what the events have committed.
pub record StandsForDesk (layout : Layout) (jobs : JobsView) (image : List ℕ) (desk : DeskModel) : Type 0 where
  pub layout_is : desk.layout ≡ layout
  pub is_desk : IsDesk desk
  pub tables : jobs.tables.desk ≡ desk.office.tables
  pub failed : jobs.failed ≡ desk.failed
  pub running : AllStand desk.layout desk.office image jobs.running desk.running
  pub differ_so : differ desk.running ≡ true
  pub points : PointsStand desk.office jobs.points
  pub committed : HasCommitted desk.layout desk.office image

-- ---- while a run ends

abbrev pub steps_without : ℕ → List DeskStep → List DeskStep
steps_without run running = filter (λ (step : DeskStep). not (step.run == run)) running

-- so it is but for the running step of one run
pub record StandsBut (run : ℕ) (layout : Layout) (jobs : JobsView) (image : List ℕ) (desk : DeskModel) : Type 0 where
  pub layout_is : desk.layout ≡ layout
  pub is_desk : IsDesk desk
  pub tables : jobs.tables.desk ≡ desk.office.tables
  pub failed : jobs.failed ≡ desk.failed
  pub running : AllStand desk.layout desk.office image (seen_without run jobs.running) (steps_without run desk.running)
  pub differ_so : differ desk.running ≡ true
  pub points : PointsStand desk.office jobs.points
  pub committed : HasCommitted desk.layout desk.office image

-- ---- what is seen of the desk in memory

-- how far a step has come; of one that has stopped with a code only the writes are asked
abbrev pub progress_on : Option Code → StepRun → StepProgress
progress_on None step = record {
  taken = taken_of step.state;
  writes = step.writes;
  checkpointed = is_checkpointed step.state;
  cancelled = is_cancelled step.state;
  closed = is_closed step.state;
}
progress_on (Some code) step = arrived 0 step.writes

abbrev pub step_on : RunningStepView → DeskStep
step_on on = record { run = on.run; progress = progress_on on.code on.step; code = on.code }

-- the desk by its jobs in memory, where its events have brought about this office
abbrev pub desk_seen : Layout → Office → JobsView → DeskModel
desk_seen layout office jobs = record {
  layout = layout;
  office = office;
  running = map step_on jobs.running;
  failed = jobs.failed;
}
