-- The checkpoint that is due in a running step is taken: what stands before it, and what is written of its entry (IBM GC28-6708).
use Rattle.std.specs.Prelude.{◌≡◌, ℕ, List, find, Some}
use Rattle.ckr_library.specs.declared.sets.DataSet.{DataSet}
use Rattle.ckr_library.specs.NameMaps.{Name, entry_at}
use Rattle.ckr_meaning.specs.StepRun.{StepStart}
use Rattle.ckr_points.specs.Office.{Office}
use Rattle.ckr_points.specs.Rows.{RunRow, TableSet, run_of}
use Rattle.ckr_steps.specs.EntryRecords.{SameRecordsOutside}
use Rattle.ckr_desk_turn.specs.Checkpoints.{check_set}
use Rattle.ckr_desk_turn.specs.Desk.{DeskModel, jobs_of}
use Rattle.ckr_desk_turn.specs.declared.plan.Plan.TheVariants.{Take}
use Rattle.ckr_desk_turn.specs.Turns.{MountedTurn, plan_for}
use Rattle.ckr_desk_memory.specs.EventChanges.{is_of_run}
use Rattle.ckr_desk_memory.specs.View.{JobsView, RunningStepView}
use Rattle.ckr_volumes.specs.declared.layout.Layout.{Layout}
use Rattle.ckr_volumes.specs.SamePlaces.{SamePlaces}
use Rattle.ckr_desk_refines.specs.Standing.{StandsForDesk}
use Rattle.ckr_points.specs.Payload.{start_in_office}

-- the row of a run, and its step as its job starts it
pub record IsStepOf (office : Office) (run : ℕ) (row : RunRow) (start : StepStart) : Type 0 where
  pub row_at : run_of office.tables run ≡ Some row
  pub start_at : start_in_office office row ≡ Some start

-- a turn takes the checkpoint that is due in the running step of a run, which is this one in memory
pub record IsToTake (layout : Layout) (jobs : JobsView) (image : List ℕ) (desk : DeskModel) (turn : MountedTurn) (run : ℕ) (on : RunningStepView) : Type 0 where
  pub stands : StandsForDesk layout jobs image desk
  pub planned : plan_for desk.layout (jobs_of desk) turn ≡ Take run
  pub found : find (is_of_run run) jobs.running ≡ Some on

-- So many records are written behind the last one of the data set for checkpoints of the run's step, and nothing else of the disk.
pub record IsWrittenBehind (layout : Layout) (office : Office) (run count : ℕ) (before after : List ℕ) : Type 0 where
  pub row : RunRow
  pub start : StepStart
  pub of : IsStepOf office run row start
  pub name : Name
  pub is : check_set start ≡ Some name
  pub table : TableSet
  pub at : entry_at office.tables.sets name ≡ Some table
  pub set : DataSet
  pub places : SamePlaces table.set set
  pub space : set.space ≡ table.set.space
  pub outside : SameRecordsOutside layout set table.set.length count before after
