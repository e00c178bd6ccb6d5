-- The jobs of a desk in memory, and what a turn sees of them.
use Rattle.std.specs.Prelude.{ℕ, List, [], map, None}
use Rattle.std.specs.Option.{option_map_or}
use Rattle.ckr_meaning.specs.EffectiveJob.{OwnedStep}
use Rattle.ckr_points.specs.Rows.{TablesModel, run_of}
use Rattle.ckr_desk_plans.specs.StepTypes.StepRun.{StepRun}
use Rattle.ckr_desk_plans.specs.Model.Files.{files_of}
use Rattle.ckr_desk_plans.specs.Model.Units.{due_of, first_state, taken_of}
use Rattle.ckr_points_tables.specs.View.{RoomyTables}
use Rattle.ckr_desk_turn.specs.declared.failed_run.FailedRun.{FailedRun}
use Rattle.ckr_desk_turn.specs.Jobs.{TurnJobs, TurnStep, as_stopped}
use Rattle.ckr_desk_memory.specs.declared.jobs.StepPoint.{StepPoint}
pub use Rattle.ckr_desk_plans.specs.StepView.{RunningStepView, length_in, lengths_in, lengths_of_row}

-- a step of a run of this root, at its beginning
abbrev pub begun : ℕ → OwnedStep → StepRun
begun root owned = record { state = first_state owned.step.program; parm = owned.step.parm; files = files_of root owned.owner owned.step; writes = 0 }

-- where the step of a run stands at its checkpoint in effect: its program's state, and the number of its writes
abbrev pub PointView : Type 0
PointView = StepPoint

-- a step of a run of this root, as it goes on from there
abbrev pub resumed : ℕ → OwnedStep → PointView → StepRun
resumed root owned point = record { state = point.state; parm = owned.step.parm; files = files_of root owned.owner owned.step; writes = point.writes }

-- The tables with their room, the running steps, the runs that were running when the system failed, and where steps stand at their checkpoints in
-- effect. So many more runs fit in the queue, so many more steps among the running ones, and so many more points, with no memory taken.
pub record JobsView : Type 0 where
  pub tables : RoomyTables
  pub running : List RunningStepView
  pub failed : List FailedRun
  pub points : List PointView
  pub queue_room : ℕ
  pub running_room : ℕ
  pub points_room : ℕ

-- ---- a running step as a turn sees it

abbrev pub running_of : TablesModel → RunningStepView → TurnStep
running_of tables on = as_stopped on.code (record {
  run = on.run;
  taken = taken_of on.step.state;
  writes = on.step.writes;
  due = due_of on.step.parm on.step.state;
  lengths = option_map_or (lengths_of_row on.sets.sets) (run_of tables on.run) [];
  code = None;
})

-- the jobs as a turn sees them
unfoldable pub jobs_of : JobsView → TurnJobs
jobs_of jobs = record { tables = jobs.tables.desk; running = map (running_of jobs.tables.desk) jobs.running; failed = jobs.failed }
