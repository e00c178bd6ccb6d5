-- The running steps go on by an event.
use Rattle.std.specs.Prelude.{◌≡◌, ◌≤◌, ◌<◌, ◌+◌, ℕ, suc, Bool, true, false, ◌&&◌, IfSome, List, find, length, Option, None, Some}
use Rattle.std.specs.List.{AllByRecursion}
use Rattle.ckr_events.specs.declared.event.Event.{Event}
use Rattle.ckr_events.specs.declared.event.Event.TheVariants.{Selected, Started, Checkpointed, Cancelled, StepEnded, Restarted, Held, Ended}
use Rattle.ckr_library.specs.Catalog.{records_of}
use Rattle.ckr_meaning.specs.EffectiveJob.{OwnedStep, names_of}
use Rattle.ckr_points.specs.Follows.{is_in_state, own_step}
use Rattle.ckr_points.specs.Rows.{RunRow, TablesModel, holding_of, run_of, step_of_run}
use Rattle.ckr_points.specs.declared.run.RunState.TheVariants.{On}
use Rattle.ckr_points_tables.specs.View.{seen_by}
use Rattle.ckr_desk_turn.specs.Queue.{AreNumbered}
use Rattle.ckr_desk_plans.specs.declared.running_step.RunningStep.{RunningStep}
use Rattle.ckr_desk_memory.specs.EventChanges.{HasEntered, check_name_in, is_point_of, served_in, without_run}
use Rattle.ckr_desk_memory.specs.Invariant.{IsAcceptedRow}
use Rattle.ckr_desk_memory.specs.Preparation.{HasAgain, HasStep, IsEmpty}
use Rattle.ckr_desk_memory.specs.View.{PointView, RunningStepView, begun, resumed}
use Rattle.ckr_desk_memory.specs.Start.{AllFit, HasNew, has_sets}

-- a step of a run may start: it is prepared, and there is room for it
pub record MayStartStep (run number : ℕ) (tables : TablesModel) (begun : Option RunningStep) (room : ℕ) : Type 0 where
  pub few : run ≤ 9999999
  pub empty : IfSome begun (IsEmpty run)
  pub prepared : HasStep tables run number begun
  pub rows : AllByRecursion IsAcceptedRow tables.runs
  pub numbered : AreNumbered 1 tables.runs
  pub fit : AllFit (seen_by holding_of tables.sets)
  pub some : 0 < room

-- so may one that goes on from its run's point
pub record MayGoBack (run : ℕ) (tables : TablesModel) (again : Option RunningStep) (room : ℕ) : Type 0 where
  pub few : length tables.runs ≤ 9999999
  pub within : run ≤ 9999999
  pub empty : IfSome again (IsEmpty run)
  pub rows : AllByRecursion IsAcceptedRow tables.runs
  pub numbered : AreNumbered 1 tables.runs
  pub fit : AllFit (seen_by holding_of tables.sets)
  pub some : 0 < room

-- runs may be looked up by their numbers
pub record MayLookUp (tables : TablesModel) : Type 0 where
  pub few : length tables.runs ≤ 9999999
  pub rows : AllByRecursion IsAcceptedRow tables.runs
  pub numbered : AreNumbered 1 tables.runs

-- what an event asks of the step that is prepared and of its run, by the tables behind it
abbrev pub MayRun : Event → TablesModel → Option RunningStep → ℕ → Type 0
MayRun (Started job step items) tables begun room = MayStartStep job step tables begun room
MayRun (Selected job initiator (suc before) step (Some id)) tables begun room = MayGoBack job tables begun room
MayRun (Restarted job initiator code true) tables begun room = MayGoBack job tables begun room
MayRun (Checkpointed job id taken writes lengths place bytes) tables begun room = MayLookUp tables
MayRun _ tables begun room = Unit {0}

-- a step of a run, by the tables behind its start, has started
abbrev pub StepStarts : ℕ → ℕ → TablesModel → List RunningStepView → List RunningStepView → Type 0
StepStarts job step tables old new =
    (row : RunRow) (owned : OwnedStep) → run_of tables job ≡ Some row → step_of_run row step ≡ Some owned → HasNew job row.job.root owned (begun row.job.root owned) tables.sets old new

-- the step that goes on from its run's point is prepared
abbrev pub IsStartedFrom : Event → TablesModel → List PointView → Option RunningStep → Type 0
IsStartedFrom (Selected job initiator (suc before) step (Some id)) tables points prepared = HasAgain (find (is_point_of job) points) tables job prepared
IsStartedFrom (Restarted job initiator code true) tables points prepared = HasAgain (find (is_point_of job) points) tables job prepared
IsStartedFrom _ tables points prepared = Unit {0}

-- whether a run may go on from its point: it is on its initiator, and the tables have all that its step names
abbrev pub may_go_back : TablesModel → OwnedStep → RunRow → Bool
may_go_back tables owned row = is_in_state On row && has_sets tables.sets (names_of row.job.root owned)

-- from a point, where it may
abbrev pub GoesFrom : Bool → ℕ → ℕ → OwnedStep → PointView → TablesModel → List RunningStepView → List RunningStepView → Type 0
GoesFrom true job root owned point tables old new = HasNew job root owned (resumed root owned point) tables.sets old new
GoesFrom false job root owned point tables old new = new ≡ without_run job old

-- a run goes on from its point, if there is one, in the step that it is in; no other step of it is running
abbrev pub StepGoesBack : Option PointView → ℕ → TablesModel → List RunningStepView → List RunningStepView → Type 0
StepGoesBack None job tables old new = new ≡ without_run job old
StepGoesBack (Some point) job tables old new =
    (row : RunRow) (owned : OwnedStep) → run_of tables job ≡ Some row → own_step row ≡ Some owned → GoesFrom (may_go_back tables owned row) job row.job.root owned point tables old new

-- The running steps behind an event, by the tables behind it: a step is running from its start to its end, or to the end, a hold or a restart of its run,
-- and from a checkpoint on at which its run is restarted or goes on with an earlier one; a checkpoint or a cancel that is due is done, and the data set for
-- checkpoints has the length behind the entry.
abbrev pub GoesOn : Event → TablesModel → List PointView → List RunningStepView → List RunningStepView → Type 0
GoesOn (Selected job initiator (suc before) step (Some id)) tables points old new = StepGoesBack (find (is_point_of job) points) job tables old new
GoesOn (Started job step items) tables points old new = StepStarts job step tables old new
GoesOn (Checkpointed job id taken writes lengths place bytes) tables points old new = HasEntered job (check_name_in tables job) (place + records_of bytes) old new
GoesOn (Cancelled job) tables points old new = new ≡ served_in job old
GoesOn (StepEnded job step rc writes lengths) tables points old new = new ≡ without_run job old
GoesOn (Restarted job initiator code true) tables points old new = StepGoesBack (find (is_point_of job) points) job tables old new
GoesOn (Restarted job initiator code false) tables points old new = new ≡ without_run job old
GoesOn (Held job code writes lengths) tables points old new = new ≡ without_run job old
GoesOn (Ended job ending) tables points old new = new ≡ without_run job old
GoesOn _ tables points old new = new ≡ old
