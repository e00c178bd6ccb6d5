-- The memory for an event.
use Rattle.std.specs.Prelude.{not, ◌==◌, ◌≡◌, ◌≤◌, ◌<◌, ℕ, suc, Bool, true, false, IfSome, [], find, Option, None, Some}
use Rattle.ckr_events.specs.declared.event.Event.{Event}
use Rattle.ckr_events.specs.declared.event.Event.TheVariants.{Submitted, Selected, Started, Checkpointed, StepEnded, Restarted, Ended}
use Rattle.ckr_jcl.specs.declared.deck.Job.{Job}
use Rattle.ckr_meaning.specs.EffectiveJob.{OwnedStep}
use Rattle.ckr_points.specs.Follows.{own_step}
use Rattle.ckr_points.specs.Rows.{RunRow, TablesModel, run_of, step_of_run}
use Rattle.ckr_desk_plans.specs.Model.StepUnit.{AreCounted}
use Rattle.ckr_desk_plans.specs.StepTypes.StepRun.{StepRun}
use Rattle.ckr_points_tables.specs.Invariant.{HasRoom}
use Rattle.ckr_desk_turn.specs.declared.inquiry.Inquiry.{Inquiry}
use Rattle.ckr_desk_turn.specs.Inquiries.{hold_event, refusal_event, restart_event}
use Rattle.ckr_desk_plans.specs.declared.running_step.RunningStep.{RunningStep}
use Rattle.ckr_desk_memory.specs.declared.preparation.Prepared.{Prepared}
use Rattle.ckr_desk_memory.specs.EventChanges.{HasUses, is_point_of}
use Rattle.ckr_desk_memory.specs.View.{JobsView, PointView, begun, resumed}

-- whether an event needs memory
abbrev pub needs_room : Event → Bool
needs_room (Submitted job cards) = true
needs_room (Selected job initiator earlier step id) = not (earlier == 0)
needs_room (Started job step items) = true
needs_room (Checkpointed job id taken writes lengths place bytes) = true
needs_room (StepEnded job step rc writes lengths) = true
needs_room (Restarted job initiator code checkpoint) = true
needs_room (Ended job ending) = true
needs_room _ = false

-- room for a run in the queue
abbrev pub HasQueueRoom : Event → ℕ → Type 0
HasQueueRoom (Submitted job cards) room = 0 < room
HasQueueRoom _ room = Unit {0}

-- room for the point of a checkpoint
abbrev pub HasPointRoom : Event → ℕ → Type 0
HasPointRoom (Checkpointed job id taken writes lengths place bytes) room = 0 < room
HasPointRoom _ room = Unit {0}

-- a step of the run has no data sets yet, but room for those of any step
pub record IsEmpty (job : ℕ) (on : RunningStep) : Type 0 where
  pub run : on.run ≡ job
  pub empty : on.sets.sets ≡ []
  pub room : 16 ≤ on.sets.room
  pub code : on.code ≡ None

-- it stands here, with its numbers in their ranges
pub record StandsEmpty (job : ℕ) (place : StepRun) (on : RunningStep) : Type 0 where
  pub its : IsEmpty job on
  pub step : on.step ≡ place
  pub counted : AreCounted on.step

-- the step of this number of a run is prepared, where there is one
abbrev pub HasStep : TablesModel → ℕ → ℕ → Option RunningStep → Type 0
HasStep tables job step prepared =
    (row : RunRow) (owned : OwnedStep) → run_of tables job ≡ Some row → step_of_run row step ≡ Some owned
    → (on : RunningStep) × (prepared ≡ Some on) × StandsEmpty job (begun row.job.root owned) on

-- a step of a run of this root is prepared at a point of it
abbrev pub IsResumed : ℕ → ℕ → OwnedStep → PointView → Option RunningStep → Type 0
IsResumed job root owned point prepared = (on : RunningStep) × (prepared ≡ Some on) × StandsEmpty job (resumed root owned point) on

-- the step that a run is in is prepared at this point of it, and none is where there is no point
abbrev pub HasAgain : Option PointView → TablesModel → ℕ → Option RunningStep → Type 0
HasAgain None tables job prepared = prepared ≡ None
HasAgain (Some point) tables job prepared =
    (row : RunRow) (owned : OwnedStep) → run_of tables job ≡ Some row → own_step row ≡ Some owned → IsResumed job row.job.root owned point prepared

-- so is the step of this number of another run, in which the run goes on
abbrev pub HasTaken : Option PointView → TablesModel → ℕ → ℕ → ℕ → Option RunningStep → Type 0
HasTaken None tables earlier step job prepared = prepared ≡ None
HasTaken (Some point) tables earlier step job prepared =
    (row : RunRow) (owned : OwnedStep) → run_of tables earlier ≡ Some row → step_of_run row step ≡ Some owned → IsResumed job row.job.root owned point prepared

-- the step that starts is prepared, and there is room among the running ones
pub record HasStarting (jobs : JobsView) (job number : ℕ) (prepared : Option RunningStep) : Type 0 where
  pub room : 0 < jobs.running_room
  pub empty : IfSome prepared (IsEmpty job)
  pub step : HasStep jobs.tables.desk job number prepared

-- so is the step that goes on from its run's point, if that is known
pub record HasGoingBack (jobs : JobsView) (job : ℕ) (prepared : Option RunningStep) : Type 0 where
  pub room : 0 < jobs.running_room
  pub empty : IfSome prepared (IsEmpty job)
  pub step : HasAgain (find (is_point_of job) jobs.points) jobs.tables.desk job prepared

-- so is the step of an earlier run in which the run goes on at a checkpoint
pub record HasGoingOver (jobs : JobsView) (job earlier number : ℕ) (prepared : Option RunningStep) : Type 0 where
  pub room : 0 < jobs.running_room
  pub empty : IfSome prepared (IsEmpty job)
  pub step : HasTaken (find (is_point_of job) jobs.points) jobs.tables.desk earlier number job prepared

abbrev pub HasStarted : Event → JobsView → Option RunningStep → Type 0
HasStarted (Selected job initiator (suc before) step (Some id)) jobs prepared = HasGoingOver jobs job (suc before) step prepared
HasStarted (Started job step items) jobs prepared = HasStarting jobs job step prepared
HasStarted (Restarted job initiator code true) jobs prepared = HasGoingBack jobs job prepared
HasStarted _ jobs prepared = Unit {0}

-- the jobs go on by the event with this and no other memory; the deck is that of an event that submits one
pub record IsPrepared (jobs : JobsView) (event : Event) (deck : Option Job) (prepared : Prepared) : Type 0 where
  pub tables : HasRoom jobs.tables event
  pub queue : HasQueueRoom event jobs.queue_room
  pub uses : HasUses event deck prepared.uses
  pub started : HasStarted event jobs prepared.step
  pub points : HasPointRoom event jobs.points_room

-- they go on so by whatever the operator answers to what he is asked
pub record IsPreparedFor (jobs : JobsView) (inquiry : Inquiry) (prepared : Prepared) : Type 0 where
  pub restart : IsPrepared jobs (restart_event inquiry) None prepared
  pub refusal : IsPrepared jobs (refusal_event inquiry) None prepared
  pub hold : IsPrepared jobs (hold_event inquiry) None prepared
