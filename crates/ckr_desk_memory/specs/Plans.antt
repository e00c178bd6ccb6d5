-- What a turn comes to, by the jobs in memory.
use Rattle.std.specs.Prelude.{◌≡◌, ◌≤◌, ℕ, Bool, true, false, IsSome, find, Option, None, Some, pred, slice_get}
use Rattle.ckr_base.specs.declared.code.Code.{Code}
use Rattle.ckr_base.specs.declared.programs.NextDue.{NextDue}
use Rattle.ckr_base.specs.declared.programs.NextDue.TheVariants.{Unit as OneUnit, Checkpoint}
use Rattle.ckr_events.specs.declared.event.Event.TheVariants.{Rewritten as RewrittenEvent}
use Rattle.ckr_meaning.specs.EffectiveJob.{OwnedStep}
use Rattle.ckr_meaning.specs.declared.place.Place.{Place}
use Rattle.ckr_meaning.specs.declared.place.Place.TheVariants.{Before, Opened, Within}
use Rattle.ckr_points.specs.Rows.{RunRow, TablesModel, run_of, step_of_run}
use Rattle.ckr_desk_plans.specs.StepTypes.Worked.{Worked}
use Rattle.ckr_desk_plans.specs.StepTypes.Worked.TheVariants.{Went, Rewrite, Abend}
use Rattle.ckr_desk_plans.specs.Model.StepUnit.{AreCounted}
use Rattle.ckr_desk_plans.specs.Model.Units.{due_of}
use Rattle.ckr_points_tables.specs.Model.RunTable.{RunTable}
use Rattle.ckr_points_tables.specs.RunJobs.{IsFitting, effective}
use Rattle.ckr_points_tables.specs.View.{facts_in, facts_of}
use Rattle.ckr_desk_turn.specs.declared.plan.Plan.{Plan}
use Rattle.ckr_desk_turn.specs.declared.plan.Plan.TheVariants.{Rest, Tell, Work, Pass, Take, Ask, Wait}
use Rattle.ckr_points.specs.declared.reply.Reply.TheVariants.{Worked as WorkedReply}
pub use Rattle.ckr_desk_plans.specs.Plans.{HasCode, IsToldReply, row_for, reached_seen, IsSpelledInquiry, IsSpelledPlan, is_coded, is_unit_event, IsUnitPlan, behind_unit, told_entry}
use Rattle.ckr_desk_turn.specs.Codes.{code_plan, initiator_of, running_reached}
use Rattle.ckr_desk_turn.specs.Jobs.{TurnStep, step_name_of}
use Rattle.ckr_desk_turn.specs.Spelling.{IsCode}
use Rattle.ckr_volumes.specs.declared.layout.Layout.{Layout}
use Rattle.ckr_desk_memory.specs.EventChanges.{is_of_run}
use Rattle.ckr_desk_memory.specs.Preparation.{needs_room}
use Rattle.ckr_desk_memory.specs.View.{JobsView, RunningStepView}

-- the tables have this run, which is within the limits
pub record IsKnown (tables : TablesModel) (number : ℕ) (table : RunTable) : Type 0 where
  pub row : RunRow
  pub found : run_of tables number ≡ Some row
  pub numbered : row.number ≡ number
  pub facts : facts_in row ≡ facts_of table
  pub job : row.job ≡ effective number table.job
  pub few : number ≤ 9999999
  pub fits : IsFitting (effective number table.job)

-- a DD of a step of a run, by their numbers from 1
pub record HasDd (tables : TablesModel) (number step dd : ℕ) : Type 0 where
  pub row : RunRow
  pub own : OwnedStep
  pub found : run_of tables number ≡ Some row
  pub step_is : step_of_run row step ≡ Some own
  pub there : IsSome (slice_get own.step.dds (pred dd))

-- the numbers of a running step are in their ranges
abbrev pub HasCounts : RunningStepView → Type 0
HasCounts on = AreCounted on.step

-- the step that a run is to start at its place, where it didn't fail, waits with no code, and none is given
abbrev pub next_step : Bool → Option Code → Option Code → Place → Option ℕ
next_step true waits fail place = None
next_step false (Some code) fail place = None
next_step false None (Some code) place = None
next_step false None None (Before number) = Some number
next_step false None None (Opened number) = Some number
next_step false None None (Within number writes) = None

-- the code, if there is one, has a spelling
abbrev pub IsAnyCode : Option Code → Type 0
IsAnyCode None = Unit {0}
IsAnyCode (Some code) = IsCode code

-- the running step of a run is there, its run waits with no code, and this is due
abbrev pub IsDue : JobsView → ℕ → NextDue → Type 0
IsDue jobs job due = (on : RunningStepView) × (find (is_of_run job) jobs.running ≡ Some on) × (due_of on.step.parm on.step.state ≡ due) × (on.code ≡ None)

-- where it is a unit or a checkpoint, that is due
abbrev pub HasDue : JobsView → Plan → Type 0
HasDue jobs (Rest reply) = Unit {0}
HasDue jobs (Tell reply event) = Unit {0}
HasDue jobs (Work job) = IsDue jobs job OneUnit
HasDue jobs (Pass job reply) = IsDue jobs job Checkpoint
HasDue jobs (Take job) = IsDue jobs job Checkpoint
HasDue jobs (Ask inquiry) = Unit {0}
HasDue jobs (Wait job code) = Unit {0}

-- it tells an event that needs memory, or asks the operator
abbrev pub NeedsRoom : Plan → Type 0
NeedsRoom (Rest reply) = ⊥
NeedsRoom (Tell reply event) = needs_room event ≡ true
NeedsRoom (Work job) = ⊥
NeedsRoom (Pass job reply) = ⊥
NeedsRoom (Take job) = ⊥
NeedsRoom (Ask inquiry) = Unit {0}
NeedsRoom (Wait job code) = ⊥

-- the code with which a unit ends, if it ends its step, has a spelling
abbrev pub IsWorkedCode : Worked → Type 0
IsWorkedCode (Went taken) = Unit {0}
IsWorkedCode (Rewrite place image taken) = Unit {0}
IsWorkedCode (Abend code) = IsCode code

-- behind the unit the step goes on, and no event tells of it
abbrev pub IsWent : Worked → Type 0
IsWent (Went taken) = Unit {0}
IsWent _ = ⊥

-- what a turn tells of a unit, with the running step behind it
abbrev pub told_by : Layout → TablesModel → RunRow → TurnStep → Worked → Plan
told_by layout tables row step (Went taken) = Rest (WorkedReply row.number (step_name_of row) step.taken)
told_by layout tables row step (Rewrite place image taken) =
    Tell (WorkedReply row.number (step_name_of row) step.taken)
    (RewrittenEvent row.number step.taken step.writes (record { items = step.lengths }) place image)
told_by layout tables row step (Abend code) = code_plan layout tables row (initiator_of row) true code (running_reached step)
