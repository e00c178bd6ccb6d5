-- The jobs in memory hold their own: their runs stay apart, each running step is that of its run, and the only one of it, and where a checkpoint is in
-- effect they have its point.
use Rattle.std.specs.Prelude.{◌≡◌, ◌≢◌, ℕ, suc, true, find, List, [], ◌∷◌, Some}
use Rattle.std.specs.List.{AllByRecursion}
use Rattle.std.specs.Option.{is_some}
use Rattle.ckr_desk_turn.specs.declared.failed_run.FailedRun.{FailedRun}
use Rattle.ckr_desk_turn.specs.declared.plan.Plan.{Plan}
use Rattle.ckr_desk_turn.specs.declared.plan.Plan.TheVariants.{Rest, Tell, Work, Pass, Take, Ask, Wait}
use Rattle.ckr_events.specs.Jobs.{job_of}
use Rattle.ckr_events.specs.declared.event.Event.{Event}
use Rattle.ckr_events.specs.declared.event.Event.TheVariants.{Selected, StepEnded}
use Rattle.ckr_points.specs.Follows.{is_running, own_step}
use Rattle.ckr_points.specs.Rows.{RunRow, TablesModel, run_of, step_of_run}
use Rattle.ckr_meaning.specs.EffectiveJob.{OwnedStep}
use Rattle.ckr_desk_plans.specs.Model.Units.{program_of}
use Rattle.ckr_desk_memory.specs.EventChanges.{is_point_of}
use Rattle.ckr_desk_memory.specs.Holders.{AreHolders}
use Rattle.ckr_desk_memory.specs.Invariant.{is_in_step}
use Rattle.ckr_desk_memory.specs.OwnSets.{CommitsItsOwn, IsRunningOf}
pub use Rattle.ckr_desk_memory.specs.OwnSets.{IsOfOther}
use Rattle.ckr_desk_memory.specs.View.{JobsView, PointView, RunningStepView}
pub use Rattle.ckr_desk_plans.specs.PlanEvents.{AnswersFollow, PlanFollows}

-- no two running steps are of one run
abbrev pub AreSingle : List RunningStepView → Type 0
AreSingle [] = Unit {0}
AreSingle (on ∷ rest) = AllByRecursion (IsOfOther on.run) rest × AreSingle rest

-- the point of a run's checkpoint is known, and has the program of its step
pub record HasPoint (points : List PointView) (run : ℕ) (owned : OwnedStep) : Type 0 where
  pub point : PointView
  pub found : find (is_point_of run) points ≡ Some point
  pub program : program_of point.state ≡ owned.step.program

-- so it is with each run within its step that holds its names and has a checkpoint in effect
abbrev pub HavePoints : TablesModel → List PointView → Type 0
HavePoints tables points =
    (number : ℕ) (row : RunRow) (owned : OwnedStep) → run_of tables number ≡ Some row → is_in_step row ≡ true → is_some row.in_effect ≡ true → own_step row ≡ Some owned
    → HasPoint points number owned

-- where a run goes on with an earlier one at a checkpoint, its point is known before, with the program of the earlier run's step
abbrev pub KnowsItsPoint : Event → TablesModel → List PointView → Type 0
KnowsItsPoint (Selected job initiator (suc before) step (Some id)) tables points =
    (row : RunRow) (owned : OwnedStep) → run_of tables (suc before) ≡ Some row → step_of_run row step ≡ Some owned → HasPoint points job owned
KnowsItsPoint _ tables points = Unit {0}

pub record HoldTheirOwn (jobs : JobsView) : Type 0 where
  pub holders : AreHolders jobs.tables.desk
  pub running : AllByRecursion (IsRunningOf jobs.tables.desk) jobs.running
  pub single : AreSingle jobs.running
  pub points : HavePoints jobs.tables.desk jobs.points

-- ---- the runs that were running when the system failed

-- a run is on an initiator and within a step
abbrev pub IsLeft : TablesModel → ℕ → Type 0
IsLeft tables number = (row : RunRow) × (run_of tables number ≡ Some row) × (is_running row ≡ true)

-- so is each of these
abbrev pub AreLeft : JobsView → Type 0
AreLeft jobs = AllByRecursion (λ (one : FailedRun). IsLeft jobs.tables.desk one.run) jobs.failed

abbrev pub IsOther : ℕ → FailedRun → Type 0
IsOther job one = one.run ≢ job

-- no step of theirs ends by an event
abbrev pub LeavesLeft : Event → List FailedRun → Type 0
LeavesLeft (StepEnded job step rc writes lengths) failed = AllByRecursion (IsOther job) failed
LeavesLeft _ failed = Unit {0}

-- ---- what a turn comes to

-- what it commits is its step's own
abbrev pub PlanCommits : TablesModel → List RunningStepView → Plan → Type 0
PlanCommits tables running (Rest reply) = Unit {0}
PlanCommits tables running (Tell reply event) = CommitsItsOwn event tables running
PlanCommits tables running (Work job) = Unit {0}
PlanCommits tables running (Pass job reply) = Unit {0}
PlanCommits tables running (Take job) = Unit {0}
PlanCommits tables running (Ask inquiry) = Unit {0}
PlanCommits tables running (Wait job code) = Unit {0}

-- its event is of this run
abbrev pub PlanIsOf : ℕ → Plan → Type 0
PlanIsOf run (Rest reply) = Unit {0}
PlanIsOf run (Tell reply event) = job_of event ≡ run
PlanIsOf run (Work job) = Unit {0}
PlanIsOf run (Pass job reply) = Unit {0}
PlanIsOf run (Take job) = Unit {0}
PlanIsOf run (Ask inquiry) = inquiry.job ≡ run
PlanIsOf run (Wait job code) = job ≡ run

-- it ends no step of a run that was running when the system failed
abbrev pub PlanLeaves : List FailedRun → Plan → Type 0
PlanLeaves failed (Rest reply) = Unit {0}
PlanLeaves failed (Tell reply event) = LeavesLeft event failed
PlanLeaves failed (Work job) = Unit {0}
PlanLeaves failed (Pass job reply) = Unit {0}
PlanLeaves failed (Take job) = Unit {0}
PlanLeaves failed (Ask inquiry) = Unit {0}
PlanLeaves failed (Wait job code) = Unit {0}
