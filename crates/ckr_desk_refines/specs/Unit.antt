-- A unit of a running step in memory, or a checkpoint that is suppressed, and the jobs in memory behind it.
use Rattle.std.specs.Prelude.{◌≡◌, ℕ, false, List, ◌∷◌, find, Some}
use Rattle.ckr_desk_memory.specs.EventChanges.{is_of_run, served_in, without_first}
use Rattle.ckr_desk_memory.specs.View.{JobsView, RunningStepView}
use Rattle.ckr_meaning.specs.StepRun.{StepStart}
use Rattle.ckr_desk_refines.specs.Standing.{StandsForDesk}
use Rattle.ckr_steps.specs.declared.step_run.Worked.{Worked}
use Rattle.ckr_steps.specs.Places.{GoesOn, ShowsWithin, IsStepPlace}
use Rattle.ckr_steps.specs.StepUnit.{HasWorked}
use Rattle.ckr_steps.specs.Writes.{Keeps}
use Rattle.ckr_desk_turn.specs.Desk.{DeskModel, jobs_of}
use Rattle.ckr_desk_turn.specs.declared.plan.Plan.TheVariants.{Work}
use Rattle.ckr_desk_turn.specs.Turns.{MountedTurn, plan_for}
use Rattle.ckr_volumes.specs.declared.layout.Layout.{Layout}

-- a unit of the running step of a run was done, from one image to another
pub record StandsBehindUnit (layout : Layout) (old : JobsView) (before after : List ℕ) (desk : DeskModel) (turn : MountedTurn) (run : ℕ) (on moved : RunningStepView) (worked : Worked) : Type 0 where
  pub stands : StandsForDesk layout old before desk
  pub planned : plan_for desk.layout (jobs_of desk) turn ≡ Work run
  pub found : find (is_of_run run) old.running ≡ Some on
  pub same_run : moved.run ≡ on.run
  pub same_code : moved.code ≡ on.code
  pub did : HasWorked (Unit {0}) before after layout on.step moved.step on.sets moved.sets worked
  pub goes : (start : StepStart) (taken : ℕ) → IsStepPlace start taken false on.step on.sets → ShowsWithin (Unit {0}) before layout start on.step.writes on.sets
      → GoesOn (Unit {0}) after layout start taken on.step moved.step moved.sets worked
  pub keeps : Keeps layout on.sets before after

-- the step is put back before the others
pub record IsPutBack (run : ℕ) (moved : RunningStepView) (old put : JobsView) : Type 0 where
  pub tables : put.tables.desk ≡ old.tables.desk
  pub failed : put.failed ≡ old.failed
  pub running : put.running ≡ moved ∷ without_first run old.running
  pub points : put.points ≡ old.points

-- the checkpoint that is due of the running step of a run is done, with no entry
pub record HasPassed (run : ℕ) (old new : JobsView) : Type 0 where
  pub tables : new.tables.desk ≡ old.tables.desk
  pub failed : new.failed ≡ old.failed
  pub running : new.running ≡ served_in run old.running
  pub points : new.points ≡ old.points
