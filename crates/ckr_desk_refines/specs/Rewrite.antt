-- A unit of a running step asks for a rewrite in place.
use Rattle.std.specs.Prelude.{◌≡◌, ℕ, false, List, ◌∷◌, find, Some}
use Rattle.ckr_desk_memory.specs.EventChanges.{is_of_run, without_first}
use Rattle.ckr_desk_memory.specs.View.{JobsView, RunningStepView}
use Rattle.ckr_meaning.specs.StepRun.{StepStart}
use Rattle.ckr_desk_refines.specs.Standing.{StandsForDesk}
use Rattle.ckr_steps.specs.declared.step_run.Worked.TheVariants.{Rewrite}
use Rattle.ckr_steps.specs.Places.{IsToRewrite, ShowsWithin, IsStepPlace}
use Rattle.ckr_steps.specs.StepUnit.{HasWorked}
use Rattle.ckr_steps.specs.Writes.{Keeps}
use Rattle.ckr_desk_turn.specs.declared.plan.Plan.TheVariants.{Work}
use Rattle.ckr_desk_turn.specs.Turns.{MountedTurn, plan_for}
use Rattle.ckr_desk_turn.specs.Desk.{DeskModel, jobs_of}
use Rattle.ckr_volumes.specs.declared.layout.Layout.{Layout}

-- a unit of the running step of a run asks for a rewrite in place
pub record AsksToRewrite (layout : Layout) (old : JobsView) (before after : List ℕ) (desk : DeskModel) (turn : MountedTurn) (job : ℕ) (on moved : RunningStepView) (place : ℕ) (image : List ℕ) (taken : ℕ) : Type 0 where
  pub stands : StandsForDesk layout old before desk
  pub planned : plan_for desk.layout (jobs_of desk) turn ≡ Work job
  pub found : find (is_of_run job) old.running ≡ Some on
  pub run : moved.run ≡ on.run
  pub code : moved.code ≡ on.code
  pub did : HasWorked (Unit {0}) before after layout on.step moved.step on.sets moved.sets (Rewrite place image taken)
  pub goes : (start : StepStart) (taken_before : ℕ) → IsStepPlace start taken_before false on.step on.sets → ShowsWithin (Unit {0}) before layout start on.step.writes on.sets
      → IsToRewrite (Unit {0}) after layout start taken_before taken place image on.step moved.step moved.sets
  pub keeps : Keeps layout on.sets before after

-- the step is put back among the running ones, and the tables, the failed runs and the points are as they were
pub record IsPutBack (run : ℕ) (moved : RunningStepView) (old put : JobsView) : Type 0 where
  pub tables : put.tables.desk ≡ old.tables.desk
  pub failed : put.failed ≡ old.failed
  pub running : put.running ≡ moved ∷ without_first run old.running
  pub points : put.points ≡ old.points
