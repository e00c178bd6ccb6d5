-- The events that a running step brings about: it has ended, its run ends or is held with a code, its restarts are cancelled, or it asks for a rewrite
-- in place; and the end by a code, or the hold, of a run that was within a step and has no running one.
use Rattle.std.specs.Prelude.{◌≡◌, ◌&&◌, ◌||◌, ℕ, Bool, true, List, Some}
use Rattle.ckr_base.specs.declared.programs.Heads.{Heads}
use Rattle.ckr_events.specs.declared.event.Ending.{Ending}
use Rattle.ckr_events.specs.declared.event.Ending.TheVariants.{Coded}
use Rattle.ckr_events.specs.declared.event.Event.{Event}
use Rattle.ckr_events.specs.declared.event.Event.TheVariants.{Cancelled, Ended, Held, Rewritten, StepEnded}
use Rattle.ckr_points.specs.Follows.{is_in_state, is_within, own_step}
use Rattle.ckr_points.specs.Payload.{lengths_kept}
use Rattle.ckr_meaning.specs.EffectiveJob.{OwnedStep}
use Rattle.ckr_points.specs.Restart.{place_of, step_in}
use Rattle.ckr_points.specs.Rows.{RunRow, TablesModel, run_of}
use Rattle.ckr_points.specs.declared.run.RunState.TheVariants.{On, Released}
use Rattle.ckr_desk_plans.specs.Model.StepUnit.{worked_for}
use Rattle.ckr_desk_plans.specs.StepTypes.Worked.TheVariants.{Rewrite}
use Rattle.ckr_desk_memory.specs.View.{RunningStepView, lengths_of_row}

-- the lengths are those that the step has
abbrev pub HasOwnLengths : TablesModel → RunningStepView → List ℕ → Type 0
HasOwnLengths tables on lengths = (row : RunRow) → run_of tables on.run ≡ Some row → lengths ≡ lengths_of_row on.sets.sets row

-- a unit of the step, for some heads, asks for this rewrite
pub record IsOwnRewrite (tables : TablesModel) (on : RunningStepView) (job : ℕ) (lengths : List ℕ) (place : ℕ) (image : List ℕ) : Type 0 where
  pub run : job ≡ on.run
  pub own : HasOwnLengths tables on lengths
  pub heads : Heads
  pub taken : ℕ
  pub asks : worked_for on.sets on.step heads ≡ Rewrite place image taken

pub record IsOwnStepEnd (tables : TablesModel) (on : RunningStepView) (job step : ℕ) (lengths : List ℕ) : Type 0 where
  pub run : job ≡ on.run
  pub ends : (row : RunRow) → run_of tables on.run ≡ Some row → step ≡ step_in (place_of row)
  pub own : HasOwnLengths tables on lengths

abbrev pub IsOwnEnding : Ending → TablesModel → RunningStepView → Type 0
IsOwnEnding (Coded code rule writes lengths) tables on = HasOwnLengths tables on lengths.items
IsOwnEnding _ tables on = ⊥

-- an event that this running step brings about
abbrev pub IsOwnEvent : Event → TablesModel → RunningStepView → Type 0
IsOwnEvent (Rewritten job taken writes lengths place image) tables on = IsOwnRewrite tables on job lengths.items place image
IsOwnEvent (StepEnded job step rc writes lengths) tables on = IsOwnStepEnd tables on job step lengths.items
IsOwnEvent (Cancelled job) tables on = job ≡ on.run
IsOwnEvent (Held job code writes lengths) tables on = (job ≡ on.run) × HasOwnLengths tables on lengths.items
IsOwnEvent (Ended job ending) tables on = (job ≡ on.run) × IsOwnEnding ending tables on
IsOwnEvent _ tables on = ⊥

-- whether a run within a step is on an initiator, or was released: only then it may end by a code, be held or be restarted
abbrev pub is_at_hand : RunRow → Bool
is_at_hand row = (is_in_state On row || is_in_state Released row) && is_within (place_of row)

-- a run at hand, with the lengths that are committed
pub record IsLeftWithin (tables : TablesModel) (job : ℕ) (lengths : List ℕ) : Type 0 where
  pub row : RunRow
  pub owned : OwnedStep
  pub row_at : run_of tables job ≡ Some row
  pub running : is_at_hand row ≡ true
  pub found : own_step row ≡ Some owned
  pub kept : lengths ≡ lengths_kept row.job.root owned tables.sets
