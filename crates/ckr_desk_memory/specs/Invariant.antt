-- What holds of the jobs in memory, whatever the disk reads.
use Rattle.std.specs.Prelude.{◌≡◌, ◌==◌, ◌||◌, ◌&&◌, ℕ, Bool, true, nat_le, not, IsSome, List, Ok, Option, None, Some}
use Rattle.std.specs.List.{AllByRecursion}
use Rattle.std.specs.Option.{is_none, is_some}
use Rattle.ckr_events.specs.declared.event.Event.{Event}
use Rattle.ckr_events.specs.declared.event.Event.TheVariants.{Submitted, Held}
use Rattle.ckr_jcl.specs.declared.deck.Job.{Job}
use Rattle.ckr_jcl_decks.specs.Deck.{stored_deck}
use Rattle.ckr_meaning.specs.EffectiveJob.{Effective, OwnedStep, plain_job, step_at}
use Rattle.ckr_meaning.specs.declared.place.Place.{Place}
use Rattle.ckr_meaning.specs.declared.place.Place.TheVariants.{Before, Opened, Within}
use Rattle.ckr_points.specs.Tables.{queued_run}
use Rattle.ckr_points.specs.declared.run.RunState.TheVariants.{Queued}
use Rattle.ckr_points.specs.Follows.{follows, is_in_state, is_within}
use Rattle.ckr_points.specs.Marks.{point_at}
use Rattle.ckr_points.specs.Office.{is_holder}
use Rattle.ckr_points.specs.Restart.{place_of, step_in}
use Rattle.ckr_points.specs.Rows.{RunRow}
use Rattle.ckr_points.specs.Soundness.{AreLaidOut}
use Rattle.ckr_desk_turn.specs.Spelling.{IsCode}
use Rattle.ckr_desk_turn.specs.Invariant.{has_code_while_off, IsAdmittedStep, is_off, is_on_one}
use Rattle.ckr_desk_plans.specs.Model.Inputs.{AreStored, AreThere}
use Rattle.ckr_desk_plans.specs.Model.StepUnit.{AreCounted}
use Rattle.ckr_volumes.specs.declared.layout.Layout.{Layout}
use Rattle.ckr_desk_memory.specs.Plans.{IsAnyCode}
use Rattle.ckr_desk_memory.specs.View.{JobsView, RunningStepView}

-- a run of a deck that was accepted: each step of its job is of an accepted deck, and without RESTART it runs its own deck alone
pub record IsAcceptedRow (row : RunRow) : Type 0 where
  pub cards : List ℕ
  pub accepted : stored_deck cards ≡ Ok row.deck
  pub steps : (number : ℕ) (owned : OwnedStep) → step_at row.job number ≡ Some owned → IsAdmittedStep number owned
  pub plain : row.deck.restart ≡ None → row.job ≡ plain_job row.number row.deck
  pub first : row.deck.restart ≡ None → row.earlier_step ≡ 0

abbrev pub IsAcceptedDeck : ℕ → Option Job → Type 0
IsAcceptedDeck job None = Unit {0}
IsAcceptedDeck job (Some deck) = IsAcceptedRow (queued_run job deck)

-- a deck that an event submits is such a one, and a code that it holds a run with has a spelling
abbrev pub IsAnyAccepted : Event → Option Job → Type 0
IsAnyAccepted (Submitted job cards) deck = IsAcceptedDeck job deck
IsAnyAccepted (Held job code writes lengths) deck = IsCode code
IsAnyAccepted _ deck = Unit {0}

-- a run within a step has that step
abbrev pub IsPlaceOf : Effective → Place → Type 0
IsPlaceOf job (Before step) = Unit {0}
IsPlaceOf job (Opened step) = Unit {0}
IsPlaceOf job (Within step writes) = IsSome (step_at job step)

abbrev pub IsAnyPlaceOf : Effective → Option Place → Type 0
IsAnyPlaceOf job None = Unit {0}
IsAnyPlaceOf job (Some place) = IsPlaceOf job place

-- a run within a step has the point of its start
abbrev pub is_begun : RunRow → Bool
is_begun row = not (is_within (place_of row)) || is_some (point_at row.points (step_in (place_of row)))

-- whether a run that holds its names is within a step: it is on an initiator, held or released
abbrev pub is_in_step : RunRow → Bool
is_in_step row = is_holder row.state && is_within (place_of row)

-- a checkpoint is in effect only of such a run
abbrev pub is_idle : RunRow → Bool
is_idle row = is_in_step row || is_none row.in_effect

-- so it is with this run, whose step is one that it executes itself, and which is at no step and continues no other one before it is selected; it has an initiator exactly where it is on one, and a code, which has a spelling, exactly while it is off
-- its initiator within a step
pub record IsPlacedRow (row : RunRow) : Type 0 where
  pub place : IsAnyPlaceOf row.job row.place
  pub from : nat_le row.earlier_step (step_in (place_of row)) ≡ true
  pub early : (not (is_in_state Queued row) || row.earlier_step == 0 && is_none row.place) ≡ true
  pub begun : is_begun row ≡ true
  pub idle : is_idle row ≡ true
  pub lodged : (is_none row.initiator || is_on_one row.state) ≡ true
  pub seated : (not (is_on_one row.state) || is_some row.initiator) ≡ true
  pub code : has_code_while_off row ≡ true
  pub coded : IsAnyCode row.code
  pub off : (not (is_off row.state) || is_within (place_of row)) ≡ true

-- the data sets of a running step are there, and stand apart in the layout; its numbers are in their ranges, and a code with which its run waits has a
-- spelling
pub record IsRunnable (layout : Layout) (on : RunningStepView) : Type 0 where
  pub stored : AreStored layout on.sets
  pub there : AreThere on.step.files on.sets
  pub counted : AreCounted on.step
  pub coded : IsAnyCode on.code

pub record AreJobs (layout : Layout) (jobs : JobsView) : Type 0 where
  pub laid : AreLaidOut layout jobs.tables.desk.sets
  pub rows : AllByRecursion IsAcceptedRow jobs.tables.desk.runs
  pub placed : AllByRecursion IsPlacedRow jobs.tables.desk.runs
  pub running : AllByRecursion (IsRunnable layout) jobs.running

-- in a layout where the jobs are so, an event follows
abbrev pub MayGoOn : JobsView → Event → Option Job → Type 0
MayGoOn jobs event deck = (layout : Layout) × AreJobs layout jobs × (follows layout jobs.tables.desk event deck ≡ true)
