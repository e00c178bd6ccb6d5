-- A desk whose events are kept, and whose running steps stand where their jobs come to.
use Rattle.std.specs.Prelude.{◌≡◌, ◌+◌, ◌≤◌, ◌==◌, ◌||◌, ◌&&◌, ℕ, pred, Bool, true, false, not, if◌then◌else◌, List, length, slice_get, Option, None, Some, Ok}
use Rattle.std.specs.List.{list_any, list_all, AllByRecursion}
use Rattle.std.specs.Option.{is_none, is_some}
use Rattle.ckr_base.specs.declared.code.Code.{Code}
use Rattle.ckr_base.specs.declared.programs.Finish.TheVariants.{Returned}
use Rattle.ckr_jcl.specs.declared.deck.Job.{Job}
use Rattle.ckr_jcl.specs.declared.deck.Step.{Step}
use Rattle.ckr_library.specs.NameMaps.{Name}
use Rattle.ckr_jcl_decks.specs.Deck.{stored_deck}
use Rattle.ckr_meaning.specs.EffectiveJob.{OwnedStep, plain_job, step_at}
use Rattle.ckr_meaning.specs.declared.place.Place.TheVariants.{Within}
use Rattle.ckr_meaning.specs.LibrarySet.{AreWithinSpace}
use Rattle.ckr_meaning.specs.Program.{records_taken, unit_done, upto}
use Rattle.ckr_meaning.specs.StepRun.{StepStart, case_at, work_at}
use Rattle.ckr_points.specs.declared.run.RunState.{RunState}
use Rattle.ckr_points.specs.declared.run.RunState.TheVariants.{Queued, On, Held, Released}
use Rattle.ckr_points.specs.Follows.{is_running, own_step}
use Rattle.ckr_points.specs.Payload.{rewrites_nothing, start_in_office}
use Rattle.ckr_points.specs.Office.{Leg, Office}
use Rattle.ckr_points.specs.Rows.{RunRow, run_of}
use Rattle.ckr_points_invariant.specs.Invariant.{IsKept}
use Rattle.ckr_points_invariant.specs.Points.{ArePointed}
use Rattle.ckr_points_invariant.specs.Readiness.{AreReady}
use Rattle.ckr_points_invariant.specs.StartedSteps.{AreBegunSteps}
use Rattle.ckr_points_invariant.specs.WrittenEntries.{AreWrittenEntries}
use Rattle.ckr_desk_turn.specs.declared.failed_run.FailedRun.{FailedRun}
use Rattle.ckr_desk_turn.specs.declared.reply.Turn.{Turn}
use Rattle.ckr_desk_turn.specs.Desk.{DeskModel, DeskStep, TurnDone}
use Rattle.ckr_desk_turn.specs.Units.{StepProgress}
use Rattle.ckr_volumes.specs.declared.layout.Layout.{Layout}
use Rattle.ckr_desk_turn.specs.NextEvents.{EventComes, IsWithinStep}

-- how far a step has come: behind so many records taken, with the writes for them; or closed, with all its writes
pub record IsOpen (start : StepStart) (progress : StepProgress) : Type 0 where
  pub taken : progress.taken ≤ records_taken (case_at start)
  pub writes : progress.writes ≡ length (upto (case_at start) progress.taken)

pub record IsClosed (start : StepStart) (progress : StepProgress) : Type 0 where
  pub writes : progress.writes ≡ length (work_at start).writes
  pub rc : ℕ
  pub returned : (work_at start).finish ≡ Returned rc

abbrev pub HasCome : StepStart → StepProgress → Bool → Type 0
HasCome start progress false = IsOpen start progress
HasCome start progress true = IsClosed start progress

-- so far has a step come whose run doesn't wait with a code; one whose run does has stopped within or behind its next unit
abbrev pub HasComeSo : Option Code → StepStart → StepProgress → Type 0
HasComeSo None start progress = HasCome start progress progress.closed
HasComeSo (Some code) start progress = Unit {0}

-- a running step of a run on an initiator, behind the writes that are committed
pub record IsGoing (office : Office) (step : DeskStep) : Type 0 where
  pub row : RunRow
  pub row_at : run_of office.tables step.run ≡ Some row
  pub on : row.state ≡ On
  pub number : ℕ
  pub committed : ℕ
  pub place : row.place ≡ Some (Within number committed)
  pub start : StepStart
  pub start_at : start_in_office office row ≡ Some start
  pub fit : step.progress.writes ≤ length (work_at start).writes
  pub behind : committed ≤ step.progress.writes
  pub plain : rewrites_nothing start committed step.progress.writes ≡ true
  pub come : HasComeSo step.code start step.progress

-- a run that was within a step when the system failed
pub record IsFailed (office : Office) (one : FailedRun) : Type 0 where
  pub row : RunRow
  pub number : ℕ
  pub committed : ℕ
  pub start : StepStart
  pub within : IsWithinStep office one.run row number committed start

-- whether a run may be on an initiator
abbrev pub is_on_one : RunState → Bool
is_on_one Queued = false
is_on_one On = true
is_on_one _ = false

-- whether a run is off its initiator within a step: it is held, or was released
abbrev pub is_off : RunState → Bool
is_off Held = true
is_off Released = true
is_off _ = false

-- a run has a code exactly while it is off its initiator
abbrev pub has_code_while_off : RunRow → Bool
has_code_while_off row = if is_off row.state then is_some row.code else is_none row.code

-- a run is on an initiator only where its state says so, and has a code exactly while it is off one
abbrev pub is_in_its_state : RunRow → Bool
is_in_its_state row = (is_none row.initiator || is_on_one row.state) && has_code_while_off row

-- a step is one of an accepted deck, at its number
pub record IsAdmittedStep (number : ℕ) (owned : OwnedStep) : Type 0 where
  pub cards : List ℕ
  pub deck : Job
  pub accepted : stored_deck cards ≡ Ok deck
  pub owned_so : step_at (plain_job owned.owner deck) number ≡ Some owned

-- the step of that number in a deck has this name
abbrev pub HasStepName : Job → ℕ → Name → Type 0
HasStepName deck number name = (step : Step) × (slice_get deck.steps (pred number) ≡ Some step) × (step.name ≡ name)

-- the cards of an accepted deck were read, a run that is on an initiator has one, and each step of its job is of an accepted deck; those from where
-- it runs itself have the names that its deck gives them
pub record IsAdmitted (row : RunRow) : Type 0 where
  pub cards : List ℕ
  pub accepted : stored_deck cards ≡ Ok row.deck
  pub steps : (number : ℕ) (owned : OwnedStep) → step_at row.job number ≡ Some owned → IsAdmittedStep number owned
  pub named : (number : ℕ) (owned : OwnedStep) → row.earlier_step ≤ number → step_at row.job number ≡ Some owned → HasStepName row.deck number owned.step.name
  pub lodged : (not (is_on_one row.state) || is_some row.initiator) ≡ true

-- a run on an initiator within a step is running, or was when the system failed
abbrev pub is_accounted : DeskModel → RunRow → Bool
is_accounted desk row =
    not (is_running row) || (list_any (λ (step : DeskStep). step.run == row.number) desk.running || list_any (λ (one : FailedRun). one.run == row.number) desk.failed)

-- a run on an initiator within a step has that step, and so has one that is off its initiator
abbrev pub has_its_step : RunRow → Bool
has_its_step row = not (is_running row || is_off row.state) || is_some (own_step row)

-- the desk is as its events have brought it about
pub record IsDesk (desk : DeskModel) : Type 0 where
  pub kept : IsKept desk.layout desk.office
  pub going : AllByRecursion (IsGoing desk.office) desk.running
  pub failed : AllByRecursion (IsFailed desk.office) desk.failed
  pub states : list_all is_in_its_state desk.office.tables.runs ≡ true
  pub admitted : AllByRecursion IsAdmitted desk.office.tables.runs
  pub stepped : list_all has_its_step desk.office.tables.runs ≡ true
  pub accounted : list_all (is_accounted desk) desk.office.tables.runs ≡ true
  pub spaced : AreWithinSpace desk.office.library
  pub spaced_legs : AllByRecursion (λ (leg : Leg). AreWithinSpace leg.start) desk.office.legs
  pub pointed : ArePointed desk.office
  pub ready : AreReady desk.office
  pub begun : AreBegunSteps desk.office
  pub written : AreWrittenEntries desk.office

-- what the events of a desk have brought about beside kept tables, whichever steps are running
pub record HasRuns (office : Office) : Type 0 where
  pub states : list_all is_in_its_state office.tables.runs ≡ true
  pub admitted : AllByRecursion IsAdmitted office.tables.runs
  pub stepped : list_all has_its_step office.tables.runs ≡ true
  pub spaced : AreWithinSpace office.library
  pub spaced_legs : AllByRecursion (λ (leg : Leg). AreWithinSpace leg.start) office.legs
  pub pointed : ArePointed office
  pub ready : AreReady office
  pub begun : AreBegunSteps office
  pub written : AreWrittenEntries office

-- what a turn comes to: its event may come, and the desk behind it is as its events have brought it about
pub record Keeps (desk : DeskModel) (done : TurnDone) : Type 0 where
  pub comes : EventComes desk done.event
  pub kept : IsDesk done.desk

-- a turn of an initiator that the layout has
pub record IsTurnOf (layout : Layout) (turn : Turn) : Type 0 where
  pub above : 1 ≤ turn.initiator
  pub below : turn.initiator ≤ layout.initiators

-- the writes behind the next unit, if they fit
abbrev pub next_writes : StepStart → StepProgress → ℕ
next_writes start before = before.writes + length (unit_done (case_at start) before.taken).writes.items
