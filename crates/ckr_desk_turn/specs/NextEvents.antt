-- An event that may come next at a desk, and carries what its job gives; and a run within a step.
use Rattle.std.specs.Prelude.{◌≡◌, ℕ, Option, Some, None}
use Rattle.ckr_events.specs.declared.event.Event.{Event}
use Rattle.ckr_meaning.specs.declared.place.Place.TheVariants.{Within}
use Rattle.ckr_meaning.specs.StepRun.{StepStart}
use Rattle.ckr_points.specs.declared.run.RunState.TheVariants.{On}
use Rattle.ckr_points.specs.Events.{IsNext}
use Rattle.ckr_points.specs.Office.{Office}
use Rattle.ckr_points.specs.Restart.{place_of}
use Rattle.ckr_points.specs.Rows.{RunRow, run_of}
use Rattle.ckr_desk_turn.specs.Desk.{DeskModel}
use Rattle.ckr_points.specs.Payload.{start_in_office}

abbrev pub Comes : DeskModel → Event → Type 0
Comes desk event = IsNext desk.layout desk.office (event, None)

-- a run on an initiator, within its step behind so many committed writes
pub record IsWithinStep (office : Office) (run : ℕ) (row : RunRow) (number committed : ℕ) (start : StepStart) : Type 0 where
  pub row_at : run_of office.tables run ≡ Some row
  pub on : row.state ≡ On
  pub place : place_of row ≡ Within number committed
  pub start_at : start_in_office office row ≡ Some start

-- the event of a turn, where it has one
abbrev pub EventComes : DeskModel → Option Event → Type 0
EventComes desk None = Unit {0}
EventComes desk (Some event) = Comes desk event
