-- A desk with its operators: the one in office, who answers what he is asked in a turn, and those who take office later.
use Rattle.std.specs.Prelude.{ℕ, suc, List, [], ◌∷◌, Option, None, Some}
use Rattle.ckr_console.specs.Answering.{Answering}
use Rattle.ckr_desk.specs.Attendance.{attended_event as event_of_attended}
pub use Rattle.ckr_desk.specs.Attendance.{AttendedDesk, attended_fits, attended_reply, behind_attended}
use Rattle.ckr_desk.specs.Model.Restart.{Decked}
use Rattle.ckr_desk.specs.Model.Layout.{Layout}
use Rattle.ckr_desk.specs.Model.Rows.{TablesModel}
use Rattle.ckr_desk.specs.Model.Turn.{Turn}
use Rattle.ckr_desk.specs.Requests.{behind_call, spelled}
use Rattle.ckr_desk.specs.State.{RoomyDesk, room_at_first}

-- the bytes of the event of a turn
abbrev pub attended_event : AttendedDesk → Turn → List (List ℕ)
attended_event desk turn = spelled (event_of_attended desk turn)

-- ---- those who take office later

-- the operators who take office next, in order, and the place of the one in office among all, counted from 1, or 0 where there was none
pub record RosterView : Type 0 where
  pub later : List Answering
  pub place : ℕ

pub record StaffedDesk : Type 0 where
  pub attended : AttendedDesk
  pub roster : RosterView

-- a desk at its opening: the first of these operators is in office
abbrev pub staffed_with : List Answering → RoomyDesk → StaffedDesk
staffed_with [] state = record { attended = record { state = state; machine_room = room_at_first state.desk.layout None }; roster = record { later = []; place = 0 } }
staffed_with (first ∷ later) state = record { attended = record { state = state; machine_room = room_at_first state.desk.layout (Some first) }; roster = record { later = later; place = 1 } }

-- the layout, and the tables behind the events
abbrev pub layout_at : StaffedDesk → Layout
layout_at desk = desk.attended.state.desk.layout

abbrev pub tables_at : StaffedDesk → TablesModel
tables_at desk = desk.attended.state.desk.office.tables

-- behind turns
abbrev pub with_attended : StaffedDesk → AttendedDesk → StaffedDesk
with_attended desk attended = record desk { attended = attended }

-- behind a call that is no turn
abbrev pub with_call : StaffedDesk → Option Decked → StaffedDesk
with_call desk call = with_attended desk (record desk.attended { state = behind_call desk.attended.state call })

-- the next operator takes office, if there is one, and the former one is dropped
abbrev pub shifted_to : StaffedDesk → List Answering → StaffedDesk
shifted_to desk [] = desk
shifted_to desk (next ∷ later) = record {
  attended = record desk.attended { machine_room = record desk.attended.machine_room { operator = Some next } };
  roster = record { later = later; place = suc desk.roster.place };
}

abbrev pub shifted : StaffedDesk → StaffedDesk
shifted desk = shifted_to desk desk.roster.later
