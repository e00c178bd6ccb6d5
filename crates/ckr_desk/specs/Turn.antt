-- What a turn comes to, from where the desk stands, by what has become of its step's volumes and with the operator's answer on a restart.
use Rattle.std.specs.Prelude.{◌≡◌, Bool, true, false, Option, Result, Ok, Err}
use Rattle.ckr_console.specs.Answering.{asked}
use Rattle.ckr_console.specs.declared.question.Answer.{Answer}
use Rattle.ckr_events.specs.declared.event.Event.{Event}
use Rattle.ckr_desk_turn.specs.Turns.{MountedTurn, turn_of}
use Rattle.ckr_points.specs.declared.reply.Reply.{Reply}
use Rattle.ckr_desk.specs.declared.error.DeskError.{DeskError}
use Rattle.ckr_desk.specs.declared.error.DeskError.TheVariants.{NoMemory, BookFull}
use Rattle.ckr_desk.specs.State.{RoomyDesk}
use Rattle.ckr_desk_turn.specs.MachineRoom.{MachineRoomView}
use Rattle.ckr_desk.specs.Requests.{has_room, room_behind}

unfoldable pub reply_of : RoomyDesk → MountedTurn → Answer → Reply
reply_of state turn answer = (turn_of state.desk turn answer).reply

unfoldable pub event_of_turn : RoomyDesk → MountedTurn → Answer → Option Event
event_of_turn state turn answer = (turn_of state.desk turn answer).event

unfoldable pub turn_fits : RoomyDesk → MountedTurn → Answer → Bool
turn_fits state turn answer = has_room state.room (event_of_turn state turn answer)

unfoldable pub behind_turn : RoomyDesk → MountedTurn → Answer → RoomyDesk
behind_turn state turn answer = record {
  desk = (turn_of state.desk turn answer).desk;
  room = room_behind state.room (event_of_turn state turn answer);
}

-- ---- the operator

-- whether he is asked in it whether a run may be restarted
unfoldable pub asks : RoomyDesk → MountedTurn → Answer → Bool
asks state turn answer = (turn_of state.desk turn answer).asked

-- behind a turn in which he was asked whether a run may be restarted he has one answer fewer
abbrev pub room_behind_answer : Bool → MachineRoomView → MachineRoomView
room_behind_answer true room = record room { operator = asked room.operator }
room_behind_answer false room = room

-- where the turn wasn't done: without memory he wasn't asked, and where the book is full his answer was given
abbrev pub AnswerStandsBy : Bool → MachineRoomView → MachineRoomView → DeskError → Type 0
AnswerStandsBy asks old new NoMemory = new ≡ old
AnswerStandsBy asks old new (BookFull need room) = new ≡ room_behind_answer asks old
AnswerStandsBy asks old new _ = Unit {0}

-- an answer that was given stands
abbrev pub AnswerStands : {T : Type 0} → Bool → MachineRoomView → MachineRoomView → Result T DeskError → Type 0
AnswerStands asks old new (Ok done) = new ≡ room_behind_answer asks old
AnswerStands asks old new (Err error) = AnswerStandsBy asks old new error
