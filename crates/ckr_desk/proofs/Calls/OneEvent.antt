-- A call has one event at most.
use Rattle.std.proofs.Common.{◌≤◌, length, Option, Some, None, arith}
use Rattle.ckr_console.specs.declared.question.Answer.{Answer}
use Rattle.ckr_events.specs.declared.event.Event.{Event}
use Rattle.ckr_desk_turn.specs.Turns.{MountedTurn}
use Rattle.ckr_points.specs.Restart.{Decked}
use Rattle.ckr_desk.specs.Requests.{event_in, spelled}
use Rattle.ckr_desk.specs.State.{RoomyDesk}
use Rattle.ckr_desk.specs.Turn.{event_of_turn}

few : (event : Option Event) → length (spelled event) ≤ 1
few None = omega arith
few (Some event) = omega arith

pub turn-few : (s : RoomyDesk) (turn : MountedTurn) (answer : Answer) → length (spelled (event_of_turn s turn answer)) ≤ 1
turn-few s turn answer = few (event_of_turn s turn answer)

pub call-few : (call : Option Decked) → length (spelled (event_in call)) ≤ 1
call-few call = few (event_in call)
