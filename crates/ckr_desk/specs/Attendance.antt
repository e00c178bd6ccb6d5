-- A desk with its machine room: what a turn comes to with the volumes on the units and the answers of the operator in office.
use Rattle.std.specs.Prelude.{◌≡◌, ◌⊎◌, ◌++◌, ◌&&◌, ℕ, Bool, true, false, List, IfErr, IfOk, IsTrue, OnOk, Option, None, Some, Result, Ok, Err}
use Rattle.std.specs.Option.{is_none, is_some}
use Rattle.ckr_console.specs.Answering.{restart_answer}
use Rattle.ckr_console.specs.declared.question.Answer.{Answer}
use Rattle.ckr_events.specs.declared.event.Event.{Event}
use Rattle.ckr_desk_refines.specs.Memory.MountMemory.{none_prepared}
use Rattle.ckr_desk_refines.specs.Memory.View.{JobsView}
use Rattle.ckr_queue.specs.Mounts.{held_at}
use Rattle.ckr_queue.specs.Units.{is_volume_list}
use Rattle.ckr_volumes.specs.declared.layout.Layout.{Layout}
use Rattle.ckr_desk_turn.specs.Inquiries.{is_ask}
use Rattle.ckr_desk_turn.specs.Desk.{DeskModel, jobs_of}
use Rattle.ckr_desk_turn.specs.Mounts.{Attempt, Wanting, attempt_for, gives_up, plan_by, volumes_of, wanting, with_taken}
use Rattle.ckr_desk_turn.specs.Plans.{plan_of}
use Rattle.ckr_desk_turn.specs.Turns.{MountedTurn}
use Rattle.ckr_desk_turn.specs.declared.plan.Plan.{Plan}
use Rattle.ckr_points.specs.declared.reply.Reply.{Reply}
use Rattle.ckr_desk_turn.specs.declared.reply.Turn.{Turn}
use Rattle.ckr_desk_turn.specs.declared.taking.Taking.{Taking}
use Rattle.ckr_desk_turn.specs.declared.taking.Taking.TheVariants.{Taken}
use Rattle.ckr_desk_store.specs.OpenImages.{event_records}
use Rattle.ckr_desk.specs.declared.error.DeskError.{DeskError}
use Rattle.ckr_desk.specs.declared.error.DeskError.TheVariants.{NoMemory, BookFull, Stopped}
use Rattle.ckr_desk_turn.specs.MachineRoom.{FitsUnits, MachineRoomView, behind_attempt, given_up_if}
use Rattle.ckr_desk.specs.Preparation.{IsPreparedToSettle, IsTellingPlan}
use Rattle.ckr_desk.specs.Requests.{FailsBy, came_by, spelled}
use Rattle.ckr_desk.specs.Soundness.{IsTrusted, KeepsWithin, state_of}
use Rattle.ckr_desk.specs.State.{DeskView, RoomyDesk, machine_room_of}
use Rattle.ckr_desk.specs.Turn.{asks, behind_turn, event_of_turn, reply_of, room_behind_answer, turn_fits}
use Rattle.ckr_desk.specs.Units.{TakesBy}

-- a desk between two calls, with its machine room
pub record AttendedDesk : Type 0 where
  pub state : RoomyDesk
  pub machine_room : MachineRoomView

abbrev pub attended : {D : Type 0} → (D → List ℕ) → DeskView D → AttendedDesk
attended content desk = record { state = state_of content desk; machine_room = machine_room_of desk }

-- ---- the volumes of a turn's step

-- what a turn comes to before its step's volumes are looked at
abbrev pub plan_before : DeskModel → Turn → Plan
plan_before desk turn = plan_of desk.layout (jobs_of desk) turn

-- how its step comes by them
unfoldable pub attempt_in : AttendedDesk → Turn → Attempt
attempt_in desk turn =
    attempt_for desk.state.desk.layout desk.state.desk.office.tables turn.initiator (plan_before desk.state.desk turn) desk.machine_room.mounts desk.machine_room.operator

-- whether its step has to come by them
unfoldable pub wants_volumes : AttendedDesk → Turn → Bool
wants_volumes desk turn =
    is_some (wanting desk.state.desk.office.tables (plan_before desk.state.desk turn)) && is_none (held_at desk.machine_room.mounts turn.initiator)

abbrev pub mounted : AttendedDesk → Turn → MountedTurn
mounted desk turn = record { turn = turn; taking = (attempt_in desk turn).taking }

-- the operator's answer, if he is asked then whether a run may be restarted
abbrev pub answer_in : AttendedDesk → Turn → Answer
answer_in desk turn = restart_answer (attempt_in desk turn).operator

-- ---- what it comes to

unfoldable pub attended_reply : AttendedDesk → Turn → Reply
attended_reply desk turn = reply_of desk.state (mounted desk turn) (answer_in desk turn)

unfoldable pub attended_event : AttendedDesk → Turn → Option Event
attended_event desk turn = event_of_turn desk.state (mounted desk turn) (answer_in desk turn)

unfoldable pub attended_fits : AttendedDesk → Turn → Bool
attended_fits desk turn = turn_fits desk.state (mounted desk turn) (answer_in desk turn)

unfoldable pub attended_asks : AttendedDesk → Turn → Bool
attended_asks desk turn = asks desk.state (mounted desk turn) (answer_in desk turn)

-- the machine room behind the answers that were given and the mounts that were made, where the step has taken nothing yet
unfoldable pub room_behind_answers : AttendedDesk → Turn → MachineRoomView
room_behind_answers desk turn = room_behind_answer (attended_asks desk turn) (behind_attempt (attempt_in desk turn))

abbrev pub with_room_taken : ℕ → Option (List ℕ) → MachineRoomView → MachineRoomView
with_room_taken initiator takes room = record room { mounts = with_taken initiator takes room.mounts }

-- and where it has taken its volumes
unfoldable pub room_taken : AttendedDesk → Turn → MachineRoomView
room_taken desk turn = with_room_taken turn.initiator (attempt_in desk turn).takes (room_behind_answers desk turn)

unfoldable pub behind_attended : AttendedDesk → Turn → AttendedDesk
behind_attended desk turn = record {
  state = behind_turn desk.state (mounted desk turn) (answer_in desk turn);
  machine_room = given_up_if (gives_up (attended_reply desk turn)) turn.initiator (room_taken desk turn);
}

-- where the turn wasn't done: without memory nobody was asked, and where the book is full the answers stand, and so do the mounts
abbrev pub RoomStandsBy : AttendedDesk → Turn → MachineRoomView → DeskError → Type 0
RoomStandsBy old turn new NoMemory = new ≡ old.machine_room
RoomStandsBy old turn new (BookFull need room) = new ≡ room_behind_answers old turn
RoomStandsBy old turn new _ = Unit {0}

-- on any disk: where the desk had stopped nothing was asked, mounted or given up
abbrev pub RoomStays : MachineRoomView → MachineRoomView → DeskError → Type 0
RoomStays old new (Stopped fault) = new ≡ old
RoomStays old new _ = Unit {0}

abbrev pub RoomStands : {T : Type 0} → AttendedDesk → Turn → MachineRoomView → Result T DeskError → Type 0
RoomStands old turn new (Ok done) = new ≡ (behind_attended old turn).machine_room
RoomStands old turn new (Err error) = RoomStandsBy old turn new error

-- the same where units aren't given up yet
abbrev pub RoomIsTaken : {T : Type 0} → AttendedDesk → Turn → MachineRoomView → Result T DeskError → Type 0
RoomIsTaken old turn new (Ok done) = new ≡ room_taken old turn
RoomIsTaken old turn new (Err error) = RoomStandsBy old turn new error

-- There is no memory only where the turn tells an event that needs some, asks whether a run may be restarted, tries a checkpoint, or its step has to come
-- by its volumes.
abbrev pub LacksBy : AttendedDesk → Turn → DeskError → Type 0
LacksBy old turn error = TakesBy (attended_reply old turn) (attended_event old turn) (attended_asks old turn) error ⊎ (wants_volumes old turn ≡ true)

-- a turn whose step has all that it wants
abbrev pub untaken : Turn → MountedTurn
untaken turn = record { turn = turn; taking = Taken }

-- What a turn has come to on a trusted disk, where units aren't given up yet: the reply, the desk and the machine room behind it, why it wasn't done, and what a
-- stop within it leaves.
pub record HasAttended {D : Type 0} (told : Type 0) (content : D → List ℕ) (may_leave : D → List ℕ → Type 0) (moment : D → ℕ) (left_since : D → ℕ → List ℕ → Type 0) (size : D → ℕ)
    (turn : Turn) (old new : DeskView D) (result : Result Reply DeskError) : Type 0 where
  pub reply : IfOk result (λ reply. reply ≡ attended_reply (attended content old) turn)
  pub fits : OnOk result (attended_fits (attended content old) turn ≡ true)
  pub after : OnOk result (state_of content new ≡ (behind_attended (attended content old) turn).state)
  pub trusted : OnOk result (IsTrusted told content may_leave new)
  pub events : OnOk result (event_records old.store.layout (content new.store.disk) ≡ event_records old.store.layout (content old.store.disk) ++ spelled (attended_event (attended content old) turn))
  pub room : RoomIsTaken (attended content old) turn new.machine_room result
  pub cause : IfErr result (FailsBy (state_of content old).room (attended_event (attended content old) turn))
  pub takes : IfErr result (LacksBy (attended content old) turn)
  pub kept : KeepsWithin content moment left_since size old new (came_by result (spelled (attended_event (attended content old) turn)))

-- the step of a plan wants these volumes, and none is held at its initiator; they need no more units than are free
pub record IsToMount (layout : Layout) (jobs : JobsView) (room : MachineRoomView) (initiator : ℕ) (plan : Plan) (volumes : List ℕ) : Type 0 where
  pub step : Wanting
  pub wanting_is : wanting jobs.tables.desk plan ≡ Some step
  pub volumes_are : volumes ≡ volumes_of layout step
  pub list : IsTrue (is_volume_list volumes)
  pub none : held_at room.mounts initiator ≡ None
  pub fits : FitsUnits layout volumes room

-- the step of a plan wants its volumes, and its run ends, or the operator hasn't answered; there is memory for its end
pub record EndsUnmounted (layout : Layout) (jobs : JobsView) (taking : Taking) (plan : Plan) : Type 0 where
  pub step : Wanting
  pub wanting_is : wanting jobs.tables.desk plan ≡ Some step
  pub telling : IsTellingPlan (plan_by layout jobs.tables.desk taking plan)
  pub unasked : is_ask (plan_by layout jobs.tables.desk taking plan) ≡ false
  pub prepared : IsPreparedToSettle jobs (plan_by layout jobs.tables.desk taking plan) none_prepared
