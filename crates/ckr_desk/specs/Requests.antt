-- What the calls beside turns come to, from where the desk stands.
use Rattle.std.specs.Prelude.{◌≡◌, ◌<◌, ℕ, ◌+◌, ◌-◌, Bool, true, nat_le, List, [], ◌∷◌, length, Option, Some, None, Result, Err}
use Rattle.ckr_events.specs.declared.event.Event.{Event}
use Rattle.ckr_events.specs.Event.{spelling}
use Rattle.ckr_outside.specs.Faults.{Rose}
use Rattle.ckr_points.specs.Restart.{Decked}
use Rattle.ckr_desk_turn.specs.Desk.{DeskModel, behind}
use Rattle.ckr_desk.specs.declared.error.DeskError.{DeskError}
use Rattle.ckr_desk.specs.declared.error.DeskError.TheVariants.{NoMemory, DiskFault, BookFull, Stopped}
use Rattle.ckr_desk.specs.State.{RoomyDesk, need_of}

-- ---- the room of the book

abbrev pub has_room : ℕ → Option Event → Bool
has_room room None = true
has_room room (Some event) = nat_le (need_of event) room

abbrev pub room_behind : ℕ → Option Event → ℕ
room_behind room None = room
room_behind room (Some event) = room - (length (spelling event) + 5)

-- the bytes of the event of a call, if there is one
abbrev pub spelled : Option Event → List (List ℕ)
spelled None = []
spelled (Some event) = spelling event ∷ []

-- the event of a call that may have come, by its answer: want of memory and a full book keep none
abbrev pub came_by : {T : Type 0} → Result T DeskError → List (List ℕ) → List (List ℕ)
came_by (Err NoMemory) came = []
came_by (Err (BookFull need left)) came = []
came_by _ came = came

-- ---- a call that is one event with its deck, or none

abbrev pub event_in : Option Decked → Option Event
event_in None = None
event_in (Some call) = Some call.0

abbrev pub desk_behind : Option Decked → DeskModel → DeskModel
desk_behind None desk = desk
desk_behind (Some call) desk = behind call.0 call.1 desk

unfoldable pub call_fits : RoomyDesk → Option Decked → Bool
call_fits state call = has_room state.room (event_in call)

unfoldable pub behind_call : RoomyDesk → Option Decked → RoomyDesk
behind_call state call = record {
  desk = desk_behind call state.desk;
  room = room_behind state.room (event_in call);
}

-- ---- why a call wasn't done

-- on any disk: the counts of its faults before and now, and the fault at which the desk had stopped
abbrev pub MayFail : ℕ → ℕ → Option ℕ → DeskError → Type 0
MayFail before now stopped NoMemory = Unit {0}
MayFail before now stopped DiskFault = Rose before now
MayFail before now stopped (BookFull need room) = Unit {0}
MayFail before now stopped (Stopped fault) = stopped ≡ Some fault

-- the book is full, by its room and the event of the call: what the event needs, and the room that is left, which is less
abbrev pub IsFull : ℕ → Option Event → ℕ → ℕ → Type 0
IsFull room None need left = ⊥
IsFull room (Some event) need left = (need ≡ need_of event) × (left ≡ room) × (left < need)

-- on any disk: the numbers of a full book
abbrev pub TellsFull : ℕ → Option Event → DeskError → Type 0
TellsFull room event (BookFull need left) = IsFull room event need left
TellsFull room event _ = Unit {0}

-- the numbers of a full book are those of some event
abbrev pub TellsNumbers : ℕ → DeskError → Type 0
TellsNumbers room (BookFull need left) = (event : Event) × IsFull room (Some event) need left
TellsNumbers room _ = Unit {0}

-- where the disk is trusted: the room of the book, and the event of the call, if it has one
abbrev pub FailsBy : ℕ → Option Event → DeskError → Type 0
FailsBy room event NoMemory = Unit {0}
FailsBy room event DiskFault = Unit {0}
FailsBy room event (BookFull need left) = IsFull room event need left
FailsBy room event (Stopped fault) = Unit {0}
