-- Whether the book has room for the event of a call.
use Rattle.std.proofs.Common.{◌≡◌, ◌<◌, ◌∙◌, ℕ, List, subst, sym, true, false, inl, inr, Option, Some, None, Result, OnOk}
use Rattle.ckr_base.proofs.Numbers.{nat_le-beyond}
use Rattle.ckr_book.specs.Book.{room_of}
use Rattle.ckr_console.specs.declared.question.Answer.{Answer}
use Rattle.ckr_events.specs.declared.event.Event.{Event}
use Rattle.ckr_desk_refines.specs.Moves.{event_in as event_in_plan}
use Rattle.ckr_desk_turn.specs.Inquiries.{decide}
use Rattle.ckr_desk_turn.specs.declared.plan.Plan.{Plan}
use Rattle.ckr_desk_turn.specs.Turns.{MountedTurn}
use Rattle.ckr_points.specs.Restart.{Decked}
use Rattle.ckr_desk.specs.declared.error.DeskError.{DeskError}
use Rattle.ckr_desk.specs.declared.error.DeskError.TheVariants.{NoMemory, DiskFault, BookFull, Stopped}
use Rattle.ckr_desk.specs.NoChange.{IsOfDisk}
use Rattle.ckr_desk.specs.Preparation.{LacksAnswers, NotLooked, NotReadyFor, NotSettled}
use Rattle.ckr_desk.specs.Requests.{FailsBy, IsFull, TellsNumbers, call_fits, event_in, has_room}
use Rattle.ckr_desk.specs.State.{DeskView, RoomyDesk, need_of}
use Rattle.ckr_desk.specs.Turn.{event_of_turn, turn_fits}

no-room : (room : ℕ) (event : Option Event) (need left : ℕ) → IsFull room event need left → has_room room event ≡ false
no-room room None need left full = absurd full
no-room room (Some event) need left full = nat_le-beyond (need_of event) room (subst (λ n. room < n) full.0 (subst (λ n. n < need) full.1 full.2))

fails-full : (room : ℕ) (event : Option Event) (error : DeskError) (need left : ℕ) → error ≡ BookFull need left → FailsBy room event error → has_room room event ≡ false
fails-full room event error need left is cause = no-room room event need left (subst (FailsBy room event) is cause)

pub turn-full : (s : RoomyDesk) (turn : MountedTurn) (answer : Answer) (error : DeskError) (need left : ℕ) → error ≡ BookFull need left → FailsBy s.room (event_of_turn s turn answer) error → turn_fits s turn answer ≡ false
unfolding turn_fits
turn-full s turn answer error need left is cause = fails-full s.room (event_of_turn s turn answer) error need left is cause

pub call-full : (s : RoomyDesk) (call : Option Decked) (error : DeskError) (need left : ℕ) → error ≡ BookFull need left → FailsBy s.room (event_in call) error → call_fits s call ≡ false
unfolding call_fits
call-full s call error need left is cause = fails-full s.room (event_in call) error need left is cause

-- ---- there is room for the event of a call that is done

pub turn-has_room : {T : Type 0} (s : RoomyDesk) (result : Result T DeskError) (turn : MountedTurn) (answer : Answer) → OnOk result (turn_fits s turn answer ≡ true) → OnOk result (has_room s.room (event_of_turn s turn answer) ≡ true)
unfolding turn_fits
turn-has_room s result turn answer fits = fits

pub turn-fits : (s : RoomyDesk) (turn : MountedTurn) (answer : Answer) → has_room s.room (event_of_turn s turn answer) ≡ true → turn_fits s turn answer ≡ true
unfolding turn_fits
turn-fits s turn answer room = room

pub call-fits : (s : RoomyDesk) (call : Option Decked) → has_room s.room (event_in call) ≡ true → call_fits s call ≡ true
unfolding call_fits
call-fits s call room = room

-- ---- the numbers of a full book, on any disk

pub of-disk-numbers : (room : ℕ) (error : DeskError) → IsOfDisk error → TellsNumbers room error
of-disk-numbers room NoMemory is = tt
of-disk-numbers room DiskFault is = tt
of-disk-numbers room (BookFull need left) is = absurd is
of-disk-numbers room (Stopped fault) is = tt

module _ {D : Type 0} (old new : DeskView D) where
  unready-numbers : (event : Option Event) (error : DeskError) → NotReadyFor event old new error → TellsNumbers (room_of old.store.book) error
  unready-numbers None error not = absurd not
  unready-numbers (Some event) NoMemory not = tt
  unready-numbers (Some event) DiskFault not = tt
  unready-numbers (Some event) (BookFull need left) not = (event, (not.0, not.1, not.2))
  unready-numbers (Some event) (Stopped fault) not = tt

  lacking-numbers : (plan : Plan) (error : DeskError) → LacksAnswers plan old new error → TellsNumbers (room_of old.store.book) error
  lacking-numbers plan NoMemory not = tt
  lacking-numbers plan DiskFault not = tt
  lacking-numbers plan (BookFull need left) not = absurd not
  lacking-numbers plan (Stopped fault) not = tt

  pub unsettled-numbers : (answer : Answer) (plan : Plan) (error : DeskError) → NotSettled answer plan old new error → TellsNumbers (room_of old.store.book) error
  unsettled-numbers answer plan error (inl lacks) = lacking-numbers plan error lacks
  unsettled-numbers answer plan error (inr not) = unready-numbers (event_in_plan (decide answer plan)) error not

  pub unlooked-numbers : (told : Type 0) (content : D → List ℕ) (run : ℕ) (answer : Answer) → room_of new.store.book ≡ room_of old.store.book
      → (error : DeskError) → NotLooked told content run answer old new error → TellsNumbers (room_of old.store.book) error
  unlooked-numbers told content run answer room NoMemory not = tt
  unlooked-numbers told content run answer room DiskFault not = absurd not
  unlooked-numbers told content run answer room (BookFull need left) not =
      let its = not.1 in
      (its.ahead.event, (its.needed, its.left ∙ room, subst (λ n. n < need) (sym its.left) (subst (λ n. room_of new.store.book < n) (sym its.needed) its.full)))
  unlooked-numbers told content run answer room (Stopped fault) not = absurd not
