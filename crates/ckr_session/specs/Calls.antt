-- The calls of the desk that a stream makes, and what is answered, up to the one that the book has no room for.
use Rattle.std.specs.Prelude.{ℕ, zero, suc, ◌==◌, ◌&&◌, Bool, true, false, if◌then◌else◌, List, [], ◌∷◌, map, Option, None, Some}
use Rattle.ckr_library.specs.NameMaps.{Name}
use Rattle.ckr_library.specs.declared.sets.DataSet.{DataSet}
use Rattle.ckr_console.specs.Answering.{Answering}
use Rattle.ckr_desk.specs.Model.Restart.{Decked}
use Rattle.ckr_desk.specs.Model.Listing.{listed, records_of}
use Rattle.ckr_desk.specs.Model.Rows.{TablesModel}
use Rattle.ckr_desk.specs.Model.Run.{Run}
use Rattle.ckr_cards.specs.Session.{Handed}
use Rattle.ckr_cards.specs.Session.Handed.{Deck, Order as Command, Refusal}
use Rattle.ckr_desk.specs.Requests.{call_fits}
use Rattle.ckr_desk.specs.Submit.{submit_answer, submit_call, is_queued, is_held_run, purge_call, release_call}
use Rattle.ckr_desk.specs.Model.View.{line_of}
use Rattle.ckr_desk.specs.Model.Reply.{Reply}
use Rattle.ckr_desk.specs.Model.Reply.TheVariants.{Idle, WaitingUnits, AwaitingReply}
use Rattle.ckr_desk.specs.Model.Turn.{Turn}
use Rattle.ckr_desk.specs.Model.Submitted.{Submitted}
use Rattle.ckr_desk.specs.Model.Submitted.TheVariants.{Job, Refused}
use Rattle.ckr_desk.specs.Model.Layout.{Layout}
use Rattle.ckr_session.specs.declared.orders.Order.{Order}
use Rattle.ckr_session.specs.declared.orders.Order.TheVariants.{Turns, ListOf, Sets, Jobs, Change, Shift, Unknown}
use Rattle.ckr_session.specs.declared.orders.JobChange.{JobChange}
use Rattle.ckr_session.specs.declared.orders.JobChange.TheVariants.{Purge, Release}
use Rattle.ckr_session.specs.Orders.{order_of}
use Rattle.ckr_session.specs.Staff.{AttendedDesk, StaffedDesk, attended_fits, attended_reply, behind_attended, layout_at, shifted, tables_at, with_attended, with_call}

-- the layout tells the serials of volumes
pub data Answer : Type 0 where
  Accepted : (number : ℕ) (name : List ℕ) → Answer
  DeckRefused : (number card : ℕ) → Answer
  LineRefused : (number : ℕ) → Answer
  Turned : (layout : Layout) (initiator : ℕ) (replies : List Reply) → Answer
  Listed : (records : List (List ℕ)) → Answer
  SetsListed : (layout : Layout) (sets : List (Name × DataSet)) → Answer
  JobsListed : (runs : List Run) → Answer
  Changed : (change : JobChange) (job : ℕ) → Answer
  Shifted : (place : ℕ) → Answer
  -- a call that didn't end, and the replies that were given before
  BrokenOff : (layout : Layout) (initiator : ℕ) (replies : List Reply) → Answer

abbrev pub lines_of : TablesModel → List Run
lines_of tables = map line_of tables.runs

-- ---- turns

-- whether the initiator rests behind a turn: it waits for a job, for units or for the operator
abbrev pub is_rest : Reply → Bool
is_rest Idle = true
is_rest (WaitingUnits need free) = true
is_rest AwaitingReply = true
is_rest _ = false

-- the replies to at most so many such turns of an initiator, up to the first behind which it rests, or to the first turn that the book has no room for
abbrev pub turns : Turn → ℕ → AttendedDesk → List Reply
turns turn zero desk = []
turns turn (suc n) desk =
    if attended_fits desk turn then
    attended_reply desk turn
    ∷ (if is_rest (attended_reply desk turn) then [] else turns turn n (behind_attended desk turn))
    else []

abbrev pub after_turns : Turn → ℕ → AttendedDesk → AttendedDesk
after_turns turn zero desk = desk
after_turns turn (suc n) desk =
    if attended_fits desk turn then
    if is_rest (attended_reply desk turn) then behind_attended desk turn
    else after_turns turn n (behind_attended desk turn)
    else desk

-- the book has room for all of them
abbrev pub turns_fit : Turn → ℕ → AttendedDesk → Bool
turns_fit turn zero desk = true
turns_fit turn (suc n) desk =
    if attended_fits desk turn then
    if is_rest (attended_reply desk turn) then true else turns_fit turn n (behind_attended desk turn)
    else false

-- ---- decks

-- the name of the job of a number
abbrev pub name_in : ℕ → List Run → List ℕ
name_in number [] = []
name_in number (run ∷ rest) = if run.number == number then run.name else name_in number rest

abbrev pub answer_to_deck : Submitted → List Run → Answer
answer_to_deck (Job number) runs = Accepted number (name_in number runs)
answer_to_deck (Refused number card) runs = DeckRefused number card

abbrev pub behind_deck : StaffedDesk → List ℕ → StaffedDesk
behind_deck desk cards = with_call desk (submit_call (tables_at desk) cards)

unfoldable pub deck_answer : StaffedDesk → List ℕ → Answer
deck_answer desk cards = answer_to_deck (submit_answer (tables_at desk) cards) (lines_of (tables_at (behind_deck desk cards)))

abbrev pub deck_fits : StaffedDesk → List ℕ → Bool
deck_fits desk cards = call_fits desk.attended.state (submit_call (tables_at desk) cards)

-- ---- commands

abbrev pub list_answer : ℕ → Option (List (List ℕ)) → Answer
list_answer number None = LineRefused number
list_answer number (Some records) = Listed records

-- whether a job may be changed so
abbrev pub may_change : JobChange → TablesModel → ℕ → Bool
may_change Purge tables job = is_queued tables job
may_change Release tables job = is_held_run tables job

abbrev pub call_for : JobChange → TablesModel → ℕ → Option Decked
call_for Purge tables job = purge_call tables job
call_for Release tables job = release_call tables job

abbrev pub change_answer : JobChange → ℕ → ℕ → Bool → Answer
change_answer change number job true = Changed change job
change_answer change number job false = LineRefused number

-- the next operator takes office, unless there is none
abbrev pub shift_answer : ℕ → ℕ → List Answering → Answer
shift_answer number place [] = LineRefused number
shift_answer number place (next ∷ later) = Shifted (suc place)

abbrev pub order_answer : StaffedDesk → ℕ → Order → Answer
order_answer desk number (Turns turn n) = Turned (layout_at desk) turn.initiator (turns turn n desk.attended)
order_answer desk number (ListOf name) = list_answer number (records_of desk.attended.state.desk name)
order_answer desk number Sets = SetsListed (layout_at desk) (listed desk.attended.state.desk)
order_answer desk number Jobs = JobsListed (lines_of (tables_at desk))
order_answer desk number (Change change job) = change_answer change number job (may_change change (tables_at desk) job)
order_answer desk number Shift = shift_answer number desk.roster.place desk.roster.later
order_answer desk number Unknown = LineRefused number

abbrev pub after_order : StaffedDesk → Order → StaffedDesk
after_order desk (Turns turn n) = with_attended desk (after_turns turn n desk.attended)
after_order desk (Change change job) = with_call desk (call_for change (tables_at desk) job)
after_order desk Shift = shifted desk
after_order desk _ = desk

abbrev pub order_fits : StaffedDesk → Order → Bool
order_fits desk (Turns turn n) = turns_fit turn n desk.attended
order_fits desk (Change change job) = call_fits desk.attended.state (call_for change (tables_at desk) job)
order_fits desk _ = true

-- the replies to a command, up to the first turn that the book has no room for
abbrev pub replies_to : StaffedDesk → Order → List Reply
replies_to desk (Turns turn n) = turns turn n desk.attended
replies_to desk _ = []

-- the initiator whose replies they are
abbrev pub initiator_of : Order → ℕ
initiator_of (Turns turn n) = turn.initiator
initiator_of _ = 0

-- ---- requests

-- what a line asks for, by the initiators that there are
abbrev pub order_in : StaffedDesk → List ℕ → Order
order_in desk text = order_of (layout_at desk).initiators text

abbrev pub answer : StaffedDesk → Handed → Answer
answer desk (Deck cards) = deck_answer desk cards
answer desk (Command number text) = order_answer desk number (order_in desk text)
answer desk (Refusal number) = LineRefused number

abbrev pub after : StaffedDesk → Handed → StaffedDesk
after desk (Deck cards) = behind_deck desk cards
after desk (Command number text) = after_order desk (order_in desk text)
after desk (Refusal number) = desk

-- the book has room for the events of a request
abbrev pub fits : StaffedDesk → Handed → Bool
fits desk (Deck cards) = deck_fits desk cards
fits desk (Command number text) = order_fits desk (order_in desk text)
fits desk (Refusal number) = true

-- the replies that a request brings, one after another
abbrev pub replies_of : StaffedDesk → Handed → List Reply
replies_of desk (Deck cards) = []
replies_of desk (Command number text) = replies_to desk (order_in desk text)
replies_of desk (Refusal number) = []

-- what is answered where a request is broken off behind these replies
abbrev pub broken_off : StaffedDesk → Handed → List Reply → Answer
broken_off desk (Deck cards) replies = BrokenOff (layout_at desk) 0 replies
broken_off desk (Command number text) replies = BrokenOff (layout_at desk) (initiator_of (order_in desk text)) replies
broken_off desk (Refusal number) replies = BrokenOff (layout_at desk) 0 replies

-- what is answered to the requests, one after another, up to the first that the book has no room for
abbrev pub calls : StaffedDesk → List Handed → List Answer
calls desk [] = []
calls desk (request ∷ requests) =
    if fits desk request then answer desk request ∷ calls (after desk request) requests
    else broken_off desk request (replies_of desk request) ∷ []

-- the desk behind requests that the book has room for
abbrev pub after_all : StaffedDesk → List Handed → StaffedDesk
after_all desk [] = desk
after_all desk (request ∷ requests) = after_all (after desk request) requests

abbrev pub all_fit : StaffedDesk → List Handed → Bool
all_fit desk [] = true
all_fit desk (request ∷ requests) = fits desk request && all_fit (after desk request) requests

abbrev pub is_refusal : Answer → Bool
is_refusal (DeckRefused number card) = true
is_refusal (LineRefused number) = true
is_refusal _ = false
