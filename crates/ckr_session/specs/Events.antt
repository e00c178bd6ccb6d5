-- The events that the calls of a stream bring to the disk, each as its bytes in the book.
use Rattle.std.specs.Prelude.{ℕ, zero, suc, if◌then◌else◌, List, [], ◌∷◌, ◌++◌, length}
use Rattle.ckr_cards.specs.Session.{Handed}
use Rattle.ckr_cards.specs.Session.Handed.{Deck, Order as Command, Refusal}
use Rattle.ckr_desk.specs.Requests.{call_fits, event_in, spelled}
use Rattle.ckr_desk.specs.Submit.{submit_call}
use Rattle.ckr_desk.specs.Model.Turn.{Turn}
use Rattle.ckr_session.specs.declared.orders.JobChange.{JobChange}
use Rattle.ckr_session.specs.declared.orders.Order.{Order}
use Rattle.ckr_session.specs.declared.orders.Order.TheVariants.{Turns, Change}
use Rattle.ckr_session.specs.Calls.{after, call_for, deck_fits, fits, order_in, turns}
use Rattle.ckr_session.specs.Staff.{AttendedDesk, StaffedDesk, attended_event, behind_attended, tables_at}

-- ---- turns

-- the desk behind the first so many such turns
abbrev pub behind_turns : Turn → ℕ → AttendedDesk → AttendedDesk
behind_turns turn zero desk = desk
behind_turns turn (suc n) desk = behind_turns turn n (behind_attended desk turn)

-- the events of these turns
abbrev pub turns_events : Turn → ℕ → AttendedDesk → List (List ℕ)
turns_events turn zero desk = []
turns_events turn (suc n) desk = attended_event desk turn ++ turns_events turn n (behind_attended desk turn)

-- the event of the turn behind them
abbrev pub turn_event : Turn → ℕ → AttendedDesk → List (List ℕ)
turn_event turn n desk = attended_event (behind_turns turn n desk) turn

-- ---- requests that are served, up to the call that the book has no room for

abbrev pub deck_event : StaffedDesk → List ℕ → List (List ℕ)
deck_event desk cards = spelled (event_in (submit_call (tables_at desk) cards))

abbrev pub change_event : JobChange → StaffedDesk → ℕ → List (List ℕ)
change_event change desk job = spelled (event_in (call_for change (tables_at desk) job))

abbrev pub order_events : StaffedDesk → Order → List (List ℕ)
order_events desk (Turns turn n) = turns_events turn (length (turns turn n desk.attended)) desk.attended
order_events desk (Change change job) = if call_fits desk.attended.state (call_for change (tables_at desk) job) then change_event change desk job else []
order_events desk _ = []

abbrev pub request_events : StaffedDesk → Handed → List (List ℕ)
request_events desk (Deck cards) = if deck_fits desk cards then deck_event desk cards else []
request_events desk (Command number text) = order_events desk (order_in desk text)
request_events desk (Refusal number) = []

abbrev pub events_told : StaffedDesk → List Handed → List (List ℕ)
events_told desk [] = []
events_told desk (request ∷ requests) = request_events desk request ++ (if fits desk request then events_told (after desk request) requests else [])

-- ---- a request that is broken off behind so many of its replies

-- the events of the calls that gave these replies
abbrev pub order_events_before : StaffedDesk → Order → ℕ → List (List ℕ)
order_events_before desk (Turns turn n) given = turns_events turn given desk.attended
order_events_before desk _ given = []

abbrev pub events_before : StaffedDesk → Handed → ℕ → List (List ℕ)
events_before desk (Command number text) given = order_events_before desk (order_in desk text) given
events_before desk _ given = []

-- the event of the call that was broken off
abbrev pub order_event_at : StaffedDesk → Order → ℕ → List (List ℕ)
order_event_at desk (Turns turn n) given = turn_event turn given desk.attended
order_event_at desk (Change change job) given = change_event change desk job
order_event_at desk _ given = []

abbrev pub event_at : StaffedDesk → Handed → ℕ → List (List ℕ)
event_at desk (Deck cards) given = deck_event desk cards
event_at desk (Command number text) given = order_event_at desk (order_in desk text) given
event_at desk (Refusal number) given = []
