-- The events of a book, one by one.
use Rattle.std.specs.Prelude.{◌≡◌, ◌≤◌, ◌+◌, ◌⊎◌, ℕ, true, false, List, length, Ok, Err}
use Rattle.ckr_book.specs.Next.{NoneAt, LeadsLong, LeadsWith}
use Rattle.ckr_events.specs.declared.event.Event.{Event}
use Rattle.ckr_events.specs.Event.{IsEvent, IsNoEvent, spelling, event_of}
use Rattle.ckr_journal.specs.declared.events.Next.{Next}
use Rattle.ckr_journal.specs.declared.events.Next.TheVariants as Nexts
use Rattle.ckr_journal.specs.declared.error.NextEventError.{NextEventError}
use Rattle.ckr_journal.specs.declared.error.NextEventError.TheVariants.{NoMemory, Fault, Bad}

-- an event stands there, and the next gate is behind it
pub record EventAt (event : Event) (rest : List ℕ) : Type 0 where
  pub leads : LeadsWith (spelling event) rest
  pub reads : event_of (spelling event) ≡ Ok event

-- what was read from the gate on
abbrev pub ReadAt : List ℕ → Next → Type 0
ReadAt rest (Nexts.Event event next) = EventAt event rest
ReadAt rest Nexts.End = NoneAt rest false

-- the next gate, counted from the first byte of a book of this size
pub record GoesOnAt (place size : ℕ) (event : Event) (next : ℕ) : Type 0 where
  pub is_event : IsEvent event
  pub next_is : next ≡ place + (length (spelling event) + 5)
  pub within : next ≤ size

abbrev pub GoesOn : ℕ → ℕ → Next → Type 0
GoesOn place size (Nexts.Event event next) = GoesOnAt place size event next
GoesOn place size Nexts.End = Unit {0}

-- what was read has no more bytes than a deck of 100,000 cards
abbrev pub IsShort : Next → Type 0
IsShort (Nexts.Event event next) = length (spelling event) ≤ 8000009
IsShort Nexts.End = Unit {0}

-- a whole record that is no event stands there
pub record NoEventAt (record' rest : List ℕ) : Type 0 where
  pub leads : LeadsWith record' rest
  pub none : IsNoEvent record'
  pub refused : (offset : ℕ) × (event_of record' ≡ Err offset)

-- the gate is open, and behind it stands no whole record, one that is no event, or one with more bytes than a deck of 100,000 cards
abbrev pub IsBadAt : List ℕ → Type 0
IsBadAt rest = NoneAt rest true ⊎ (((record' : List ℕ) × NoEventAt record' rest) ⊎ LeadsLong 8000009 rest)

-- why no event was read
abbrev pub NextEventCause : Type 0 → Type 0 → List ℕ → NextEventError → Type 0
NextEventCause rose told rest NoMemory = Unit {0}
NextEventCause rose told rest Fault = rose
NextEventCause rose told rest Bad = told → IsBadAt rest
