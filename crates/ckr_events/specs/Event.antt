-- Which events have a spelling, their one spelling, and which event is read from bytes.
use Rattle.std.specs.Prelude.{◌≡◌, ◌<◌, ◌+◌, ◌*◌, ◌-◌, ◌/◌, ◌^◌, ◌==◌, ℕ, List, ◌∷◌, length, Result, Ok, Err, min, if◌then◌else◌}
use Rattle.ckr_fields.specs.Readers.{Reading, ◌>>=◌, at_offset}
use Rattle.ckr_fields.specs.Fields.{byte_at, seen_at}
use Rattle.ckr_events.specs.Format.{job, submitted, selected, denied, started, rewritten, checkpointed, step_ended, restarted, held, ended}
use Rattle.ckr_fields.specs.declared.error.ReadError.{ReadError}
use Rattle.ckr_fields.specs.declared.error.ReadError.TheVariants as ReadErrors
use Rattle.ckr_events.specs.declared.error.EventError.{EventError}
use Rattle.ckr_events.specs.declared.error.EventError.TheVariants.{NoMemory, Bad}
use Rattle.ckr_events.specs.declared.event.Event.{Event}
use Rattle.ckr_events.specs.declared.event.Event.TheVariants.{Submitted, Selected, Denied, Started, Rewritten, Checkpointed, Cancelled, StepEnded, Restarted, Held, Released, Ended, Purged}

-- the event's counts and numbers are such that it has a spelling
abbrev pub IsEvent : Event → Type 0
IsEvent (Submitted j cards) = submitted.fits (j, cards)
IsEvent (Selected j initiator earlier step id) = selected.fits (j, (initiator, (earlier, (step, id))))
IsEvent (Denied j rule name) = denied.fits (j, (rule, name))
IsEvent (Started j step made) = started.fits (j, (step, made))
IsEvent (Rewritten j taken writes lengths place image) = rewritten.fits (j, (taken, (writes, (lengths, (place, image)))))
IsEvent (Checkpointed j id taken writes lengths place bytes) = checkpointed.fits (j, (id, (taken, (writes, (lengths, (place, bytes))))))
IsEvent (Cancelled j) = job.fits j
IsEvent (StepEnded j step rc writes lengths) = step_ended.fits (j, (step, (rc, (writes, lengths))))
IsEvent (Restarted j initiator code checkpoint) = restarted.fits (j, (initiator, (code, checkpoint)))
IsEvent (Held j code writes lengths) = held.fits (j, (code, (writes, lengths)))
IsEvent (Released j) = job.fits j
IsEvent (Ended j ending) = ended.fits (j, ending)
IsEvent (Purged j) = job.fits j

-- the kind and its fields
abbrev pub spelling : Event → List ℕ
spelling (Submitted j cards) = 1 ∷ submitted.spell (j, cards)
spelling (Selected j initiator earlier step id) = 2 ∷ selected.spell (j, (initiator, (earlier, (step, id))))
spelling (Denied j rule name) = 3 ∷ denied.spell (j, (rule, name))
spelling (Started j step made) = 4 ∷ started.spell (j, (step, made))
spelling (Rewritten j taken writes lengths place image) = 5 ∷ rewritten.spell (j, (taken, (writes, (lengths, (place, image)))))
spelling (Checkpointed j id taken writes lengths place bytes) = 6 ∷ checkpointed.spell (j, (id, (taken, (writes, (lengths, (place, bytes))))))
spelling (Cancelled j) = 7 ∷ job.spell j
spelling (StepEnded j step rc writes lengths) = 8 ∷ step_ended.spell (j, (step, (rc, (writes, lengths))))
spelling (Restarted j initiator code checkpoint) = 9 ∷ restarted.spell (j, (initiator, (code, checkpoint)))
spelling (Held j code writes lengths) = 10 ∷ held.spell (j, (code, (writes, lengths)))
spelling (Released j) = 11 ∷ job.spell j
spelling (Ended j ending) = 12 ∷ ended.spell (j, ending)
spelling (Purged j) = 13 ∷ job.spell j

-- the event isn't Submitted
abbrev pub IsSmall : Event → Type 0
IsSmall (Submitted j cards) = ⊥
IsSmall _ = Unit {0}

-- a Submitted event has a number of cards that four bytes hold
abbrev pub IsCounted : Event → Type 0
IsCounted (Submitted j cards) = length cards / 80 < 2 ^ 32
IsCounted _ = Unit {0}

-- how many bytes an event has at most: a Submitted one has its cards of 80 bytes behind nine others, and the longest of the rest tells 80 data sets of five extents
abbrev pub most_bytes : Event → ℕ
most_bytes (Submitted j cards) = 9 + 80 * (length cards / 80)
most_bytes _ = 3447

-- ---- reading the fields of each kind

unfoldable pub submitted_at : List ℕ → Reading Event
submitted_at = seen_at (λ x. Submitted x.0 x.1) submitted.read

unfoldable pub selected_at : List ℕ → Reading Event
selected_at = seen_at (λ x. Selected x.0 x.1.0 x.1.1.0 x.1.1.1.0 x.1.1.1.1) selected.read

unfoldable pub denied_at : List ℕ → Reading Event
denied_at = seen_at (λ x. Denied x.0 x.1.0 x.1.1) denied.read

unfoldable pub started_at : List ℕ → Reading Event
started_at = seen_at (λ x. Started x.0 x.1.0 x.1.1) started.read

unfoldable pub rewritten_at : List ℕ → Reading Event
rewritten_at = seen_at (λ x. Rewritten x.0 x.1.0 x.1.1.0 x.1.1.1.0 x.1.1.1.1.0 x.1.1.1.1.1) rewritten.read

unfoldable pub checkpointed_at : List ℕ → Reading Event
checkpointed_at = seen_at (λ x. Checkpointed x.0 x.1.0 x.1.1.0 x.1.1.1.0 x.1.1.1.1.0 x.1.1.1.1.1.0 x.1.1.1.1.1.1) checkpointed.read

unfoldable pub cancelled_at : List ℕ → Reading Event
cancelled_at = seen_at (λ x. Cancelled x) job.read

unfoldable pub step_ended_at : List ℕ → Reading Event
step_ended_at = seen_at (λ x. StepEnded x.0 x.1.0 x.1.1.0 x.1.1.1.0 x.1.1.1.1) step_ended.read

unfoldable pub restarted_at : List ℕ → Reading Event
restarted_at = seen_at (λ x. Restarted x.0 x.1.0 x.1.1.0 x.1.1.1) restarted.read

unfoldable pub held_at : List ℕ → Reading Event
held_at = seen_at (λ x. Held x.0 x.1.0 x.1.1.0 x.1.1.1) held.read

unfoldable pub released_at : List ℕ → Reading Event
released_at = seen_at (λ x. Released x) job.read

unfoldable pub ended_at : List ℕ → Reading Event
ended_at = seen_at (λ x. Ended x.0 x.1) ended.read

unfoldable pub purged_at : List ℕ → Reading Event
purged_at = seen_at (λ x. Purged x) job.read

-- the fields of an event of this kind, whose own byte is wrong where there is no such kind
unfoldable pub fields_at : ℕ → ℕ → List ℕ → Reading Event
fields_at kind left bytes =
    if kind == 1 then submitted_at bytes
    else if kind == 2 then selected_at bytes
    else if kind == 3 then denied_at bytes
    else if kind == 4 then started_at bytes
    else if kind == 5 then rewritten_at bytes
    else if kind == 6 then checkpointed_at bytes
    else if kind == 7 then cancelled_at bytes
    else if kind == 8 then step_ended_at bytes
    else if kind == 9 then restarted_at bytes
    else if kind == 10 then held_at bytes
    else if kind == 11 then released_at bytes
    else if kind == 12 then ended_at bytes
    else if kind == 13 then purged_at bytes
    else Err left

-- an event and nothing behind it
unfoldable pub whole_at : List ℕ → Result Event ℕ
whole_at bytes =
    byte_at bytes >>= λ kind. fields_at kind.0 (length bytes) kind.1 >>= λ x. if length x.1 == 0 then Ok x.0 else Err (length x.1)

-- The event that the bytes are. Else it is the offset of the first byte of the first field that isn't in its grammar,
-- the number of bytes where some are missing, or the offset behind the last field where bytes remain.
abbrev pub event_of : List ℕ → Result Event ℕ
event_of bytes = at_offset (length bytes) (whole_at bytes)

-- ---- what the decoder answers

-- a place as an offset, or the greatest offset where it is greater
abbrev pub told_offset : ℕ → ℕ
told_offset place = min place (2 ^ 32 - 1)

-- what was returned is what is read, unless memory ran out
abbrev pub Whole : Result Event ℕ → Result Event ReadError → Type 0
Whole reading (Ok event) = reading ≡ Ok event
Whole reading (Err ReadErrors.NoMemory) = Unit {0}
Whole reading (Err (ReadErrors.Wrong left)) = reading ≡ Err left

abbrev pub Decodes : Result Event ℕ → Result Event EventError → Type 0
Decodes reading (Ok event) = reading ≡ Ok event
Decodes reading (Err NoMemory) = Unit {0}
Decodes reading (Err (Bad offset)) = (place : ℕ) × (reading ≡ Err place) × (offset ≡ told_offset place)

-- the bytes are the spelling of no event
abbrev pub IsNoEvent : List ℕ → Type 0
IsNoEvent bytes = (event : Event) → IsEvent event → bytes ≡ spelling event → ⊥

abbrev pub IsBadOnly : List ℕ → Result Event EventError → Type 0
IsBadOnly bytes (Ok event) = Unit {0}
IsBadOnly bytes (Err NoMemory) = Unit {0}
IsBadOnly bytes (Err (Bad offset)) = IsNoEvent bytes
