-- What serving requests does, and what is left of it where it stops.
use Rattle.std.specs.Prelude.{◌≡◌, ◌⊎◌, ℕ, Bool, true, false, ◌||◌, if◌then◌else◌, List, [], ◌∷◌, ◌++◌, length, Option}
use Rattle.std.specs.List.{flat_map, list_any}
use Rattle.std.specs.Io.KnownBytes.{Appends}
use Rattle.ckr_outside.specs.Faults.{Rose}
use Rattle.ckr_outside.specs.Front.{AppendsFront}
use Rattle.ckr_desk.specs.Attendance.{attended}
use Rattle.ckr_desk.specs.State.{DeskView, disk_of, layout_of}
use Rattle.ckr_desk.specs.Model.OpenImages.{event_records}
use Rattle.ckr_desk.specs.Model.Reply.{Reply}
use Rattle.ckr_cards.specs.Session.{Handed}
use Rattle.ckr_session.specs.declared.clerk.Clerk.{Clerk}
use Rattle.ckr_session.specs.declared.stop.Halt.{Halt}
use Rattle.ckr_session.specs.declared.stop.Halt.TheVariants as Halts
use Rattle.ckr_session.specs.declared.stop.Stop.{Stop}
use Rattle.ckr_session.specs.declared.stop.Stop.TheVariants as Stops
use Rattle.ckr_session.specs.declared.tally.Tally.{Tally}
use Rattle.ckr_session.specs.Calls.{calls, after_all, all_fit, replies_of, is_refusal, broken_off}
use Rattle.ckr_session.specs.Events.{events_told, events_before, event_at}
use Rattle.ckr_session.specs.Lines.{HaltsTold, Telling, TellsSo}
use Rattle.ckr_session.specs.Staff.{AttendedDesk, RosterView, StaffedDesk}
use Rattle.ckr_session.specs.Tallies.{with_answers}
use Rattle.ckr_session.specs.Texts.{answer_text}

-- the desk with its machine room
abbrev pub attended_of : {D : Type 0} → (D → List ℕ) → DeskView D → AttendedDesk
attended_of content desk = attended content desk

-- and with those who take office later
abbrev pub staffed_by : {D : Type 0} → (D → List ℕ) → DeskView D → RosterView → StaffedDesk
staffed_by content desk roster = record { attended = attended_of content desk; roster = roster }

abbrev pub staffed_of : {D O : Type 0} → (D → List ℕ) → Clerk D O → StaffedDesk
staffed_of content clerk = staffed_by content clerk.desk clerk.roster

-- the desk between two calls, whether a line or a deck was refused, what is counted of the replies, and the events on the disk
pub record View : Type 0 where
  pub state : StaffedDesk
  pub refused : Bool
  pub tally : Tally
  pub events : List (List ℕ)

abbrev pub seen : {D O : Type 0} → (D → List ℕ) → Clerk D O → View
seen content clerk = record {
  state = staffed_of content clerk;
  refused = clerk.refused;
  tally = clerk.tally;
  events = event_records (layout_of clerk.desk) (content (disk_of clerk.desk));
}

-- the text of what is answered to requests
abbrev pub text_to : StaffedDesk → List Handed → List ℕ
text_to state requests = flat_map answer_text (calls state requests)

-- from old to new the requests were served, all of them: their events came, and the text grew by what is answered
pub record Serves (old new : View) (requests : List Handed) (before now : List ℕ) : Type 0 where
  pub fits : all_fit old.state requests ≡ true
  pub state : new.state ≡ after_all old.state requests
  pub refused : new.refused ≡ (old.refused || list_any is_refusal (calls old.state requests))
  pub tally : new.tally ≡ with_answers old.tally (calls old.state requests)
  pub events : new.events ≡ old.events ++ events_told old.state requests
  pub text : now ≡ before ++ text_to old.state requests

-- One of the requests was broken off. The text is that of what was answered before: to the requests before it all, and of its own replies
-- the first ones. `came` are the events up to the call that was broken off, and those of the calls before it were kept for sure.
pub record BreaksOff (state : StaffedDesk) (requests : List Handed) (text : List ℕ) (came kept : List (List ℕ)) : Type 0 where
  pub served : List Handed
  pub broken : Handed
  pub more : List Handed
  pub split : requests ≡ served ++ broken ∷ more
  pub fits : all_fit state served ≡ true
  pub replies : List Reply
  pub later : List Reply
  pub given : replies_of (after_all state served) broken ≡ replies ++ later
  pub told : text ≡ text_to state served ++ answer_text (broken_off (after_all state served) broken replies)
  pub came_is : came ≡ (events_told state served ++ events_before (after_all state served) broken (length replies)) ++ event_at (after_all state served) broken (length replies)
  pub kept_is : kept ≡ events_told state served ++ events_before (after_all state served) broken (length replies)

-- the events came up to some call, and all of these were kept
pub record ComesTo (events came kept : List (List ℕ)) : Type 0 where
  pub more : List (List ℕ)
  pub front : events ≡ came ++ more
  pub kept_is : kept ≡ came

-- Serving requests stopped, and this is what the text grew by; it isn't told where memory ran out. These events came, and these were kept for
-- sure: all, but where the disk failed.
abbrev pub HaltsSo : Halt → StaffedDesk → List Handed → List ℕ → List ℕ → List (List ℕ) → List (List ℕ) → Type 0
HaltsSo Halts.Memory state requests before now came kept = ComesTo (events_told state requests) came kept
HaltsSo Halts.Book state requests before now came kept =
    (all_fit state requests ≡ false) × (now ≡ before ++ text_to state requests) × (came ≡ events_told state requests) × (kept ≡ came)
HaltsSo Halts.Disk state requests before now came kept = (text : List ℕ) × (now ≡ before ++ text) × BreaksOff state requests text came kept

-- only a disk whose faults rose is told to have failed
abbrev pub HaltCause : Type 0 → Halt → ℕ → ℕ → Type 0
HaltCause trusted Halts.Memory before now = Unit {0}
HaltCause trusted Halts.Book before now = Unit {0}
HaltCause trusted Halts.Disk before now = Rose before now

-- nothing is told of a data set whose records weren't listed
abbrev pub ListHalt : Halt → List ℕ → List ℕ → List (List ℕ) → List (List ℕ) → Type 0
ListHalt Halts.Memory before now came kept = (came ≡ []) × (kept ≡ [])
ListHalt Halts.Book before now came kept = ⊥
ListHalt Halts.Disk before now came kept = (now ≡ before) × (came ≡ []) × (kept ≡ [])

-- nor of a job that wasn't changed: whether the book has room for the event
abbrev pub ChangeHalt : Halt → Bool → List (List ℕ) → List ℕ → List ℕ → List (List ℕ) → List (List ℕ) → Type 0
ChangeHalt Halts.Memory fits event before now came kept = ComesTo (if fits then event else []) came kept
ChangeHalt Halts.Book fits event before now came kept = (fits ≡ false) × (now ≡ before) × (came ≡ []) × (kept ≡ [])
ChangeHalt Halts.Disk fits event before now came kept = (now ≡ before) × (came ≡ event) × (kept ≡ [])

-- ---- the same where lines go out meanwhile

-- from old to new the requests were served, and this was told, with what waited before
abbrev pub ServesTelling : View → View → List Handed → Telling → Telling → Type 0
ServesTelling old new requests from to = TellsSo (Serves old new requests from.waits) from to

-- serving requests stopped, and this was told by then
abbrev pub HaltsTelling : Halt → StaffedDesk → List Handed → Telling → Telling → List (List ℕ) → List (List ℕ) → Type 0
HaltsTelling halt state requests from to came kept =
    HaltsTold halt (HaltsSo halt state requests from.waits) (from.waits ++ text_to state requests) from to came kept

-- ---- what is written then

-- the whole text is written, or the sink failed and a front of it is
abbrev pub WritesSo : ℕ → ℕ → Option (List ℕ) → Option (List ℕ) → List ℕ → Type 0
WritesSo before now old new text = Appends old new text ⊎ (Rose before now × AppendsFront old new text)

-- the first requests were served, and a front of their text is written
pub record ServesFront (state : StaffedDesk) (requests : List Handed) (old new : Option (List ℕ)) (came kept : List (List ℕ)) : Type 0 where
  pub served : List Handed
  pub more : List Handed
  pub split : requests ≡ served ++ more
  pub fits : all_fit state served ≡ true
  pub written : AppendsFront old new (text_to state served)
  pub came_is : came ≡ events_told state served
  pub kept_is : kept ≡ came

-- Serving requests stopped, and this is written of their text; the sink's faults are counted before and now. These events came, and these
-- were kept.
abbrev pub StopsWithin : Stop → ℕ → ℕ → StaffedDesk → List Handed → Option (List ℕ) → Option (List ℕ) → List (List ℕ) → List (List ℕ) → Type 0
StopsWithin Stops.Source before now state requests old new came kept = ⊥
StopsWithin Stops.Limit before now state requests old new came kept = ⊥
StopsWithin Stops.Sink before now state requests old new came kept = ServesFront state requests old new came kept
StopsWithin Stops.Memory before now state requests old new came kept = AppendsFront old new (text_to state requests) × ComesTo (events_told state requests) came kept
StopsWithin Stops.Book before now state requests old new came kept =
    (all_fit state requests ≡ false) × WritesSo before now old new (text_to state requests) × (came ≡ events_told state requests) × (kept ≡ came)
StopsWithin Stops.Disk before now state requests old new came kept = (text : List ℕ) × BreaksOff state requests text came kept × WritesSo before now old new text

-- why serving requests stopped: the faults of the sink and of the disk are counted before and now
abbrev pub Caused : Type 0 → Stop → ℕ → ℕ → ℕ → ℕ → Type 0
Caused trusted Stops.Source sink sink' disk disk' = ⊥
Caused trusted Stops.Limit sink sink' disk disk' = ⊥
Caused trusted Stops.Sink sink sink' disk disk' = Rose sink sink'
Caused trusted Stops.Memory sink sink' disk disk' = Unit {0}
Caused trusted Stops.Book sink sink' disk disk' = Unit {0}
Caused trusted Stops.Disk sink sink' disk disk' = Rose disk disk'

-- why a stream isn't served any further where requests aren't
abbrev pub stop_of : Halt → Stop
stop_of Halts.Memory = Stops.Memory
stop_of Halts.Book = Stops.Book
stop_of Halts.Disk = Stops.Disk

-- what was answered before the serving stopped is written, as far as the sink takes it; where memory ran out, a front of the whole is
abbrev pub RestWritten : Halt → ℕ → ℕ → Option (List ℕ) → Option (List ℕ) → List ℕ → List ℕ → Type 0
RestWritten Halts.Memory before now old new whole text = AppendsFront old new whole
RestWritten Halts.Book before now old new whole text = WritesSo before now old new text
RestWritten Halts.Disk before now old new whole text = WritesSo before now old new text
