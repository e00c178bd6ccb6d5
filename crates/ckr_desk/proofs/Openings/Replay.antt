-- One event more of a book, and its end.
use Rattle.std.proofs.Common.{◌≡◌, ◌≤◌, ◌+◌, ◌-◌, ℕ, true, false, List, [], ◌∷◌, length, drop, Option, Some, None, Result, Ok, Err, Bool, unwrap_or, refl, ap, sym, ◌∙◌, subst, ⊎_elim, arith, cond}
use Rattle.std.specs.Option.{is_some}
use Rattle.std.proofs.lemmas.List.{drop-drop}
use Rattle.std.proofs.lemmas.Bool.{false≢true}
use Rattle.ckr_book.specs.Records.{records_from, end_from, starts_open}
use Rattle.ckr_book.specs.Next.{NoneAt, LeadsLong, LeadsWith}
use Rattle.ckr_events.specs.declared.event.Event.{Event}
use Rattle.ckr_events.specs.Event.{spelling, event_of}
use Rattle.ckr_desk_refines.proofs.Memory.RunNumbers.{numbered-behind}
use Rattle.ckr_desk_refines.proofs.Memory.Replays.{goes-on-with}
use Rattle.ckr_desk_refines.specs.Memory.Replay.{deck_of, goes_on, replayed}
use Rattle.ckr_desk_turn.specs.Queue.{AreNumbered}
use Rattle.ckr_journal.specs.declared.events.Next.{Next}
use Rattle.ckr_journal.specs.declared.events.Next.TheVariants as Nexts
use Rattle.ckr_journal.specs.Events.{EventAt, IsBadAt, NoEventAt, GoesOnAt, ReadAt}
use Rattle.ckr_journal.proofs.FreshDisks.{ends_behind}
use Rattle.ckr_points.specs.Restart.{Decked, after_event}
use Rattle.ckr_points.specs.Rows.{TablesModel, no_tables}
use Rattle.ckr_desk_refines.specs.RewriteRecord.{last_event}
use Rattle.ckr_volumes.specs.declared.layout.Layout.{Layout}
use Rattle.ckr_volumes.specs.Header.{IsHeader}
use Rattle.ckr_volumes.specs.Layouts.{front_of}
use Rattle.ckr_desk.proofs.Openings.LongRecords.{long_behind}
use Rattle.ckr_desk.specs.declared.error.OpenError.{OpenError}
use Rattle.ckr_desk.specs.declared.error.OpenError.TheVariants.{BadBook}
use Rattle.ckr_desk.specs.declared.error.OpenError.TheVariants as OpenErrors
use Rattle.ckr_desk.specs.Opening.{behind_read, behind_record, or_bad, behind_records, by_end, by_book, opened_at}
use Rattle.ckr_desk.specs.Replay.{IsReplayed, IsReplayedTo, GoneOn, EventCause, ReplayCause, last_from}
use Rattle.ckr_desk.specs.State.{Opened}

pub at_first : (layout : Layout) (book : List ℕ) (tables : TablesModel) → tables ≡ no_tables → IsReplayed layout book tables 0
at_first layout book tables none = subst (λ (t : TablesModel). IsReplayed layout book t 0) (sym none) (record { end = omega arith; same = refl })

-- the last of events
pub last-first : (events : List Decked) → last_event events ≡ last_from None events
last-first [] = refl
last-first (decked ∷ []) = refl
last-first (decked ∷ next ∷ rest) = last-first (next ∷ rest)

-- the tables by a record that is the spelling of an event
by_event : (layout : Layout) (tables : TablesModel) (event : Event) → event_of (spelling event) ≡ Ok event → behind_record layout tables (spelling event) ≡ replayed layout tables event
unfolding behind_record
by_event layout tables event reads = ap (λ (r : Result Event ℕ). behind_read layout tables r) reads

-- what is given from a place on where a record stands there
from_record : (layout : Layout) (tables : TablesModel) (place : ℕ) (bytes rest : List ℕ) (behind : Option TablesModel) → LeadsWith bytes rest → behind_record layout tables bytes ≡ behind
    → behind_records layout tables place (records_from 0 rest)
    ≡ or_bad place behind (λ went. behind_records layout went (place + (length bytes + 5)) (records_from 0 (drop (length bytes + 5) rest)))
from_record layout tables place bytes rest behind leads is =
    ap (behind_records layout tables place) leads.records
    ∙ ap (λ (o : Option TablesModel). or_bad place o (λ went. behind_records layout went (place + (length bytes + 5)) (records_from 0 (drop (length bytes + 5) rest)))) is

pub one_more : (layout : Layout) (book : List ℕ) (tables : TablesModel) (place next : ℕ) (event : Event) (behind : Option TablesModel)
    → IsReplayed layout book tables place → EventAt event (drop place book) → next ≡ place + (length (spelling event) + 5)
    → replayed layout tables event ≡ behind → is_some behind ≡ true → IsReplayed layout book (unwrap_or behind tables) next
one_more layout book tables place next event None earlier at is comes some = absurd (false≢true some)
one_more layout book tables place next event (Some went) earlier at is comes some =
    let later : drop next book ≡ drop (length (spelling event) + 5) (drop place book) =
    ap (λ (k : ℕ). drop k book) is ∙ sym (drop-drop (length (spelling event) + 5) place book) in
    record {
      end = omega (arith, earlier.end, at.leads.end, ap (λ (l : List ℕ). end_from 0 l) later, is);
      same = earlier.same
          ∙ from_record layout tables place (spelling event) (drop place book) (Some went) at.leads (by_event layout tables event at.reads ∙ comes)
          ∙ ap (λ (l : List ℕ). behind_records layout went (place + (length (spelling event) + 5)) (records_from 0 l)) (sym later)
          ∙ ap (λ (k : ℕ). behind_records layout went k (records_from 0 (drop next book))) (sym is);
    }

-- the runs stay numbered
pub numbered-replayed : (layout : Layout) (tables : TablesModel) (event : Event) → AreNumbered 1 tables.runs → AreNumbered 1 (unwrap_or (replayed layout tables event) tables).runs
unfolding replayed
numbered-replayed layout tables event numbered =
    by (goes_on layout tables event (deck_of event))
    (λ goes.
    let its = goes-on-with layout tables event (deck_of event) goes in
    numbered-behind layout tables event (deck_of event) its.follow numbered)
  where
    after : TablesModel
    after = after_event event (deck_of event) tables

    by : (b : Bool) → (b ≡ true → AreNumbered 1 after.runs) → AreNumbered 1 (unwrap_or (cond b (Some after) None) tables).runs
    by true goes = goes refl
    by false goes = numbered

-- an event that doesn't follow
not_behind : (behind : Option TablesModel) (follows : Bool) → follows ≡ is_some behind → follows ≡ false → behind ≡ None
not_behind None follows is not = refl
not_behind (Some went) follows is not = absurd (false≢true (sym not ∙ is))

pub not_followed : (layout : Layout) (book : List ℕ) (tables : TablesModel) (place : ℕ) (event : Event)
    → IsReplayed layout book tables place → EventAt event (drop place book) → (follows : Bool) → follows ≡ is_some (replayed layout tables event) → follows ≡ false
    → by_book layout book ≡ Err (BadBook place)
not_followed layout book tables place event earlier at follows is not =
    ap (by_end layout book)
    (earlier.same ∙ from_record layout tables place (spelling event) (drop place book) None at.leads (by_event layout tables event at.reads ∙ not_behind (replayed layout tables event) follows is not))

-- an event that follows
pub gone_on : (told : Type 0) (layout : Layout) (book : List ℕ) (tables behind : TablesModel) (place next : ℕ) (event : Event) → GoesOnAt place layout.book event next
    → (told → EventAt event (drop place book)) → (follows : Bool) → follows ≡ is_some (replayed layout tables event) → follows ≡ true
    → behind ≡ unwrap_or (replayed layout tables event) tables → GoneOn told layout book tables place behind next true
gone_on told layout book tables behind place next event goes at follows is yes_follows moved = (
  omega (arith, goes.next_is),
  goes.within,
  λ is_told earlier. subst (λ (r : TablesModel). IsReplayed layout book r next) (sym moved)
      (one_more layout book tables place next event (replayed layout tables event) earlier (at is_told) goes.next_is refl (sym is ∙ yes_follows)),
)

pub event_read : (rest : List ℕ) (found : Next) (event : Event) (next : ℕ) → found ≡ Nexts.Event event next → ReadAt rest found → EventAt event rest
event_read rest found event next is read = subst (ReadAt rest) is read

-- a gate that is open before no whole record, before one that is no event, or before one that is too long
no_event : (layout : Layout) (tables : TablesModel) (bytes : List ℕ) (offset : ℕ) → event_of bytes ≡ Err offset → behind_record layout tables bytes ≡ None
unfolding behind_record
no_event layout tables bytes offset refused = ap (λ (r : Result Event ℕ). behind_read layout tables r) refused

pub bad_there : (layout : Layout) (book : List ℕ) (tables : TablesModel) (place : ℕ) → IsReplayed layout book tables place → IsBadAt (drop place book) → by_book layout book ≡ Err (BadBook place)
bad_there layout book tables place earlier bad = ⊎_elim at_gate (⊎_elim at_record at_long) bad
  where
    at_long : LeadsLong 8000009 (drop place book) → by_book layout book ≡ Err (BadBook place)
    at_long wrong = ap (by_end layout book) (earlier.same ∙ from_record layout tables place wrong.bytes (drop place book) None wrong.leads (long_behind layout tables wrong.bytes wrong.long))

    at_record : (record' : List ℕ) × NoEventAt record' (drop place book) → by_book layout book ≡ Err (BadBook place)
    at_record wrong = ap (by_end layout book) (earlier.same ∙ from_record layout tables place wrong.0 (drop place book) None wrong.1.leads (no_event layout tables wrong.0 wrong.1.refused.0 wrong.1.refused.1))

    at_gate : NoneAt (drop place book) true → by_book layout book ≡ Err (BadBook place)
    at_gate none =
        let end : end_from 0 book ≡ place = omega (arith, earlier.end, none.end) in
        ap (by_end layout book) (earlier.same ∙ ap (behind_records layout tables place) none.records)
        ∙ ap (λ (k : ℕ). cond {A = Result Opened OpenError} (starts_open (drop k book)) (Err (BadBook k)) (Ok (opened_at layout tables (layout.book - k)))) end
        ∙ ap (λ b. cond {A = Result Opened OpenError} b (Err (BadBook place)) (Ok (opened_at layout tables (layout.book - place)))) none.gate

-- the book's end
pub at_end : (layout : Layout) (book : List ℕ) (tables : TablesModel) (place : ℕ) → IsReplayed layout book tables place → NoneAt (drop place book) false → IsReplayedTo layout book tables place
at_end layout book tables place earlier none =
    let end : end_from 0 book ≡ place = omega (arith, earlier.end, none.end) in
    record {
      opens = ap (by_end layout book) (earlier.same ∙ ap (behind_records layout tables place) none.records)
          ∙ ap (λ (k : ℕ). cond {A = Result Opened OpenError} (starts_open (drop k book)) (Err (BadBook k)) (Ok (opened_at layout tables (layout.book - k)))) end
          ∙ ap (λ b. cond {A = Result Opened OpenError} b (Err (BadBook place)) (Ok (opened_at layout tables (layout.book - place)))) none.gate;
      is_end = end;
      closed = none.gate;
    }

-- ---- the disk's size

pub book_inside : (layout : Layout) (size : ℕ) → IsHeader layout size → 512 + layout.book ≤ size
book_inside layout size header = omega (arith, header.fits, ends_behind (front_of layout) layout.volumes.items)

-- ---- why an event wasn't read

abbrev bad_book : ℕ → Result Opened OpenError
bad_book place = Err (BadBook place)

pub replay_cause : (rose told : Type 0) (layout : Layout) (book : List ℕ) (tables : TablesModel) (place : ℕ) (error : OpenError)
    → EventCause rose told (drop place book) place error → ReplayCause rose (told × IsReplayed layout book tables place) layout book error
replay_cause rose told layout book tables place OpenErrors.NoMemory cause = tt
replay_cause rose told layout book tables place OpenErrors.Fault cause = cause
replay_cause rose told layout book tables place OpenErrors.NotFormatted cause = absurd cause
replay_cause rose told layout book tables place (OpenErrors.Version version) cause = absurd cause
replay_cause rose told layout book tables place (OpenErrors.BadHeader offset) cause = absurd cause
replay_cause rose told layout book tables place (OpenErrors.BadEntry job offset) cause = absurd cause
replay_cause rose told layout book tables place (OpenErrors.BadBook offset) cause =
    λ both. bad_there layout book tables place both.1 (cause.1 both.0) ∙ ap bad_book (sym cause.0)
