-- Which images of a stop are sound.
use Rattle.std.proofs.Common.{◌≡◌, ◌++◌, ◌-◌, ℕ, List, [], ◌∷◌, Bool, cond, length, take, refl, ap, sym, ◌∙◌, subst, append-nil, Option, Some, None, Result, Ok, Err}
use Rattle.ckr_book.specs.Book.{ends_closed}
use Rattle.ckr_book.specs.Records.{end_from}
use Rattle.ckr_events.specs.declared.event.Event.{Event}
use Rattle.ckr_events.specs.declared.event.Event.TheVariants.{Submitted}
use Rattle.ckr_events.specs.Event.{spelling}
use Rattle.ckr_desk_refines.specs.Memory.Replay.{deck_of}
use Rattle.ckr_desk_refines.proofs.Memory.Replays.{replayed-some}
use Rattle.ckr_desk_refines.specs.Commits.{HasCommitted}
use Rattle.ckr_desk_refines.specs.Entries.{HasEntries}
use Rattle.ckr_desk_refines.specs.Moves.{HasSameRecords}
use Rattle.ckr_desk_refines.proofs.Events.Commits.{committed-moves}
use Rattle.ckr_outside.specs.Disk.{part}
use Rattle.ckr_outside.specs.Moments.{started}
use Rattle.ckr_points.specs.Events.{AreSound}
use Rattle.ckr_points.specs.Office.{Office, office_with}
use Rattle.ckr_points.specs.Restart.{after_event}
use Rattle.ckr_points.specs.Rows.{TablesModel, no_tables}
use Rattle.ckr_desk_refines.specs.RewriteRecord.{HasCommittedAgain, HasLast, last_event}
use Rattle.ckr_desk_store.specs.OpenImages.{Opens, event_records}
use Rattle.ckr_volumes.specs.declared.layout.Layout.{Layout}
use Rattle.ckr_volumes.specs.Header.{header_of}
use Rattle.ckr_desk.proofs.Images.Entries.{none-bad-on, same-has}
use Rattle.ckr_desk.proofs.Images.LastRecord.{again-so}
use Rattle.ckr_desk.proofs.Images.NextEvent.{office-grown, office-same, opens-grown, sound-grown}
use Rattle.ckr_desk.proofs.Openings.Answers.{by_its_book}
use Rattle.ckr_desk.proofs.Trust.Events.{IsComing, last-grown}
use Rattle.ckr_desk.specs.declared.error.OpenError.{OpenError}
use Rattle.ckr_desk.specs.declared.error.OpenError.TheVariants.{BadBook}
use Rattle.ckr_desk.specs.Entries.{bad_entry}
use Rattle.ckr_desk.specs.Opening.{behind_records, by_end, by_entries, opened_at, refused_or}
use Rattle.ckr_desk.specs.Soundness.{HasKept, IsTrusted, KeepsWithin, Sound, events_in, last_on, office_on}
use Rattle.ckr_desk.specs.State.{Opened, DeskView}
use Rattle.ckr_desk.specs.Rewrite.{OpensSame}

abbrev gate_or : ℕ → Opened → Bool → Result Opened OpenError
gate_or end opened is_open = cond is_open (Err (BadBook end)) (Ok opened)

-- an image that opens to an office, and has what that has committed and the entries that its tables keep
pub sound-at : (layout : Layout) (size : ℕ) (image : List ℕ) (office : Office) → header_of (take 512 image) size ≡ Ok layout → ends_closed (part 512 layout.book image)
    → office_on layout image ≡ office → behind_records layout no_tables 0 (event_records layout image) ≡ Ok office.tables
    → AreSound layout (events_in (event_records layout image)) → HasCommittedAgain layout office (last_on layout image) image → HasLast office (last_on layout image) → HasEntries layout office image → Sound size image
sound-at layout size image office head closed is brings events committed last entries =
    let bytes = part 512 layout.book image in
    let end = end_from 0 bytes in
    let its = opened_at layout office.tables (layout.book - end) in
    record {
      layout = layout;
      room = layout.book - end;
      opens = by_its_book image size layout head ∙ ap (by_entries image) (ap (by_end layout bytes) brings ∙ ap (gate_or end its) closed)
          ∙ ap (refused_or its) (subst (λ (o : Office). bad_entry layout o.tables image ≡ None) is
          (none-bad-on layout image office.tables events brings (subst (λ (o : Office). HasEntries layout o image) (sym is) entries)))
          ∙ ap (λ (o : Office). Ok (opened_at layout o.tables (layout.book - end))) (sym is);
      events = events;
      committed = subst (λ o. HasCommittedAgain layout o (last_on layout image) image) (sym is) committed;
      last = subst (λ o. HasLast o (last_on layout image)) (sym is) last;
      entries = subst (λ (o : Office). HasEntries layout o image) (sym is) entries;
    }

with-tables : (event : Event) (office : Office) (tables : TablesModel) → (let r : Result TablesModel ℕ = Ok (office_with office event tables).tables in r) ≡ Ok tables
with-tables (Submitted job cards) office tables = refl
with-tables _ office tables = refl

module _ {D : Type 0} (told : Type 0) (content : D → List ℕ) (may_leave : D → List ℕ → Type 0) (size : D → ℕ) (old : DeskView D) (trusted : IsTrusted told content may_leave old) where
  abbrev layout : Layout
  layout = old.store.layout

  abbrev before : List (List ℕ)
  before = event_records old.store.layout (content old.store.disk)

  abbrev office_now : Office
  office_now = office_on old.store.layout (content old.store.disk)

  abbrev last_now : Option Event
  last_now = last_on old.store.layout (content old.store.disk)

  last-same : (image : List ℕ) → event_records layout image ≡ before → last_on layout image ≡ last_now
  unfolding last_on
  last-same image same = ap (λ records. last_event (events_in records)) same

  -- an image with the same events
  pub kept-before : (came : List (List ℕ)) (image : List ℕ) → OpensSame content size old image → HasCommittedAgain layout office_now last_now image → HasEntries layout office_now image
      → HasKept layout (size old.store.disk) before came image
  kept-before came image opens committed entries = record {
    sound = sound-at layout (size old.store.disk) image office_now opens.head opens.closed (office-same layout (content old.store.disk) image opens.list)
        (ap (λ records. behind_records layout no_tables 0 records) opens.list ∙ trusted.opens ∙ ap Ok trusted.stands.tables)
        (subst (λ records. AreSound layout (events_in records)) (sym opens.list) trusted.events)
        (subst (λ l. HasCommittedAgain layout office_now l image) (sym (last-same image opens.list)) committed)
        (subst (HasLast office_now) (sym (last-same image opens.list)) trusted.last) entries;
    front = [];
    more = came;
    split = refl;
    events = opens.list ∙ sym (append-nil before);
  }

  -- one that has all that is committed
  pub kept-whole : (came : List (List ℕ)) (image : List ℕ) → OpensSame content size old image → HasCommitted layout office_now image → HasEntries layout office_now image
      → HasKept layout (size old.store.disk) before came image
  kept-whole came image opens committed entries = kept-before came image opens (again-so layout office_now last_now image trusted.last committed) entries

  -- one that the disk might have left before
  pub kept-left : (came : List (List ℕ)) (image : List ℕ) → OpensSame content size old image → may_leave old.store.disk image → HasKept layout (size old.store.disk) before came image
  kept-left came image opens may = kept-before came image opens (trusted.committed image may) (trusted.entries_left image may)

  -- nothing is done
  pub kept-still : (moment : D → ℕ) (left_since : D → ℕ → List ℕ → Type 0) → ((image : List ℕ) → left_since old.store.disk (moment old.store.disk) image → may_leave old.store.disk image)
      → ((image : List ℕ) → left_since old.store.disk (moment old.store.disk) image → length image ≡ size old.store.disk) → KeepsWithin content moment left_since size old old []
  kept-still moment left_since only long =
      started moment left_since old.store.disk (HasKept layout (size old.store.disk) before [])
      (λ image left.
      kept-left [] image (subst (λ n. Opens layout n (λ records. records ≡ before) image) (long image left) (trusted.opens_left image (only image left))) (only image left))

  -- one with the same records too
  pub kept-same : (came : List (List ℕ)) (image : List ℕ) → OpensSame content size old image → HasSameRecords layout (content old.store.disk) image → HasKept layout (size old.store.disk) before came image
  kept-same came image opens same =
      kept-whole came image opens (committed-moves layout office_now (content old.store.disk) image trusted.stands.is_desk.kept same trusted.stands.committed)
      (same-has told content may_leave old trusted (content old.store.disk) image trusted.entries same)

  module _ (event : Event) (desk : _) (coming : IsComing told content may_leave event old desk) where
    -- an image with the event
    pub kept-behind : (image : List ℕ) → Opens layout (size old.store.disk) (λ records. records ≡ before ++ spelling event ∷ []) image → HasCommittedAgain layout desk.office (Some event) image
        → HasEntries layout desk.office image → HasKept layout (size old.store.disk) before (spelling event ∷ []) image
    kept-behind image opens committed entries =
        let last : last_on layout image ≡ Some event = last-grown layout (content old.store.disk) image event coming.is_event opens.list in
        record {
          sound = sound-at layout (size old.store.disk) image desk.office opens.head opens.closed
              (office-grown layout (content old.store.disk) image event coming.is_event opens.list ∙ sym coming.office)
              (ap (λ records. behind_records layout no_tables 0 records) opens.list
              ∙ opens-grown layout before old.jobs.tables.desk (after_event event (deck_of event) old.jobs.tables.desk) event trusted.opens coming.is_event
              (replayed-some layout old.jobs.tables.desk event coming.goes)
              ∙ ap (λ t. Ok (after_event event (deck_of event) t)) trusted.stands.tables ∙ sym (with-tables event office_now (after_event event (deck_of event) office_now.tables)) ∙ ap (λ (o : Office). Ok o.tables) (sym coming.office))
              (subst (λ records. AreSound layout (events_in records)) (sym opens.list)
              (sound-grown layout (content old.store.disk) event coming.is_event trusted.events coming.next))
              (subst (λ l. HasCommittedAgain layout desk.office l image) (sym last) committed)
              (subst (HasLast desk.office) (sym last) coming.last) entries;
          front = spelling event ∷ [];
          more = [];
          split = refl;
          events = opens.list;
        }
