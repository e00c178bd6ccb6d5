-- A desk that was opened on sound images is trusted, and a stop meanwhile leaves a sound image.
use Rattle.std.proofs.Common.{◌≡◌, ◌-◌, ◌⊎◌, ℕ, Bool, true, false, cond, List, [], length, take, drop, map, Option, Some, None, Result, Ok, Err, ⊎_elim, refl, sym, ap, ◌∙◌, subst, append-nil}
use Rattle.std.proofs.lemmas.Option.{same_Some}
use Rattle.ckr_base.proofs.Bools.{bool-cases}
use Rattle.ckr_base.proofs.Options.{some-not-none}
use Rattle.ckr_book.specs.Book.{IsOpenOn, OpenBook, ends_closed, room_of}
use Rattle.ckr_book.specs.Records.{end_from, starts_open}
use Rattle.ckr_events.specs.declared.event.Event.{Event}
use Rattle.ckr_desk_refines.specs.Memory.EventChanges.{failed_in}
use Rattle.ckr_desk_refines.specs.Memory.View.{RunningStepView}
use Rattle.ckr_desk_turn.proofs.Opening.{opened-is}
use Rattle.ckr_desk_turn.proofs.Runs.Lists.{events-kept, events-run}
use Rattle.ckr_desk_turn.specs.Invariant.{HasRuns}
use Rattle.ckr_desk_turn.specs.DeckEvents.{AreDeckEvents}
use Rattle.ckr_desk_refines.proofs.Entries.There.{has-then}
use Rattle.ckr_desk_refines.specs.Commits.{HasCommitted}
use Rattle.ckr_desk_refines.proofs.Standing.Openings.{opened-stands}
use Rattle.ckr_desk_refines.specs.Entries.{AreRead, HasEntries, OnlyCheckSetsKeep, SameKept}
use Rattle.ckr_desk_refines.specs.InEffect.{AreInEffect}
use Rattle.ckr_outside.specs.Disk.{EachSince, Only, part}
use Rattle.ckr_outside.specs.Moments.{and_then}
use Rattle.ckr_points.specs.Events.{AreSound}
use Rattle.ckr_points.specs.Office.{Office}
use Rattle.ckr_points.specs.Rows.{TablesModel, no_tables}
use Rattle.ckr_points_invariant.specs.Invariant.{IsKept}
use Rattle.ckr_desk_refines.specs.RewriteRecord.{HasCommittedAgain, HasLast, last_event}
use Rattle.ckr_desk_refines.specs.Standing.{StandsForDesk, step_on}
use Rattle.ckr_desk_store.specs.OpenImages.{Opens, event_records}
use Rattle.ckr_desk_store.specs.State.{IsSound, StoreView}
use Rattle.ckr_desk_turn.specs.Desk.{opened as opened_desk}
use Rattle.ckr_desk_turn.specs.declared.failed_run.FailedRun.{FailedRun}
use Rattle.ckr_volumes.specs.declared.header.HeaderError.{HeaderError}
use Rattle.ckr_volumes.specs.declared.header.HeaderError.TheVariants as HeaderErrors
use Rattle.ckr_volumes.specs.declared.layout.Layout.{Layout}
use Rattle.ckr_volumes.specs.Header.{header_of}
use Rattle.ckr_desk.proofs.Images.NextEvent.{office-same}
use Rattle.ckr_desk.proofs.Images.Entries.{are-in-effect, are-within, checks-keep, none-bad-on}
use Rattle.ckr_desk.proofs.Images.LastRecord.{again-only}
use Rattle.ckr_desk.proofs.Images.Soundness.{sound-at}
use Rattle.ckr_desk.proofs.Images.WrittenRecord.{same-again, same-lacking}
use Rattle.ckr_desk.proofs.Openings.LastRecord.{IsDue, again-lacking, committed-already, committed-written, due}
use Rattle.ckr_desk.proofs.Openings.Answers.{by_its_book}
use Rattle.ckr_desk.proofs.Openings.Lengths.{HaveLengths, office-lengths}
use Rattle.ckr_desk.proofs.Openings.Points.{points-read}
use Rattle.ckr_desk.proofs.Openings.DeckRecords.{deck-records}
use Rattle.ckr_desk.specs.Calls.{HasSameJobs}
use Rattle.ckr_desk.specs.FirstSync.{FromSync}
use Rattle.ckr_desk.specs.declared.error.OpenError.{OpenError}
use Rattle.ckr_desk.specs.declared.error.OpenError.TheVariants.{BadBook}
use Rattle.ckr_desk.specs.declared.error.OpenError.TheVariants as OpenErrors
use Rattle.ckr_desk.specs.Entries.{bad_entry}
use Rattle.ckr_desk.specs.Points.{ArePointsRead}
use Rattle.ckr_desk.specs.Opening.{behind_records, by_book, by_end, by_entries, by_header, opened_at, opening_of, refused_or}
use Rattle.ckr_desk.specs.Replay.{IsLackingAgain, IsWrittenAgain, IsWrittenIf, LacksLast, OpenCause, has_record}
use Rattle.ckr_desk.specs.Soundness.{HasKept, IsTrusted, Sound, desk_of_opened, desk_opening, events_in, last_on, office_on, state_of}
use Rattle.ckr_desk.specs.State.{Opened, RoomyDesk, DeskView, opened_of}

ok-same : {T : Type 0} (one other : T) → ◌≡◌ {A = Result T OpenError} (Ok one) (Ok other) → one ≡ other
ok-same one other same = cc

err-not-ok : {T : Type 0} (error : OpenError) (one : T) → ◌≡◌ {A = Result T OpenError} (Err error) (Ok one) → ⊥
err-not-ok error one same = cc

-- ---- what a book gave that was opened

abbrev GivesTables : List ℕ → Opened → Type 0
GivesTables image opened = behind_records opened.layout no_tables 0 (event_records opened.layout image) ≡ Ok opened.tables

gate-behind : (layout : Layout) (image : List ℕ) (tables : TablesModel) (opened : Opened) (end room : ℕ) → behind_records layout no_tables 0 (event_records layout image) ≡ Ok tables
    → (b : Bool) → cond {A = Result Opened OpenError} b (Err (BadBook end)) (Ok (opened_at layout tables room)) ≡ Ok opened → GivesTables image opened
gate-behind layout image tables opened end room brings true is = absurd (err-not-ok (BadBook end) opened is)
gate-behind layout image tables opened end room brings false is = subst (GivesTables image) (ok-same (opened_at layout tables room) opened is) brings

end-behind : (layout : Layout) (image : List ℕ) (opened : Opened) (behind : Result TablesModel ℕ) → behind_records layout no_tables 0 (event_records layout image) ≡ behind
    → by_end layout (part 512 layout.book image) behind ≡ Ok opened → GivesTables image opened
end-behind layout image opened (Err place) brings is = absurd (err-not-ok (BadBook place) opened is)
end-behind layout image opened (Ok tables) brings is =
    let bytes = part 512 layout.book image in
    gate-behind layout image tables opened (end_from 0 bytes) (layout.book - end_from 0 bytes) brings (starts_open (drop (end_from 0 bytes) bytes)) is

-- where no entry is refused, the book opens to the same
accepted : (image : List ℕ) (opened : Opened) (read : Result Opened OpenError) → by_entries image read ≡ Ok opened → read ≡ Ok opened
accepted image opened (Err error) is = absurd (err-not-ok error opened is)
accepted image opened (Ok its) is = by (bad_entry its.layout its.tables image) is
  where
    by : (refused : Option (ℕ × ℕ)) → refused_or its refused ≡ Ok opened → ◌≡◌ {A = Result Opened OpenError} (Ok its) (Ok opened)
    by None is = is
    by (Some at) is = absurd (err-not-ok (OpenErrors.BadEntry at.0 at.1) opened is)

header-behind : (image : List ℕ) (opened : Opened) (head : Result Layout HeaderError) → by_header image head ≡ Ok opened → GivesTables image opened
header-behind image opened (Err HeaderErrors.NotFormatted) is = absurd (err-not-ok OpenErrors.NotFormatted opened is)
header-behind image opened (Err (HeaderErrors.Version version)) is = absurd (err-not-ok (OpenErrors.Version version) opened is)
header-behind image opened (Err (HeaderErrors.BadHeader offset)) is = absurd (err-not-ok (OpenErrors.BadHeader offset) opened is)
header-behind image opened (Ok layout) is =
    end-behind layout image opened (behind_records layout no_tables 0 (event_records layout image)) refl (accepted image opened (by_book layout (part 512 layout.book image)) is)

gives-tables : (image : List ℕ) (size : ℕ) (opened : Opened) → opening_of image size ≡ Ok opened → GivesTables image opened
unfolding opening_of
gives-tables image size opened is = header-behind image opened (header_of (take 512 image) size) is

-- why a disk wasn't opened, as its desk
pub desk-cause : (rose told : Type 0) (image : List ℕ) (size : ℕ) (error : OpenError) → OpenCause rose told (opening_of image size) error → OpenCause rose told (desk_opening image size) error
unfolding desk_opening
desk-cause rose told image size OpenErrors.NoMemory cause = tt
desk-cause rose told image size OpenErrors.Fault cause = cause
desk-cause rose told image size OpenErrors.NotFormatted cause = λ is. ap (desk_of_opened image) (cause is)
desk-cause rose told image size (OpenErrors.Version version) cause = λ is. ap (desk_of_opened image) (cause is)
desk-cause rose told image size (OpenErrors.BadHeader offset) cause = λ is. ap (desk_of_opened image) (cause is)
desk-cause rose told image size (OpenErrors.BadBook offset) cause = λ is. ap (desk_of_opened image) (cause is)
desk-cause rose told image size (OpenErrors.BadEntry job offset) cause = λ is. ap (desk_of_opened image) (cause is)

last-same : (layout : Layout) (old new : List ℕ) → event_records layout new ≡ event_records layout old → last_on layout new ≡ last_on layout old
unfolding last_on
last-same layout old new same = ap (λ records. last_event (events_in records)) same

abbrev gate_or : ℕ → Opened → Bool → Result Opened OpenError
gate_or end opened is_open = cond is_open (Err (BadBook end)) (Ok opened)

abbrev state_with : Layout → Office → List RunningStepView → List FailedRun → ℕ → RoomyDesk
state_with layout office running failed room = record { desk = record { layout = layout; office = office; running = map step_on running; failed = failed }; room = room }

-- what a sound image has that opens to this layout and these tables
module _ (image : List ℕ) (size : ℕ) (opened : Opened) (sound : Sound size image) (opens : opening_of image size ≡ Ok opened) where
  same-opened : opened_at sound.layout (office_on sound.layout image).tables sound.room ≡ opened
  same-opened = ok-same (opened_at sound.layout (office_on sound.layout image).tables sound.room) opened (sym sound.opens ∙ opens)

  layout-same : sound.layout ≡ opened.layout
  layout-same = ap (λ (o : Opened). o.layout) same-opened

  events-so : AreSound opened.layout (events_in (event_records opened.layout image))
  events-so = subst (λ l. AreSound l (events_in (event_records l image))) layout-same sound.events

  decks-so : AreDeckEvents (events_in (event_records opened.layout image))
  decks-so = deck-records opened.layout no_tables 0 (event_records opened.layout image) opened.tables (gives-tables image size opened opens)

  kept-so : IsKept opened.layout (office_on opened.layout image)
  unfolding office_on
  kept-so = events-kept opened.layout (events_in (event_records opened.layout image)) events-so decks-so

  runs-so : HasRuns (office_on opened.layout image)
  unfolding office_on
  runs-so = events-run opened.layout (events_in (event_records opened.layout image)) events-so decks-so

  again-there : HasCommittedAgain opened.layout (office_on opened.layout image) (last_on opened.layout image) image
  again-there = subst (λ l. HasCommittedAgain l (office_on l image) (last_on l image) image) layout-same sound.committed

  last-there : HasLast (office_on opened.layout image) (last_on opened.layout image)
  last-there = subst (λ l. HasLast (office_on l image) (last_on l image)) layout-same sound.last

  entries-there : HasEntries opened.layout (office_on opened.layout image) image
  entries-there = subst (λ l. HasEntries l (office_on l image) image) layout-same sound.entries

  -- another image has the entries with the same records of the data sets that keep any
  entries-then : (other : List ℕ) → SameKept opened.layout (office_on opened.layout image).tables.sets image other → HasEntries opened.layout (office_on opened.layout image) other
  unfolding office_on
  entries-then other same =
      has-then opened.layout (office_on opened.layout image) image other
      (are-within opened.layout (event_records opened.layout image) opened.tables events-so (gives-tables image size opened opens)) same entries-there

  checks-so : OnlyCheckSetsKeep (office_on opened.layout image).tables.sets
  unfolding office_on
  checks-so = checks-keep opened.layout (event_records opened.layout image) opened.tables events-so (gives-tables image size opened opens)

  effects-so : AreInEffect (office_on opened.layout image)
  unfolding office_on
  effects-so = are-in-effect opened.layout (event_records opened.layout image) opened.tables events-so (gives-tables image size opened opens)

  tables-so : (office_on opened.layout image).tables ≡ opened.tables
  tables-so = subst (λ l. (office_on l image).tables ≡ opened.tables) layout-same (ap (λ (o : Opened). o.tables) same-opened)

-- the record of the last event, written again, is committed
committed-again : (layout : Layout) (content : List ℕ) (office : Office) (last : Option Event) (after : List ℕ) → IsKept layout office → office_on layout content ≡ office
    → HasLast office last → HasCommittedAgain layout office last content → IsWrittenAgain layout office.tables last content after → HasCommitted layout office after
committed-again layout content office None after kept is there committed written =
    subst (HasCommitted layout office) (sym written)
    (committed-already layout office content kept None (subst HaveLengths is (office-lengths layout content)) there committed (λ event none. absurd (some-not-none event (sym none))))
committed-again layout content office (Some event) after kept is there committed written =
    bool-cases (has_record office.tables event)
    (λ has.
    let its : IsDue office.tables event = due office.tables event has in
    committed-written layout office content kept event its committed after
    (its.written layout content after (subst (λ b. IsWrittenIf b layout office.tables event content after) has written)))
    (λ none.
    subst (HasCommitted layout office) (sym (subst (λ b. IsWrittenIf b layout office.tables event content after) none written))
    (committed-already layout office content kept (Some event) (subst HaveLengths is (office-lengths layout content)) there committed
    (λ other same. ap (has_record office.tables) (sym (same_Some event other same)) ∙ none)))

module _ {D : Type 0} (told : Type 0) (content : D → List ℕ) (may_leave : D → List ℕ → Type 0) (size : D → ℕ) where
  -- a disk that was opened, with the record of its last event written again
  pub record IsOpened (disk : D) (new : DeskView D) (last : Option Event) : Type 0 where
    pub opens : opening_of (content disk) (size disk) ≡ Ok (opened_of new)
    pub failed : new.jobs.failed ≡ failed_in new.jobs.tables.desk
    pub running : new.jobs.running ≡ []
    pub points : ArePointsRead told new.store.layout new.jobs.tables.desk (content disk) new.jobs.points
    pub is_open : new.store.fault ≡ None
    pub same_size : size new.store.disk ≡ size disk
    pub settled : Only (content new.store.disk) (may_leave new.store.disk)
    pub events : event_records new.store.layout (content new.store.disk) ≡ event_records new.store.layout (content disk)
    pub last_is : last_on new.store.layout (content disk) ≡ last
    pub written : IsWrittenAgain new.store.layout new.jobs.tables.desk last (content disk) (content new.store.disk)
    pub sound : IsSound content may_leave size new.store

  module _ (disk : D) (new : DeskView D) (last : Option Event) (tells : told) (sound : Sound (size disk) (content disk)) (is : IsOpened disk new last)
      (reads : may_leave new.store.disk (content new.store.disk)) where
    abbrev here : Office
    here = office_on new.store.layout (content disk)

    tables-here : here.tables ≡ new.jobs.tables.desk
    tables-here = tables-so (content disk) (size disk) (opened_of new) sound is.opens

    office-new : office_on new.store.layout (content new.store.disk) ≡ here
    office-new = office-same new.store.layout (content disk) (content new.store.disk) is.events

    last-new : last_on new.store.layout (content new.store.disk) ≡ last_on new.store.layout (content disk)
    last-new = last-same new.store.layout (content disk) (content new.store.disk) is.events

    committed-new : HasCommitted new.store.layout here (content new.store.disk)
    committed-new =
        committed-again new.store.layout (content disk) here last (content new.store.disk) (kept-so (content disk) (size disk) (opened_of new) sound is.opens) refl
        (subst (HasLast here) is.last_is (last-there (content disk) (size disk) (opened_of new) sound is.opens))
        (subst (λ l. HasCommittedAgain new.store.layout here l (content disk)) is.last_is (again-there (content disk) (size disk) (opened_of new) sound is.opens))
        (subst (λ t. IsWrittenAgain new.store.layout t last (content disk) (content new.store.disk)) (sym tables-here) is.written)

    entries-new : HasEntries new.store.layout here (content new.store.disk)
    entries-new =
        entries-then (content disk) (size disk) (opened_of new) sound is.opens (content new.store.disk)
        (same-again new.store.layout here.tables (kept-so (content disk) (size disk) (opened_of new) sound is.opens).events.extents (checks-so (content disk) (size disk) (opened_of new) sound is.opens)
        last (content disk) (content new.store.disk) (subst (λ t. IsWrittenAgain new.store.layout t last (content disk) (content new.store.disk)) (sym tables-here) is.written))

    entries-now : HasEntries new.store.layout (office_on new.store.layout (content new.store.disk)) (content new.store.disk)
    entries-now = subst (λ (o : Office). HasEntries new.store.layout o (content new.store.disk)) (sym office-new) entries-new

    state-so : state_with new.store.layout here [] (failed_in here.tables) (room_of new.store.book) ≡ state_of content new
    state-so =
        ap (λ (t : TablesModel). state_with new.store.layout here [] (failed_in t) (room_of new.store.book)) tables-here
        ∙ ap (λ failed. state_with new.store.layout here [] failed (room_of new.store.book)) (sym is.failed)
        ∙ ap (λ running. state_with new.store.layout here running new.jobs.failed (room_of new.store.book)) (sym is.running)
        ∙ ap (λ office. state_with new.store.layout office new.jobs.running new.jobs.failed (room_of new.store.book)) (sym office-new)

    -- the disk opens to the desk of its events
    pub opens-desk : desk_opening (content disk) (size disk) ≡ Ok (state_of content new)
    unfolding desk_opening
    opens-desk = ap (desk_of_opened (content disk)) is.opens ∙ ap (λ (s : RoomyDesk). Ok s) state-so

    brings-new : behind_records new.store.layout no_tables 0 (event_records new.store.layout (content new.store.disk)) ≡ Ok new.jobs.tables.desk
    brings-new = ap (λ records. behind_records new.store.layout no_tables 0 records) is.events ∙ gives-tables (content disk) (size disk) (opened_of new) is.opens

    committed-now : HasCommitted new.store.layout (office_on new.store.layout (content new.store.disk)) (content new.store.disk)
    committed-now = subst (λ o. HasCommitted new.store.layout o (content new.store.disk)) (sym office-new) committed-new

    last-now : HasLast (office_on new.store.layout (content new.store.disk)) (last_on new.store.layout (content new.store.disk))
    last-now =
        subst (λ o. HasLast o (last_on new.store.layout (content new.store.disk))) (sym office-new)
        (subst (HasLast here) (sym last-new) (last-there (content disk) (size disk) (opened_of new) sound is.opens))

    events-new : AreSound new.store.layout (events_in (event_records new.store.layout (content new.store.disk)))
    events-new = subst (λ records. AreSound new.store.layout (events_in records)) (sym is.events) (events-so (content disk) (size disk) (opened_of new) sound is.opens)

    -- its points are those that were read before the record was written again
    stands-here : StandsForDesk new.store.layout new.jobs (content new.store.disk) (opened_desk new.store.layout here)
    stands-here =
        opened-stands new.store.layout here new.jobs (content disk) (content new.store.disk)
        (opened-is new.store.layout here (kept-so (content disk) (size disk) (opened_of new) sound is.opens) (runs-so (content disk) (size disk) (opened_of new) sound is.opens))
        (effects-so (content disk) (size disk) (opened_of new) sound is.opens) committed-new (entries-there (content disk) (size disk) (opened_of new) sound is.opens)
        (sym tables-here) (is.failed ∙ ap failed_in (sym tables-here)) is.running
        (subst (λ (t : TablesModel). AreRead new.store.layout t (content disk) new.jobs.points) (sym tables-here)
        (points-read told new.store.layout new.jobs.tables.desk (content disk) tells new.jobs.points is.points))

    pub trusted-opened : ((image : List ℕ) → may_leave new.store.disk image → Opens new.store.layout (length image) (λ records. records ≡ event_records new.store.layout (content new.store.disk)) image)
        → IsTrusted told content may_leave new
    trusted-opened opens_left = record {
      tells = tells;
      opens = brings-new;
      events = events-new;
      stands = subst (λ (s : RoomyDesk). StandsForDesk new.store.layout new.jobs (content new.store.disk) s.desk) state-so stands-here;
      last = last-now;
      opens_left = opens_left;
      committed = again-only new.store.layout (office_on new.store.layout (content new.store.disk)) (last_on new.store.layout (content new.store.disk)) (content new.store.disk) (may_leave new.store.disk) last-now committed-now is.settled;
      entries = entries-now;
      entries_left = λ image may. subst (HasEntries new.store.layout (office_on new.store.layout (content new.store.disk))) (sym (is.settled image may)) entries-now;
    }

    none-bad-new : bad_entry new.store.layout new.jobs.tables.desk (content new.store.disk) ≡ None
    none-bad-new =
        subst (λ (t : TablesModel). bad_entry new.store.layout t (content new.store.disk) ≡ None) (ap (λ (o : Office). o.tables) office-new ∙ tables-here)
        (none-bad-on new.store.layout (content new.store.disk) new.jobs.tables.desk events-new brings-new entries-now)

    opening-new : opening_of (content new.store.disk) (size disk) ≡ Ok (opened_of new)
    opening-new =
        let image = content new.store.disk in
        let book = new.store.book in
        let tables = new.jobs.tables.desk in
        let bytes = part 512 new.store.layout.book image in
        let on : IsOpenOn book image = (is.sound.stands is.is_open).open_on image reads in
        let same : part book.start book.size image ≡ bytes = ap (λ n. part n book.size image) is.sound.start ∙ ap (λ n. part 512 n image) is.sound.length in
        let end : end_from 0 bytes ≡ book.end = ap (end_from 0) (sym same) ∙ on.end in
        let closed : ends_closed bytes = ap (λ n. starts_open (drop n bytes)) end ∙ ap (λ b. starts_open (drop book.end b)) (sym same) ∙ on.closed in
        let its : Opened = opened_at new.store.layout tables (new.store.layout.book - end_from 0 bytes) in
        by_its_book image (size disk) new.store.layout (ap (header_of (take 512 image)) (sym is.same_size) ∙ is.sound.heads is.is_open image reads)
        ∙ ap (by_entries image) (ap (by_end new.store.layout bytes) brings-new ∙ ap (gate_or (end_from 0 bytes) its) closed)
        ∙ ap (refused_or its) none-bad-new
        ∙ ap (λ n. Ok (opened_at new.store.layout tables (new.store.layout.book - n))) end
        ∙ ap (λ n. Ok (opened_at new.store.layout tables (n - book.end))) (sym is.sound.length)
        ∙ ap (λ failed. Ok (record { layout = new.store.layout; tables = tables; failed = failed; room = room_of book })) (sym is.failed)

    -- it opens so again
    pub opens-again : desk_opening (content new.store.disk) (size disk) ≡ desk_opening (content disk) (size disk)
    unfolding desk_opening
    opens-again =
        ap (desk_of_opened (content new.store.disk)) opening-new
        ∙ ap (λ (o : Office). Ok (record { desk = opened_desk new.store.layout o; room = room_of new.store.book })) office-new
        ∙ sym (ap (desk_of_opened (content disk)) is.opens)

  -- ---- what a stop leaves

  -- a disk that was read
  pub record IsReadAs (disk : D) (mid : DeskView D) (last : Option Event) : Type 0 where
    pub opens : opening_of (content disk) (size disk) ≡ Ok (opened_of mid)
    pub last_is : last_on mid.store.layout (content disk) ≡ last
    pub same : content mid.store.disk ≡ content disk
    pub same_size : size mid.store.disk ≡ size disk

  module _ (disk : D) (mid : DeskView D) (last : Option Event) (sound : Sound (size disk) (content disk)) (is : IsReadAs disk mid last) where
    abbrev office-mid : Office
    office-mid = office_on mid.store.layout (content disk)

    lacking-again : (its : Option Event) (image : List ℕ) → HasCommittedAgain mid.store.layout office-mid its (content disk) → LacksLast mid.store.layout office-mid.tables its (content disk) image
        → HasCommittedAgain mid.store.layout office-mid its image
    lacking-again None image committed lacks = absurd lacks
    lacking-again (Some event) image committed lacks =
        let its : IsDue office-mid.tables event = due office-mid.tables event lacks.0 in
        again-lacking mid.store.layout office-mid (content disk) (kept-so (content disk) (size disk) (opened_of mid) sound is.opens) event its committed image
        (its.lacks mid.store.layout (content disk) image lacks.1)

    again-mid : HasCommittedAgain mid.store.layout office-mid last (content disk)
    again-mid = subst (λ l. HasCommittedAgain mid.store.layout office-mid l (content disk)) is.last_is (again-there (content disk) (size disk) (opened_of mid) sound is.opens)

    lacks-here : (image : List ℕ) → LacksLast mid.store.layout mid.jobs.tables.desk last (content mid.store.disk) image → LacksLast mid.store.layout office-mid.tables last (content disk) image
    lacks-here image lacks =
        subst (λ bytes. LacksLast mid.store.layout office-mid.tables last bytes image) is.same
        (subst (λ t. LacksLast mid.store.layout t last (content mid.store.disk) image) (sym (tables-so (content disk) (size disk) (opened_of mid) sound is.opens)) lacks)

    committed-lacking : (image : List ℕ) → (image ≡ content mid.store.disk) ⊎ LacksLast mid.store.layout mid.jobs.tables.desk last (content mid.store.disk) image
        → HasCommittedAgain mid.store.layout office-mid last image
    committed-lacking image either =
        ⊎_elim
        (λ same. subst (HasCommittedAgain mid.store.layout office-mid last) (sym (same ∙ is.same)) again-mid)
        (λ lacks.
        lacking-again last image again-mid (lacks-here image lacks))
        either

    entries-lacking : (image : List ℕ) → (image ≡ content mid.store.disk) ⊎ LacksLast mid.store.layout mid.jobs.tables.desk last (content mid.store.disk) image
        → HasEntries mid.store.layout office-mid image
    entries-lacking image either =
        ⊎_elim
        (λ same. subst (HasEntries mid.store.layout office-mid) (sym (same ∙ is.same)) (entries-there (content disk) (size disk) (opened_of mid) sound is.opens))
        (λ lacks.
        entries-then (content disk) (size disk) (opened_of mid) sound is.opens image
        (same-lacking mid.store.layout office-mid.tables (kept-so (content disk) (size disk) (opened_of mid) sound is.opens).events.extents (checks-so (content disk) (size disk) (opened_of mid) sound is.opens)
        last (content disk) image (lacks-here image lacks)))
        either

    abbrev Keeps : List ℕ → Type 0
    Keeps image = HasKept mid.store.layout (size disk) (event_records mid.store.layout (content disk)) [] image

    kept-same : (image : List ℕ) → image ≡ content disk → Keeps image
    kept-same image same = record {
      sound = subst (Sound (size disk)) (sym same) sound;
      front = [];
      more = [];
      split = refl;
      events = ap (event_records mid.store.layout) same ∙ sym (append-nil (event_records mid.store.layout (content disk)));
    }

    kept-lacking : (image : List ℕ) → IsLackingAgain content size last mid image → Keeps image
    kept-lacking image left =
        let listed : event_records mid.store.layout image ≡ event_records mid.store.layout (content disk) = left.0.list ∙ ap (event_records mid.store.layout) is.same in
        let lasts : last_on mid.store.layout image ≡ last = last-same mid.store.layout (content disk) image listed ∙ is.last_is in
        record {
          sound = sound-at mid.store.layout (size disk) image office-mid
              (subst (λ n. header_of (take 512 image) n ≡ Ok mid.store.layout) is.same_size left.0.head) left.0.closed
              (office-same mid.store.layout (content disk) image listed)
              (ap (λ records. behind_records mid.store.layout no_tables 0 records) listed ∙ gives-tables (content disk) (size disk) (opened_of mid) is.opens
              ∙ ap (λ (t : TablesModel). Ok t) (sym (tables-so (content disk) (size disk) (opened_of mid) sound is.opens)))
              (subst (λ records. AreSound mid.store.layout (events_in records)) (sym listed) (events-so (content disk) (size disk) (opened_of mid) sound is.opens))
              (subst (λ l. HasCommittedAgain mid.store.layout office-mid l image) (sym lasts) (committed-lacking image left.1))
              (subst (HasLast office-mid) (sym (last-same mid.store.layout (content disk) image listed)) (last-there (content disk) (size disk) (opened_of mid) sound is.opens))
              (entries-lacking image left.1);
          front = [];
          more = [];
          split = refl;
          events = listed ∙ sym (append-nil (event_records mid.store.layout (content disk)));
        }

    module _ (moment : D → ℕ) (left_since : D → ℕ → List ℕ → Type 0) where
      pub kept-opening : (new : D) → FromSync content may_leave moment left_since disk mid.store.disk (λ image. image ≡ content disk)
          → EachSince moment left_since mid.store.disk new (IsLackingAgain content size last mid) → FromSync content may_leave moment left_since disk new Keeps
      kept-opening new read since = record {
        synced = read.synced;
        reads = read.reads;
        settled = read.settled;
        since = and_then moment left_since read.synced mid.store.disk new (λ image. image ≡ content disk) (IsLackingAgain content size last mid) Keeps
            read.since since kept-same kept-lacking;
      }

  -- ---- the record is written again

  -- the jobs and the store of a disk that was read
  pub record IsRead (disk : D) (mid : DeskView D) (last : Option Event) : Type 0 where
    pub reads : IsReadAs disk mid last
    pub failed : mid.jobs.failed ≡ failed_in mid.jobs.tables.desk
    pub running : mid.jobs.running ≡ []
    pub points : ArePointsRead told mid.store.layout mid.jobs.tables.desk (content disk) mid.jobs.points
    pub is_open : mid.store.fault ≡ None

  -- the record is written
  pub record WritesAgain (mid new : DeskView D) (last : Option Event) : Type 0 where
    pub jobs : HasSameJobs mid new
    pub kept : new.store ≡ record mid.store { disk = new.store.disk }
    pub settled : Only (content new.store.disk) (may_leave new.store.disk)
    pub events : event_records mid.store.layout (content new.store.disk) ≡ event_records mid.store.layout (content mid.store.disk)
    pub written : IsWrittenAgain mid.store.layout mid.jobs.tables.desk last (content mid.store.disk) (content new.store.disk)
    pub same_size : size new.store.disk ≡ size mid.store.disk

  abbrev opened_with : Layout → TablesModel → List FailedRun → OpenBook → Opened
  opened_with layout tables failed book = record { layout = layout; tables = tables; failed = failed; room = room_of book }

  pub opened-by : (disk : D) (mid new : DeskView D) (last : Option Event) → IsRead disk mid last → WritesAgain mid new last → IsSound content may_leave size new.store → IsOpened disk new last
  opened-by disk mid new last read wrote sound =
      let layout : new.store.layout ≡ mid.store.layout = ap (λ (s : StoreView D). s.layout) wrote.kept in
      let book : new.store.book ≡ mid.store.book = ap (λ (s : StoreView D). s.book) wrote.kept in
      record {
        opens = read.reads.opens
            ∙ ap (λ (l : Layout). Ok (opened_with l mid.jobs.tables.desk mid.jobs.failed mid.store.book)) (sym layout)
            ∙ ap (λ (t : TablesModel). Ok (opened_with new.store.layout t mid.jobs.failed mid.store.book)) (sym wrote.jobs.tables)
            ∙ ap (λ (f : List FailedRun). Ok (opened_with new.store.layout new.jobs.tables.desk f mid.store.book)) (sym wrote.jobs.failed)
            ∙ ap (λ (b : OpenBook). Ok (opened_with new.store.layout new.jobs.tables.desk new.jobs.failed b)) (sym book);
        failed = wrote.jobs.failed ∙ read.failed ∙ ap failed_in (sym wrote.jobs.tables);
        running = wrote.jobs.running ∙ read.running;
        points = subst (λ (l : Layout). ArePointsRead told l new.jobs.tables.desk (content disk) new.jobs.points) (sym layout)
            (subst (λ (t : TablesModel). ArePointsRead told mid.store.layout t (content disk) new.jobs.points) (sym wrote.jobs.tables)
            (subst (ArePointsRead told mid.store.layout mid.jobs.tables.desk (content disk)) (sym wrote.jobs.points) read.points));
        is_open = ap (λ (s : StoreView D). s.fault) wrote.kept ∙ read.is_open;
        same_size = wrote.same_size ∙ read.reads.same_size;
        settled = wrote.settled;
        events = subst (λ (l : Layout). event_records l (content new.store.disk) ≡ event_records l (content disk)) (sym layout) (wrote.events ∙ ap (event_records mid.store.layout) read.reads.same);
        last_is = subst (λ (l : Layout). last_on l (content disk) ≡ last) (sym layout) read.reads.last_is;
        written = subst (λ (l : Layout). IsWrittenAgain l new.jobs.tables.desk last (content disk) (content new.store.disk)) (sym layout)
            (subst (λ (t : TablesModel). IsWrittenAgain mid.store.layout t last (content disk) (content new.store.disk)) (sym wrote.jobs.tables)
            (subst (λ (bytes : List ℕ). IsWrittenAgain mid.store.layout mid.jobs.tables.desk last bytes (content new.store.disk)) read.reads.same wrote.written));
        sound = sound;
      }
