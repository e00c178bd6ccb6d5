-- What a stop leaves within a call that keeps an event.
use Rattle.std.proofs.Common.{◌≡◌, ◌≤◌, ◌<◌, ◌&&◌, ◌++◌, ◌∷◌, [], ℕ, List, length, take, IsTrue, Option, None, Some, Ok, true, ⊎_elim, inl, inr, ap, subst, sym, refl, arith, ◌∙◌}
use Rattle.ckr_base.proofs.Options.{some-not-none}
use Rattle.ckr_book.specs.Book.{IsBeforeOrAfter, ends_closed, room_of}
use Rattle.ckr_events.specs.declared.event.Event.{Event}
use Rattle.ckr_events.specs.Event.{spelling}
use Rattle.ckr_desk_refines.specs.Memory.EventChanges.{points_behind}
use Rattle.ckr_desk_refines.specs.Memory.RewriteCounts.{may_count}
use Rattle.ckr_jcl.specs.declared.deck.Job.{Job}
use Rattle.ckr_desk_refines.specs.Memory.RunningSteps.{GoesOn}
use Rattle.ckr_desk_refines.specs.Memory.View.{JobsView, PointView, RunningStepView}
use Rattle.ckr_library.specs.declared.sets.DataSet.{DataSet}
use Rattle.ckr_outside.specs.Disk.{ChangesWithin, EachSince, Only, OnlyReads, SameOutside, StemsFrom, part}
use Rattle.ckr_outside.specs.Moments.{and_then, at_the_end, both_since, in_other_words, started}
use Rattle.ckr_points.specs.Follows.{follows}
use Rattle.ckr_points.specs.Restart.{after_event}
use Rattle.ckr_points.specs.Rows.{TablesModel}
use Rattle.ckr_desk_refines.specs.Moves.{HasSameRecords}
use Rattle.ckr_desk_store.proofs.Soundness.{opens_now}
use Rattle.ckr_desk_store.specs.Answers.{AppendCause, DiskCause}
use Rattle.ckr_desk_store.specs.OpenImages.{event_records, Opens}
use Rattle.ckr_desk_store.specs.State.{IsSound, StoreView}
use Rattle.ckr_desk_store.specs.declared.error.StoreError.{StoreError}
use Rattle.ckr_desk_store.specs.declared.error.StoreError.TheVariants as OfStore
use Rattle.ckr_desk_turn.specs.Desk.{failed_behind}
use Rattle.ckr_volumes.specs.declared.layout.Layout.{Layout}
use Rattle.ckr_volumes.specs.Header.{header_of}
use Rattle.ckr_volumes.specs.Layouts.{is_laid_out}
use Rattle.ckr_desk.proofs.Images.Records.{records-stay}
use Rattle.ckr_desk.proofs.Openings.Answers.{rose_before}
use Rattle.ckr_desk.specs.Errors.{of_store}
use Rattle.ckr_desk.specs.declared.error.DeskError.{DeskError}
use Rattle.ckr_desk.specs.declared.error.DeskError.TheVariants.{NoMemory, DiskFault, BookFull, Stopped}
use Rattle.ckr_desk.specs.Calls.{HasGoneOn, HasSameJobs, IsLeftBy, IsSame, NotEntered, NotKept, may_keep}
use Rattle.ckr_desk.specs.Preparation.{NotReady}
use Rattle.ckr_desk.specs.Rewrite.{OpensSame}
use Rattle.ckr_desk.specs.State.{DeskView}
use Rattle.ckr_desk_turn.specs.MachineRoom.{MachineRoomView}

module _ {D : Type 0} (told : Type 0) (content : D → List ℕ) (may_leave : D → List ℕ → Type 0) (moment : D → ℕ) (left_since : D → ℕ → List ℕ → Type 0) (size : D → ℕ) where
  -- what only reads leaves what was there
  pub reads-left : (old : DeskView D) (new : D) → EachSince moment left_since old.store.disk new (OpensSame content size old) → OnlyReads content may_leave moment left_since old.store.disk new
      → EachSince moment left_since old.store.disk new (λ image. OpensSame content size old image × may_leave old.store.disk image)
  reads-left old new opens reads = both_since moment left_since old.store.disk new (OpensSame content size old) (may_leave old.store.disk) opens reads.since

  pub synced-left : (event : Event) (deck : Option Job) (old : DeskView D) (new : D) → EachSince moment left_since old.store.disk new (OpensSame content size old) → OnlyReads content may_leave moment left_since old.store.disk new
      → EachSince moment left_since old.store.disk new (IsLeftBy content may_leave size event deck old)
  synced-left event deck old new opens reads =
      in_other_words moment left_since old.store.disk new (λ image. OpensSame content size old image × may_leave old.store.disk image) (IsLeftBy content may_leave size event deck old)
      (reads-left old new opens reads) (λ image both. inl both)

  -- and what is written into the book leaves the records
  pub appended-left : (event : Event) (deck : Option Job) (old : DeskView D) (mid new : D) → may_keep event deck old ≡ true → IsTrue (is_laid_out old.store.layout)
      → EachSince moment left_since old.store.disk mid (OpensSame content size old) → OnlyReads content may_leave moment left_since old.store.disk mid → size mid ≡ size old.store.disk
      → Only (content mid) (may_leave mid)
      → EachSince moment left_since mid new (Opens old.store.layout (size mid) (IsBeforeOrAfter (event_records old.store.layout (content mid)) (spelling event)))
      → ChangesWithin told content may_leave moment left_since 512 old.store.layout.book mid new
      → EachSince moment left_since old.store.disk new (IsLeftBy content may_leave size event deck old)
  appended-left event deck old mid new might laid opens reads same_size only any changes =
      and_then moment left_since old.store.disk mid new (IsLeftBy content may_leave size event deck old)
      (λ image. Opens layout (size mid) (IsBeforeOrAfter (event_records layout (content mid)) (spelling event)) image × StemsFrom (may_leave mid) 512 layout.book image)
      (IsLeftBy content may_leave size event deck old) (synced-left event deck old mid opens reads)
      (both_since moment left_since mid new (Opens layout (size mid) (IsBeforeOrAfter (event_records layout (content mid)) (spelling event))) (StemsFrom (may_leave mid) 512 layout.book) any changes.since)
      (λ image left. left)
      (λ image both. inr (might, in_words image both.0, stays image both.1))
    where
      layout : Layout
      layout = old.store.layout

      in_words : (image : List ℕ) → Opens layout (size mid) (IsBeforeOrAfter (event_records layout (content mid)) (spelling event)) image
          → Opens layout (size old.store.disk) (IsBeforeOrAfter (event_records layout (content old.store.disk)) (spelling event)) image
      in_words image opens =
          subst (λ n. Opens layout n (IsBeforeOrAfter (event_records layout (content old.store.disk)) (spelling event)) image) same_size
          (subst (λ bytes. Opens layout (size mid) (IsBeforeOrAfter (event_records layout bytes) (spelling event)) image) reads.same opens)

      stays : (image : List ℕ) → StemsFrom (may_leave mid) 512 layout.book image → HasSameRecords layout (content old.store.disk) image
      stays image stems = λ (set : DataSet) (n : ℕ) stands within.
          records-stay layout laid (content old.store.disk) image
          (subst (λ bytes. SameOutside 512 layout.book bytes image) (only stems.0 stems.1 ∙ reads.same) stems.2) set n stands within

  -- the same of the store
  pub appended-store : (event : Event) (deck : Option Job) (old : DeskView D) (mid new : StoreView D) → mid ≡ record old.store { disk = mid.disk } → may_keep event deck old ≡ true → IsTrue (is_laid_out old.store.layout)
      → EachSince moment left_since old.store.disk mid.disk (OpensSame content size old) → OnlyReads content may_leave moment left_since old.store.disk mid.disk → size mid.disk ≡ size old.store.disk
      → Only (content mid.disk) (may_leave mid.disk)
      → EachSince moment left_since mid.disk new.disk (Opens mid.layout (size mid.disk) (IsBeforeOrAfter (event_records mid.layout (content mid.disk)) (spelling event)))
      → ChangesWithin told content may_leave moment left_since 512 mid.layout.book mid.disk new.disk
      → EachSince moment left_since old.store.disk new.disk (IsLeftBy content may_leave size event deck old)
  appended-store event deck old mid new kept might laid opens reads same_size only any changes =
      let same : mid.layout ≡ old.store.layout = ap (λ (s : StoreView D). s.layout) kept in
      appended-left event deck old mid.disk new.disk might laid opens reads same_size only
      (subst (λ (l : Layout). EachSince moment left_since mid.disk new.disk (Opens l (size mid.disk) (IsBeforeOrAfter (event_records l (content mid.disk)) (spelling event)))) same any)
      (subst (λ (l : Layout). ChangesWithin told content may_leave moment left_since 512 l.book mid.disk new.disk) same changes)

  -- between two calls
  pub opens-so : (old : DeskView D) → IsSound content may_leave size old.store → old.store.fault ≡ None → (image : List ℕ) → may_leave old.store.disk image → OpensSame content size old image
  opens-so old sound is_open image now = opens_now told content may_leave moment left_since size old.store sound is_open image now

  -- the same by an image's own length
  pub opens-long : (old : DeskView D) → IsSound content may_leave size old.store → old.store.fault ≡ None → (image : List ℕ) → may_leave old.store.disk image → length image ≡ size old.store.disk
      → Opens old.store.layout (length image) (λ records. records ≡ event_records old.store.layout (content old.store.disk)) image
  opens-long old sound is_open image now long =
      subst (λ n. Opens old.store.layout n (λ records. records ≡ event_records old.store.layout (content old.store.disk)) image) (sym long) (opens-so old sound is_open image now)

  -- behind an event that was kept, where a stop leaves what a read gives
  pub kept-opens : (event : Event) (deck : Option Job) (old new : DeskView D) → EachSince moment left_since old.store.disk new.store.disk (IsLeftBy content may_leave size event deck old)
      → ((t : ℕ) (image : List ℕ) → t ≤ moment new.store.disk → may_leave new.store.disk image → left_since new.store.disk t image)
      → ((image : List ℕ) → may_leave new.store.disk image → length image ≡ size old.store.disk)
      → event_records old.store.layout (content new.store.disk) ≡ event_records old.store.layout (content old.store.disk) ++ spelling event ∷ []
      → Only (content new.store.disk) (may_leave new.store.disk) → (image : List ℕ) → may_leave new.store.disk image
      → Opens old.store.layout (length image) (λ records. records ≡ event_records old.store.layout (content old.store.disk) ++ spelling event ∷ []) image
  kept-opens event deck old new left counts long events settled image may =
      ⊎_elim
      (λ (was : OpensSame content size old image × may_leave old.store.disk image). by was.0.head was.0.closed)
      (λ (now : (may_keep event deck old ≡ true) × Opens old.store.layout (size old.store.disk) (IsBeforeOrAfter (event_records old.store.layout (content old.store.disk)) (spelling event)) image
      × HasSameRecords old.store.layout (content old.store.disk) image). by now.1.head now.1.closed)
      (at_the_end moment may_leave left_since old.store.disk new.store.disk (IsLeftBy content may_leave size event deck old) left counts image may)
    where
      by : header_of (take 512 image) (size old.store.disk) ≡ Ok old.store.layout → ends_closed (part 512 old.store.layout.book image)
          → Opens old.store.layout (length image) (λ records. records ≡ event_records old.store.layout (content old.store.disk) ++ spelling event ∷ []) image
      by head closed = record { head = ap (header_of (take 512 image)) (long image may) ∙ head; list = ap (event_records old.store.layout) (settled image may) ∙ events; closed = closed }

  -- the disk was only read
  pub read-left : (old : DeskView D) (new : D) → IsSound content may_leave size old.store → old.store.fault ≡ None → OnlyReads content may_leave moment left_since old.store.disk new
      → EachSince moment left_since old.store.disk new (λ image. OpensSame content size old image × may_leave old.store.disk image)
  read-left old new sound is_open reads =
      in_other_words moment left_since old.store.disk new (may_leave old.store.disk) (λ image. OpensSame content size old image × may_leave old.store.disk image) reads.since
      (λ image may. (opens-so old sound is_open image may, may))

  pub now-left : (old : DeskView D) → IsSound content may_leave size old.store → old.store.fault ≡ None → ((image : List ℕ) → left_since old.store.disk (moment old.store.disk) image → may_leave old.store.disk image)
      → EachSince moment left_since old.store.disk old.store.disk (λ image. OpensSame content size old image × may_leave old.store.disk image)
  now-left old sound is_open only =
      started moment left_since old.store.disk (λ image. OpensSame content size old image × may_leave old.store.disk image)
      (λ image left. (opens-so old sound is_open image (only image left), only image left))

  pub nothing-left : (event : Event) (deck : Option Job) (old : DeskView D) → IsSound content may_leave size old.store → old.store.fault ≡ None → ((image : List ℕ) → left_since old.store.disk (moment old.store.disk) image → may_leave old.store.disk image)
      → EachSince moment left_since old.store.disk old.store.disk (IsLeftBy content may_leave size event deck old)
  nothing-left event deck old sound is_open only =
      in_other_words moment left_since old.store.disk old.store.disk (λ image. OpensSame content size old image × may_leave old.store.disk image) (IsLeftBy content may_leave size event deck old)
      (now-left old sound is_open only) (λ image both. inl both)

-- What jobs do that took memory for an event, those before that have the same tables, steps and failed runs do.
module _ {D : Type 0} (event : Event) (deck : Option Job) (store : StoreView D) (one two : JobsView) (first second : MachineRoomView) (desk : two.tables.desk ≡ one.tables.desk) where
  prepared-may : may_keep event deck (record { store = store; jobs = two; machine_room = second }) ≡ true → may_keep event deck (record { store = store; jobs = one; machine_room = first }) ≡ true
  prepared-may might = subst (λ (t : TablesModel). (follows store.layout t event deck && may_count event t.sets) ≡ true) desk might

  pub prepared-left : (content : D → List ℕ) (may_leave : D → List ℕ → Type 0) (moment : D → ℕ) (left_since : D → ℕ → List ℕ → Type 0) (size : D → ℕ) (new : D)
      → EachSince moment left_since store.disk new (IsLeftBy content may_leave size event deck (record { store = store; jobs = two; machine_room = second }))
      → EachSince moment left_since store.disk new (IsLeftBy content may_leave size event deck (record { store = store; jobs = one; machine_room = first }))
  prepared-left content may_leave moment left_since size new left =
      in_other_words moment left_since store.disk new (IsLeftBy content may_leave size event deck (record { store = store; jobs = two; machine_room = second }))
      (IsLeftBy content may_leave size event deck (record { store = store; jobs = one; machine_room = first })) left
      (λ image by. ⊎_elim (λ before. inl before) (λ behind. inr (prepared-may behind.0, behind.1, behind.2)) by)

  module _ (running : two.running ≡ one.running) (failed : two.failed ≡ one.failed) (points : two.points ≡ one.points) where
    pub prepared-gone : (new : DeskView D) → HasGoneOn event deck (record { store = store; jobs = two; machine_room = second }) new → HasGoneOn event deck (record { store = store; jobs = one; machine_room = first }) new
    prepared-gone new gone = record {
      might = prepared-may gone.might;
      moved = record {
        tables = gone.moved.tables ∙ ap (after_event event deck) desk;
        running = subst (λ (its : List PointView). GoesOn event new.jobs.tables.desk its one.running new.jobs.running) points
            (subst (λ (steps : List RunningStepView). GoesOn event new.jobs.tables.desk two.points steps new.jobs.running) running gone.moved.running);
        failed = gone.moved.failed ∙ ap (failed_behind event) failed;
        points = gone.moved.points ∙ ap (points_behind event new.jobs.running) points;
      };
      layout = gone.layout;
      is_open = gone.is_open;
      fits = gone.fits;
      room = gone.room;
    }

    same-as-before : (new : DeskView D) → HasSameJobs (record { store = store; jobs = two; machine_room = second }) new → HasSameJobs (record { store = store; jobs = one; machine_room = first }) new
    same-as-before new same = record { tables = same.tables ∙ desk; running = same.running ∙ running; failed = same.failed ∙ failed; points = same.points ∙ points }

    same-store : (new : DeskView D) → IsSame (record { store = store; jobs = two; machine_room = second }) new → IsSame (record { store = store; jobs = one; machine_room = first }) new
    same-store new same = record { jobs = same-as-before new same.jobs; store = same.store }

    pub prepared-cause : (faults : D → ℕ) (new : DeskView D) (error : DeskError) → NotEntered faults (record { store = store; jobs = two; machine_room = second }) new error
        → NotKept faults event deck (record { store = store; jobs = one; machine_room = first }) new error
    prepared-cause faults new NoMemory cause = absurd cause
    prepared-cause faults new DiskFault cause = (cause.0, same-as-before new cause.1)
    prepared-cause faults new (BookFull need room) cause = absurd cause
    prepared-cause faults new (Stopped fault) cause = absurd cause

-- an event that isn't ready isn't kept
pub unready-cause : {D : Type 0} (event : Event) (deck : Option Job) (faults : D → ℕ) (old new : DeskView D) (error : DeskError) → NotReady event old new error → NotKept faults event deck old new error
unready-cause event deck faults old new NoMemory cause = cause.0
unready-cause event deck faults old new DiskFault cause = absurd cause
unready-cause event deck faults old new (BookFull need room) cause = cause
unready-cause event deck faults old new (Stopped fault) cause = absurd cause

-- an event that is ready isn't kept where the disk doesn't sync, or doesn't take its bytes
pub unsynced : {D : Type 0} (faults : D → ℕ) (old : DeskView D) (mid : StoreView D) (error : StoreError) → old.store.fault ≡ None → DiskCause faults old.store mid error → NotEntered faults old (record old { store = mid }) (of_store error)
unsynced faults old mid OfStore.DiskFault is_open cause = (cause, record { tables = refl; running = refl; failed = refl; points = refl })
unsynced faults old mid (OfStore.BookFull need room) is_open cause = absurd cause
unsynced faults old mid (OfStore.Stopped fault) is_open cause = absurd (some-not-none fault (sym cause.0 ∙ is_open))

pub unappended : {D : Type 0} (faults : D → ℕ) (old : DeskView D) (mid new : StoreView D) (needed : ℕ) (error : StoreError) → old.store.fault ≡ None → mid ≡ record old.store { disk = mid.disk } → faults old.store.disk ≤ faults mid.disk
    → needed ≤ room_of old.store.book → AppendCause faults needed mid new error → NotEntered faults old (record old { store = new }) (of_store error)
unappended {D} faults old mid new needed OfStore.DiskFault is_open kept later fits cause = (
  (
    rose_before (faults old.store.disk) (faults mid.disk) (faults new.disk) later cause.0,
    cause.1 ∙ ap (λ (s : StoreView D). let its : StoreView D = record s { disk = new.disk; fault = Some (faults new.disk) } in its) kept,
  ),
  record { tables = refl; running = refl; failed = refl; points = refl },
)
unappended {D} faults old mid new needed (OfStore.BookFull need room) is_open kept later fits cause =
    let same : room_of mid.book ≡ room_of old.store.book = ap (λ (s : StoreView D). room_of s.book) kept in
    let told : need ≡ needed = cause.0 in
    let left : room ≡ room_of mid.book = cause.1 in
    let less : room < need = cause.2 in
    omega (arith, same, told, left, less, fits)
unappended {D} faults old mid new needed (OfStore.Stopped fault) is_open kept later fits cause = absurd (some-not-none fault (sym cause.0 ∙ ap (λ (s : StoreView D). s.fault) kept ∙ is_open))

-- where the disk is the same, so is what a stop leaves
pub same-left : {D : Type 0} (moment : D → ℕ) (left_since : D → ℕ → List ℕ → Type 0) (old new : StoreView D) (P : List ℕ → Type 0) → new ≡ old → EachSince moment left_since old.disk old.disk P → EachSince moment left_since old.disk new.disk P
same-left {D} moment left_since old new P same left = subst (λ (s : StoreView D). EachSince moment left_since old.disk s.disk P) (sym same) left
