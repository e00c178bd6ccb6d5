-- A call that is one event with its deck, or none, on a trusted disk.
use Rattle.std.proofs.Common.{◌≡◌, ◌==◌, ◌≤◌, ◌++◌, ◌/◌, ℕ, suc, nat_le, List, [], Bool, true, false, cond, length, refl, ap, sym, ◌∙◌, subst, arith, append-nil, Option, Some, None, Result, Ok, Err, IfErr, OnOk}
use Rattle.std.proofs.lemmas.Bool.{false≢true, le-leb}
use Rattle.ckr_base.proofs.Numbers.{nat_le-true}
use Rattle.ckr_book.specs.Book.{room_of}
use Rattle.ckr_events.specs.declared.event.Event.TheVariants.{Purged, Released}
use Rattle.ckr_events.specs.Event.{IsEvent}
use Rattle.ckr_jcl.specs.declared.deck.Job.{Job}
use Rattle.ckr_outside.specs.Disk.{EachSince}
use Rattle.ckr_outside.specs.Moments.{in_other_words, started}
use Rattle.ckr_points.specs.declared.run.RunState.{RunState}
use Rattle.ckr_points.specs.declared.run.RunState.TheVariants.{Denied, Ended, Held, On, Purged as PurgedRun, Queued, Released as ReleasedRun}
use Rattle.ckr_points.specs.Follows.{is_in_state, state_number}
use Rattle.ckr_points.specs.Restart.{Decked}
use Rattle.ckr_points_invariant.proofs.Holders.Rows.{queued-is}
use Rattle.ckr_points_invariant.proofs.WaitingRuns.{tested-run}
use Rattle.ckr_desk_refines.specs.Moves.{HasSameRecords}
use Rattle.ckr_desk_store.specs.OpenImages.{event_records}
use Rattle.ckr_desk_store.specs.State.{IsSound, StoreView}
use Rattle.ckr_desk_turn.proofs.Decks.KeptCards.{kept_long, submitted_spelled}
use Rattle.ckr_desk_turn.specs.Cards.{kept_of_stored}
use Rattle.ckr_desk_turn.specs.Submissions.{submission_of}
use Rattle.ckr_desk_turn.specs.declared.submit.Submission.{Submission}
use Rattle.ckr_desk_turn.specs.declared.submit.Submission.TheVariants.{Accepted, Refused}
use Rattle.ckr_volumes.specs.declared.layout.Layout.{Layout}
use Rattle.ckr_desk.proofs.Turns.Preparation.{same-unchanged}
use Rattle.ckr_desk.proofs.Calls.Events.{IsCalled, called-deck, called-kept, called-purged, called-released, called-state, called-trusted}
use Rattle.ckr_desk.proofs.Calls.CardCounts.{accepted-deck, few-accepted}
use Rattle.ckr_desk.proofs.Images.Soundness.{kept-left}
use Rattle.ckr_desk.proofs.Calls.Stops.{kept-opens, opens-so}
use Rattle.ckr_desk.specs.declared.error.DeskError.{DeskError}
use Rattle.ckr_desk.specs.declared.error.DeskError.TheVariants.{NoMemory, DiskFault, BookFull, Stopped}
use Rattle.ckr_desk.specs.Requests.{FailsBy, MayFail, TellsFull, behind_call, came_by, event_in, has_room, spelled}
use Rattle.ckr_desk.specs.Calls.{HasDone, IsLeftByCall, IsSettledBehind, NotDone, with_event}
use Rattle.ckr_desk.specs.Soundness.{HasKept, IsTrusted, KeepsWithin, state_of}
use Rattle.ckr_desk.specs.State.{DeskView, need_of}
use Rattle.ckr_desk.specs.NoChange.{StaysBy}
use Rattle.ckr_desk.specs.Submit.{call_by, entered, is_held_run, is_queued, job_number, purge_call, release_call, submit_call}

-- ---- of each answer

pub if-err : {T E : Type 0} {P Q : E → Type 0} → ((error : E) → P error → Q error) → (result : Result T E) → IfErr result P → IfErr result Q
if-err of (Ok x) is = tt
if-err of (Err error) is = of error is

pub if-err-both : {T E : Type 0} {A B C : E → Type 0} → ((error : E) → A error → B error → C error) → (result : Result T E) → IfErr result A → IfErr result B → IfErr result C
if-err-both of (Ok x) is also = tt
if-err-both of (Err error) is also = of error is also

pub on-ok : {T E : Type 0} {P Q : Type 0} → (P → Q) → (result : Result T E) → OnOk result P → OnOk result Q
on-ok of (Ok x) is = of is
on-ok of (Err error) is = tt

pub on-ok-both : {T E : Type 0} {P Q R : Type 0} → (P → Q → R) → (result : Result T E) → OnOk result P → OnOk result Q → OnOk result R
on-ok-both of (Ok x) is also = of is also
on-ok-both of (Err error) is also = tt

pub on-ok-all : {T E : Type 0} {A B C P R : Type 0} → (A → B → C → P → R) → (result : Result T E) → OnOk result A → OnOk result B → OnOk result C → OnOk result P → OnOk result R
on-ok-all of (Ok x) a b c d = of a b c d
on-ok-all of (Err error) a b c d = tt

-- ---- on any disk

held-is : (state : RunState) → (state_number state == 3) ≡ true → state ≡ Held
held-is Held e = refl
held-is Queued e = absurd (false≢true e)
held-is On e = absurd (false≢true e)
held-is ReleasedRun e = absurd (false≢true e)
held-is Ended e = absurd (false≢true e)
held-is Denied e = absurd (false≢true e)
held-is PurgedRun e = absurd (false≢true e)

module _ {D : Type 0} (faults : D → ℕ) (old new : DeskView D) where
  pub call-may-fail : (call : Option Decked) (error : DeskError) → NotDone faults call old new error → MayFail (faults old.store.disk) (faults new.store.disk) old.store.fault error
  call-may-fail None NoMemory not = tt
  call-may-fail None DiskFault not = absurd not
  call-may-fail None (BookFull need room) not = tt
  call-may-fail None (Stopped fault) not = not.0
  call-may-fail (Some call) NoMemory not = tt
  call-may-fail (Some call) DiskFault not = not.0.0
  call-may-fail (Some call) (BookFull need room) not = tt
  call-may-fail (Some call) (Stopped fault) not = not.0

  pub call-stays : (content : D → List ℕ) (may_leave : D → List ℕ → Type 0) (call : Option Decked) (error : DeskError) → NotDone faults call old new error → StaysBy content may_leave faults old new error
  call-stays content may_leave None NoMemory not = same-unchanged content may_leave old new not.jobs not.store
  call-stays content may_leave None DiskFault not = absurd not
  call-stays content may_leave None (BookFull need room) not = absurd not
  call-stays content may_leave None (Stopped fault) not = same-unchanged content may_leave old new not.1.jobs not.1.store
  call-stays content may_leave (Some call) NoMemory not = same-unchanged content may_leave old new not.jobs not.store
  call-stays content may_leave (Some call) DiskFault not = ap (λ (s : StoreView D). s.fault) not.0.1
  call-stays content may_leave (Some call) (BookFull need room) not = same-unchanged content may_leave old new not.3.jobs not.3.store
  call-stays content may_leave (Some call) (Stopped fault) not = same-unchanged content may_leave old new not.1.jobs not.1.store

  pub call-full : (call : Option Decked) (error : DeskError) → NotDone faults call old new error → TellsFull (room_of old.store.book) (event_in call) error
  call-full None NoMemory not = tt
  call-full None DiskFault not = tt
  call-full None (BookFull need room) not = not
  call-full None (Stopped fault) not = tt
  call-full (Some call) NoMemory not = tt
  call-full (Some call) DiskFault not = tt
  call-full (Some call) (BookFull need room) not = (not.0, not.1, not.2)
  call-full (Some call) (Stopped fault) not = tt

  pub call-open : (call : Option Decked) → HasDone call old new → old.store.fault ≡ None → new.store.fault ≡ None
  call-open None done is_open = ap (λ (s : DeskView D). s.store.fault) done ∙ is_open
  call-open (Some call) done is_open = done.is_open ∙ is_open

-- the events behind the call
pub call-told : (before after : List (List ℕ)) (call : Option Decked) → after ≡ with_event before call → after ≡ before ++ spelled (event_in call)
call-told before after None is = is ∙ sym (append-nil before)
call-told before after (Some call) is = is

-- ---- on a trusted disk

module _ {D : Type 0} (told : Type 0) (content : D → List ℕ) (may_leave : D → List ℕ → Type 0) (size : D → ℕ)
    (old : DeskView D) (trusted : IsTrusted told content may_leave old) where
  abbrev layout : Layout
  layout = old.store.layout

  abbrev before : List (List ℕ)
  before = event_records old.store.layout (content old.store.disk)

  -- what is to be known of the event of the call
  abbrev pub IsCalledSo : Option Decked → Type 0
  IsCalledSo None = Unit {0}
  IsCalledSo (Some call) = IsCalled told content may_leave size old trusted call.0 call.1

  pub call-cause : (faults : D → ℕ) (new : DeskView D) (call : Option Decked) → IsCalledSo call → (error : DeskError) → NotDone faults call old new error → FailsBy (room_of old.store.book) (event_in call) error
  call-cause faults new None its NoMemory not = tt
  call-cause faults new None its DiskFault not = tt
  call-cause faults new None its (BookFull need room) not = absurd not
  call-cause faults new None its (Stopped fault) not = tt
  call-cause faults new (Some call) its NoMemory not = tt
  call-cause faults new (Some call) its DiskFault not = tt
  call-cause faults new (Some call) its (BookFull need room) not = (not.0, not.1, not.2)
  call-cause faults new (Some call) its (Stopped fault) not = tt

  module _ (new : DeskView D) (same : new.store.layout ≡ old.store.layout) where
    pub call-fits : (call : Option Decked) → IsCalledSo call → HasDone call old new → has_room (room_of old.store.book) (event_in call) ≡ true
    call-fits None its done = refl
    call-fits (Some call) its done = le-leb (need_of call.0) (room_of old.store.book) done.fits

    pub call-state : (call : Option Decked) → IsCalledSo call → HasDone call old new
        → event_records layout (content new.store.disk) ≡ with_event before call
        → HasSameRecords layout (content old.store.disk) (content new.store.disk) → IsSettledBehind content may_leave (event_in call) new
        → state_of content new ≡ behind_call (state_of content old) call
    unfolding behind_call
    call-state None its done events records settled = ap (state_of content) done
    call-state (Some call) its done events records settled = called-state told content may_leave size old trusted call.0 call.1 its new same done events records settled

    module _ (moment : D → ℕ) (left_since : D → ℕ → List ℕ → Type 0)
        (counts : (t : ℕ) (image : List ℕ) → t ≤ moment new.store.disk → may_leave new.store.disk image → left_since new.store.disk t image)
        (long : (image : List ℕ) → may_leave new.store.disk image → length image ≡ size old.store.disk) where
      trusted-by : (call : Option Decked) → IsCalledSo call → EachSince moment left_since old.store.disk new.store.disk (IsLeftByCall content may_leave size call old) → HasDone call old new
          → event_records layout (content new.store.disk) ≡ with_event before call
          → HasSameRecords layout (content old.store.disk) (content new.store.disk) → IsSettledBehind content may_leave (event_in call) new
          → IsTrusted told content may_leave new
      trusted-by None its left done events records settled = subst (IsTrusted told content may_leave) (sym done) trusted
      trusted-by (Some call) its left done events records settled =
          called-trusted told content may_leave size old trusted call.0 call.1 its new same done events records settled
          (kept-opens told content may_leave moment left_since size call.0 call.1 old new left counts long events settled)

      pub call-trusted : {T : Type 0} (call : Option Decked) → IsCalledSo call
          → (old.store.fault ≡ None → EachSince moment left_since old.store.disk new.store.disk (IsLeftByCall content may_leave size call old))
          → (result : Result T DeskError) → OnOk result (old.store.fault ≡ None) → OnOk result (HasDone call old new)
          → OnOk result (event_records layout (content new.store.disk) ≡ with_event before call)
          → OnOk result (HasSameRecords layout (content old.store.disk) (content new.store.disk)) → OnOk result (IsSettledBehind content may_leave (event_in call) new)
          → OnOk result (IsTrusted told content may_leave new)
      call-trusted call its left (Ok x) is_open done events records settled = trusted-by call its (left is_open) done events records settled
      call-trusted call its left (Err error) is_open done events records settled = tt

  module _ (moment : D → ℕ) (left_since : D → ℕ → List ℕ → Type 0) (sound : IsSound content may_leave size old.store) (is_open : old.store.fault ≡ None) where
    -- an image of before
    pub kept-now : (image : List ℕ) → may_leave old.store.disk image → HasKept layout (size old.store.disk) before [] image
    kept-now image may = kept-left told content may_leave size old trusted [] image (opens-so told content may_leave moment left_since size old sound is_open image may) may

    image-kept : (call : Option Decked) → IsCalledSo call → (image : List ℕ) → IsLeftByCall content may_leave size call old image → HasKept layout (size old.store.disk) before (spelled (event_in call)) image
    image-kept None its image left = kept-now image left
    image-kept (Some call) its image left = called-kept told content may_leave size old trusted call.0 call.1 its image left

    pub call-kept : (new : DeskView D) (call : Option Decked) → IsCalledSo call → EachSince moment left_since old.store.disk new.store.disk (IsLeftByCall content may_leave size call old)
        → KeepsWithin content moment left_since size old new (spelled (event_in call))
    call-kept new call its left =
        in_other_words moment left_since old.store.disk new.store.disk (IsLeftByCall content may_leave size call old) (HasKept layout (size old.store.disk) before (spelled (event_in call))) left (image-kept call its)

    -- nothing was done
    none-kept : ((image : List ℕ) → left_since old.store.disk (moment old.store.disk) image → may_leave old.store.disk image) → KeepsWithin content moment left_since size old old []
    none-kept only = started moment left_since old.store.disk (HasKept layout (size old.store.disk) before []) (λ image left. kept-now image (only image left))

    -- by what was answered: want of memory and a full book leave the disk as it was
    pub call-kept-by : {T : Type 0} (faults : D → ℕ) (new : DeskView D) (call : Option Decked) (result : Result T DeskError) → IsCalledSo call
        → ((image : List ℕ) → left_since old.store.disk (moment old.store.disk) image → may_leave old.store.disk image)
        → EachSince moment left_since old.store.disk new.store.disk (IsLeftByCall content may_leave size call old) → IfErr result (NotDone faults call old new)
        → KeepsWithin content moment left_since size old new (came_by result (spelled (event_in call)))
    call-kept-by faults new call result its only left not = by result not
      where
        same-store : new.store ≡ old.store → KeepsWithin content moment left_since size old new []
        same-store same = subst (λ (s : StoreView D). EachSince moment left_since old.store.disk s.disk (HasKept layout (size old.store.disk) before [])) (sym same) (none-kept only)

        memory : (c : Option Decked) → NotDone faults c old new NoMemory → new.store ≡ old.store
        memory None not = not.store
        memory (Some decked) not = not.store

        full : (c : Option Decked) (need room : ℕ) → NotDone faults c old new (BookFull need room) → new.store ≡ old.store
        full None need room not = absurd not
        full (Some decked) need room not = not.3.store

        by : {T : Type 0} (r : Result T DeskError) → IfErr r (NotDone faults call old new) → KeepsWithin content moment left_since size old new (came_by r (spelled (event_in call)))
        by (Ok x) not = call-kept new call its left
        by (Err NoMemory) not = same-store (memory call not)
        by (Err DiskFault) not = call-kept new call its left
        by (Err (BookFull need room)) not = same-store (full call need room not)
        by (Err (Stopped fault)) not = call-kept new call its left

    pub reading-kept : (new : DeskView D) → EachSince moment left_since old.store.disk new.store.disk (may_leave old.store.disk) → KeepsWithin content moment left_since size old new []
    reading-kept new reads = in_other_words moment left_since old.store.disk new.store.disk (may_leave old.store.disk) (HasKept layout (size old.store.disk) before []) reads kept-now

  -- ---- a deck that is submitted

  module _ (cards : List ℕ) (some : 81 ≤ length cards) where
    numbered : (deck : Job) → submission_of cards ≡ Accepted deck → (few : Bool) → nat_le (suc (length old.jobs.tables.desk.runs)) 9999999 ≡ few
        → IsCalledSo (entered cards deck (cond few (Some (suc (length old.jobs.tables.desk.runs))) None))
    numbered deck is false digits = tt
    numbered deck is true digits =
        let its = accepted-deck cards deck is in
        let count = few-accepted cards deck is in
        let long = kept_long cards in
        let number : suc (length old.jobs.tables.desk.runs) ≤ 9999999 = nat_le-true (suc (length old.jobs.tables.desk.runs)) 9999999 digits in
        let told_so = submitted_spelled (suc (length old.jobs.tables.desk.runs)) (kept_of_stored cards) (length cards / 81) (omega (arith, number)) (omega (arith, some)) long (omega (arith, count)) in
        called-deck told content may_leave size old trusted cards deck some its number told_so.event

    submitted : (submission : Submission) → submission_of cards ≡ submission → IsCalledSo (call_by old.jobs.tables.desk cards submission)
    unfolding job_number
    submitted (Refused number card) is = tt
    submitted (Accepted deck) is = numbered deck is (nat_le (suc (length old.jobs.tables.desk.runs)) 9999999) refl

    pub submit-called : IsCalledSo (submit_call old.jobs.tables.desk cards)
    unfolding submit_call
    submit-called = submitted (submission_of cards) refl

  -- ---- a run that is purged

  purged : (job : ℕ) → IsEvent (Purged job) → (queued : Bool) → is_queued old.jobs.tables.desk job ≡ queued → IsCalledSo (cond queued (Some (Purged job, None)) None)
  purged job is_event false is = tt
  purged job is_event true is =
      tested-run old.jobs.tables.desk job (is_in_state Queued) is
      (λ row at queued. called-purged told content may_leave size old trusted job row at (queued-is row.state queued) is_event)

  pub purge-called : (job : ℕ) → IsEvent (Purged job) → IsCalledSo (purge_call old.jobs.tables.desk job)
  purge-called job is_event = purged job is_event (is_queued old.jobs.tables.desk job) refl

  -- ---- a run that is released

  released : (job : ℕ) → IsEvent (Released job) → (held : Bool) → is_held_run old.jobs.tables.desk job ≡ held → IsCalledSo (cond held (Some (Released job, None)) None)
  released job is_event false is = tt
  released job is_event true is =
      tested-run old.jobs.tables.desk job (is_in_state Held) is
      (λ row at held. called-released told content may_leave size old trusted job row at (held-is row.state held) is_event)

  pub release-called : (job : ℕ) → IsEvent (Released job) → IsCalledSo (release_call old.jobs.tables.desk job)
  release-called job is_event = released job is_event (is_held_run old.jobs.tables.desk job) refl
