-- A turn that begins where the disk was only read, and the jobs took memory, from the desk as it stood.
use Rattle.std.proofs.Common.{◌≡◌, ◌++◌, ℕ, List, true, find, refl, ap, sym, ◌∙◌, subst, Result, Ok, Err, IfErr, IfOk, OnOk, map}
use Rattle.ckr_book.specs.Book.{room_of}
use Rattle.ckr_console.specs.declared.question.Answer.{Answer}
use Rattle.ckr_desk_refines.specs.Memory.EventChanges.{is_point_of}
use Rattle.ckr_desk_refines.specs.Memory.View.{JobsView, RunningStepView, jobs_of, running_of}
use Rattle.ckr_desk_turn.specs.declared.failed_run.FailedRun.{FailedRun}
use Rattle.ckr_outside.specs.Disk.{EachSince, OnlyReads}
use Rattle.ckr_outside.specs.Moments.{and_then, in_other_words}
use Rattle.ckr_points.specs.Follows.{is_in_state, of_run}
use Rattle.ckr_points.specs.Rows.{TablesModel}
use Rattle.ckr_points.specs.declared.run.RunState.TheVariants.{Queued}
use Rattle.ckr_desk_store.specs.OpenImages.{event_records}
use Rattle.ckr_desk_store.specs.State.{StoreView}
use Rattle.ckr_desk_turn.specs.declared.plan.Plan.{Plan}
use Rattle.ckr_points.specs.declared.reply.Reply.{Reply}
use Rattle.ckr_desk_turn.specs.Turns.{IsMountedTurnOf, MountedTurn, plan_for}
use Rattle.ckr_desk_turn.specs.Jobs.{TurnJobs}
use Rattle.ckr_volumes.specs.declared.layout.Layout.{Layout}
use Rattle.ckr_desk.proofs.Images.Soundness.{kept-left}
use Rattle.ckr_desk.proofs.Trust.Sameness.{IsAsBefore, state-same, trusted-same}
use Rattle.ckr_desk.specs.Requests.{FailsBy, came_by, spelled}
use Rattle.ckr_desk.specs.Calls.{HasSameJobs}
use Rattle.ckr_desk.specs.declared.error.DeskError.{DeskError}
use Rattle.ckr_desk.specs.declared.error.DeskError.TheVariants.{NoMemory, DiskFault, BookFull, Stopped}
use Rattle.ckr_desk.specs.Rewrite.{OpensSame}
use Rattle.ckr_desk.specs.Soundness.{HasKept, IsTrusted, KeepsWithin, state_of}
use Rattle.ckr_desk.specs.State.{DeskView, RoomyDesk}
use Rattle.ckr_desk.specs.NoChange.{HaveStayed, IsOfDisk, IsUnchanged}
use Rattle.ckr_desk.specs.Turn.{asks, behind_turn, event_of_turn, reply_of, turn_fits}
use Rattle.ckr_desk.specs.Units.{HasTurned, IsPlanned, TakesBy}

-- a turn sees the same of the jobs
jobs-same : (old new : JobsView) → HaveStayed old new → jobs_of new ≡ jobs_of old
unfolding jobs_of
jobs-same old new same =
    ap (λ tables. jobs_with tables new.running new.failed) same.tables
    ∙ ap (λ running. jobs_with old.tables.desk running new.failed) same.running
    ∙ ap (jobs_with old.tables.desk old.running) same.failed
  where
    jobs_with : TablesModel → List RunningStepView → List FailedRun → TurnJobs
    jobs_with tables running failed = record { tables = tables; running = map (running_of tables) running; failed = failed }

pub seen-alike : {D : Type 0} (old new : DeskView D) → HasSameJobs old new → HaveStayed old.jobs new.jobs
seen-alike old new same = record { tables = same.tables; running = same.running; failed = same.failed; points = λ run off. ap (find (is_point_of run)) same.points }

-- one after the other
pub twice-stayed : (old mid new : JobsView) → HaveStayed old mid → HaveStayed mid new → HaveStayed old new
twice-stayed old mid new one two = record {
  tables = two.tables ∙ one.tables;
  running = two.running ∙ one.running;
  failed = two.failed ∙ one.failed;
  points = λ run off. two.points run (ap (λ (t : TablesModel). of_run t run (is_in_state Queued)) one.tables ∙ off) ∙ one.points run off;
}

-- ---- what is the same, and what is unchanged

module _ {D : Type 0} (content : D → List ℕ) (may_leave : D → List ℕ → Type 0) (old new : DeskView D) where
  -- where the disk isn't called
  pub same-unchanged : HasSameJobs old new → new.store ≡ old.store → IsUnchanged content may_leave old new
  same-unchanged jobs store = record {
    jobs = seen-alike old new jobs;
    store = store ∙ ap (λ (s : StoreView D). let its : StoreView D = record old.store { disk = s.disk } in its) (sym store);
    reads = ap (λ (s : StoreView D). content s.disk) store;
    none_new = λ image may. subst (λ (s : StoreView D). may_leave s.disk image) store may;
  }

  -- where it is only read
  pub read-unchanged : (moment : D → ℕ) (left_since : D → ℕ → List ℕ → Type 0) → HasSameJobs old new → new.store ≡ record old.store { disk = new.store.disk }
      → OnlyReads content may_leave moment left_since old.store.disk new.store.disk → IsUnchanged content may_leave old new
  read-unchanged moment left_since jobs store reads = record { jobs = seen-alike old new jobs; store = store; reads = reads.same; none_new = reads.none_new }

  pub as-before : (told : Type 0) → IsUnchanged content may_leave old new → IsAsBefore told content may_leave old new
  as-before told is = record {
    jobs = is.jobs;
    layout = ap (λ (s : StoreView D). s.layout) is.store;
    room = ap (λ (s : StoreView D). room_of s.book) is.store;
    reads = is.reads;
    none_new = is.none_new;
  }

-- nothing was done
pub nothing-changed : {D : Type 0} (content : D → List ℕ) (may_leave : D → List ℕ → Type 0) (desk : DeskView D) → IsUnchanged content may_leave desk desk
nothing-changed content may_leave desk = record { jobs = record { tables = refl; running = refl; failed = refl; points = λ run off. refl }; store = refl; reads = refl; none_new = λ image may. may }

-- one after the other
pub twice-unchanged : {D : Type 0} (content : D → List ℕ) (may_leave : D → List ℕ → Type 0) (old mid new : DeskView D) → IsUnchanged content may_leave old mid → IsUnchanged content may_leave mid new → IsUnchanged content may_leave old new
twice-unchanged {D} content may_leave old mid new one two = record {
  jobs = twice-stayed old.jobs mid.jobs new.jobs one.jobs two.jobs;
  store = two.store ∙ ap (λ (s : StoreView D). let its : StoreView D = record s { disk = new.store.disk } in its) one.store;
  reads = two.reads ∙ one.reads;
  none_new = λ image may. one.none_new image (two.none_new image may);
}

-- ---- a turn

module _ {D : Type 0} (told : Type 0) (content : D → List ℕ) (may_leave : D → List ℕ → Type 0) (moment : D → ℕ) (left_since : D → ℕ → List ℕ → Type 0) (size : D → ℕ)
    (old mid : DeskView D) (is : IsAsBefore told content may_leave old mid) (sized : size mid.store.disk ≡ size old.store.disk)
    (since : EachSince moment left_since old.store.disk mid.store.disk (λ image. OpensSame content size old image × may_leave old.store.disk image)) where
  -- a turn comes to the same
  pub planned-before : (turn : MountedTurn) (plan : Plan) → IsPlanned told content may_leave old turn plan → IsPlanned told content may_leave mid turn plan
  planned-before turn plan p = record {
    trusted = trusted-same told content may_leave old mid is p.trusted;
    its = subst (λ (l : Layout). IsMountedTurnOf l turn) (sym is.layout) p.its;
    planned = ap (λ (l : Layout). plan_for l (jobs_of mid.jobs) turn) is.layout ∙ ap (λ jobs. plan_for old.store.layout jobs turn) (jobs-same old.jobs mid.jobs is.jobs) ∙ p.planned;
  }

  module _ (turn : MountedTurn) (answer : Answer) (trusted : IsTrusted told content may_leave old) where
    abbrev before : List (List ℕ)
    before = event_records old.store.layout (content old.store.disk)

    abbrev came : List (List ℕ)
    came = spelled (event_of_turn (state_of content old) turn answer)

    same : state_of content mid ≡ state_of content old
    same = state-same told content may_leave old mid is

    read-kept : (its : List (List ℕ)) (image : List ℕ) → OpensSame content size old image × may_leave old.store.disk image → HasKept old.store.layout (size old.store.disk) before its image
    read-kept its image left = kept-left told content may_leave size old trusted its image left.0 left.1

    later-kept : (result : Result Reply DeskError) (image : List ℕ)
        → HasKept mid.store.layout (size mid.store.disk) (event_records mid.store.layout (content mid.store.disk)) (came_by result (spelled (event_of_turn (state_of content mid) turn answer))) image
        → HasKept old.store.layout (size old.store.disk) before (came_by result came) image
    later-kept result image kept =
        subst (λ (s : RoomyDesk). HasKept old.store.layout (size old.store.disk) before (came_by result (spelled (event_of_turn s turn answer))) image) same
        (subst (λ (bytes : List ℕ). HasKept old.store.layout (size old.store.disk) (event_records old.store.layout bytes) (came_by result (spelled (event_of_turn (state_of content mid) turn answer))) image) is.reads
        (subst (λ (n : ℕ). HasKept old.store.layout n (event_records old.store.layout (content mid.store.disk)) (came_by result (spelled (event_of_turn (state_of content mid) turn answer))) image) sized
        (subst (λ (l : Layout). HasKept l (size mid.store.disk) (event_records l (content mid.store.disk)) (came_by result (spelled (event_of_turn (state_of content mid) turn answer))) image) is.layout kept)))

    -- it was done then
    pub turned-before : (new : DeskView D) (result : Result Reply DeskError) → HasTurned told content may_leave moment left_since size turn answer mid new result → HasTurned told content may_leave moment left_since size turn answer old new result
    turned-before new result done = record {
      reply = subst (λ (s : RoomyDesk). IfOk result (λ reply. reply ≡ reply_of s turn answer)) same done.reply;
      fits = subst (λ (s : RoomyDesk). OnOk result (turn_fits s turn answer ≡ true)) same done.fits;
      after = subst (λ (s : RoomyDesk). OnOk result (state_of content new ≡ behind_turn s turn answer)) same done.after;
      trusted = done.trusted;
      events = subst (λ (s : RoomyDesk). OnOk result (event_records old.store.layout (content new.store.disk) ≡ before ++ spelled (event_of_turn s turn answer))) same
          (subst (λ (bytes : List ℕ). OnOk result (event_records old.store.layout (content new.store.disk) ≡ event_records old.store.layout bytes ++ spelled (event_of_turn (state_of content mid) turn answer))) is.reads
          (subst (λ (l : Layout). OnOk result (event_records l (content new.store.disk) ≡ event_records l (content mid.store.disk) ++ spelled (event_of_turn (state_of content mid) turn answer))) is.layout done.events));
      cause = subst (λ (s : RoomyDesk). IfErr result (FailsBy s.room (event_of_turn s turn answer))) same done.cause;
      takes = subst (λ (s : RoomyDesk). IfErr result (TakesBy (reply_of s turn answer) (event_of_turn s turn answer) (asks s turn answer))) same done.takes;
      kept = and_then moment left_since old.store.disk mid.store.disk new.store.disk (λ image. OpensSame content size old image × may_leave old.store.disk image)
          (HasKept mid.store.layout (size mid.store.disk) (event_records mid.store.layout (content mid.store.disk)) (came_by result (spelled (event_of_turn (state_of content mid) turn answer))))
          (HasKept old.store.layout (size old.store.disk) before (came_by result came)) since done.kept (read-kept (came_by result came)) (later-kept result);
    }

    abbrev its_came : DeskError → List (List ℕ)
    its_came error = came_by {T = Reply} (Err error) came

    -- it wasn't
    pub turned-not : (error : DeskError) → FailsBy (state_of content old).room (event_of_turn (state_of content old) turn answer) error → TakesBy (reply_of (state_of content old) turn answer) (event_of_turn (state_of content old) turn answer) (asks (state_of content old) turn answer) error
        → HasTurned told content may_leave moment left_since size turn answer old mid (Err error)
    turned-not error cause takes = record {
      reply = tt;
      fits = tt;
      after = tt;
      events = tt;
      trusted = tt;
      cause = cause;
      takes = takes;
      kept = in_other_words moment left_since old.store.disk mid.store.disk (λ image. OpensSame content size old image × may_leave old.store.disk image)
          (HasKept old.store.layout (size old.store.disk) before (its_came error)) since (read-kept (its_came error));
    }

-- ---- what came, where only the disk failed
pub came-of-disk : {D T : Type 0} (content : D → List ℕ) (moment : D → ℕ) (left_since : D → ℕ → List ℕ → Type 0) (size : D → ℕ) (old new : DeskView D) (its : List (List ℕ))
    (result : Result T DeskError) → IfErr result IsOfDisk → KeepsWithin content moment left_since size old new its → KeepsWithin content moment left_since size old new (came_by result its)
came-of-disk content moment left_since size old new its (Ok x) is kept = kept
came-of-disk content moment left_since size old new its (Err NoMemory) is kept = absurd is
came-of-disk content moment left_since size old new its (Err DiskFault) is kept = kept
came-of-disk content moment left_since size old new its (Err (BookFull need room)) is kept = absurd is
came-of-disk content moment left_since size old new its (Err (Stopped fault)) is kept = absurd is
