-- What a turn has done that takes a checkpoint, or why it wasn't taken.
use Rattle.std.proofs.Common.{◌≡◌, ◌≤◌, ◌++◌, ℕ, List, [], ◌∷◌, length, None, Ok, Err}
use Rattle.ckr_console.specs.declared.question.Answer.{Answer}
use Rattle.ckr_events.specs.Event.{spelling}
use Rattle.ckr_desk_refines.specs.Memory.Checkpoint.{Checkpoint}
use Rattle.ckr_desk_refines.specs.Memory.View.{jobs_of}
use Rattle.ckr_outside.specs.Disk.{EachSince, Only}
use Rattle.ckr_outside.specs.Moments.{in_other_words}
use Rattle.ckr_desk_refines.specs.Moves.{HasSameRecords}
use Rattle.ckr_desk_store.specs.OpenImages.{event_records}
use Rattle.ckr_desk_turn.specs.declared.plan.Plan.TheVariants.{Take}
use Rattle.ckr_points.specs.declared.reply.Reply.{Reply}
use Rattle.ckr_desk_turn.specs.Turns.{IsMountedTurnOf, MountedTurn, plan_for}
use Rattle.ckr_desk.proofs.Calls.Stops.{kept-opens}
use Rattle.ckr_desk.proofs.Checkpoints.Entry.{entry-kept}
use Rattle.ckr_desk.proofs.Checkpoints.Event.{taken-events, taken-fits, taken-kept-within, taken-state, taken-trusted}
use Rattle.ckr_desk.specs.Calls.{HasGoneOn, IsLeftBy, NotEntered}
use Rattle.ckr_desk.specs.Checkpoint.{HasWrittenEntry, IsLeftByEntry, IsMade}
use Rattle.ckr_desk.specs.declared.error.DeskError.{DeskError}
use Rattle.ckr_desk.specs.declared.error.DeskError.TheVariants.{NoMemory, DiskFault, BookFull, Stopped}
use Rattle.ckr_desk.specs.Requests.{spelled}
use Rattle.ckr_desk.specs.Rewrite.{IsFault}
use Rattle.ckr_desk.specs.Soundness.{HasKept, IsTrusted, state_of}
use Rattle.ckr_desk.specs.State.{DeskView, RoomyDesk}
use Rattle.ckr_desk.specs.Turn.{event_of_turn, reply_of}
use Rattle.ckr_desk.specs.Units.{HasTurned}

module _ {D : Type 0} (told : Type 0) (content : D → List ℕ) (may_leave : D → List ℕ → Type 0) (moment : D → ℕ) (left_since : D → ℕ → List ℕ → Type 0) (size : D → ℕ)
    (old : DeskView D) (trusted : IsTrusted told content may_leave old) (turn : MountedTurn) (its : IsMountedTurnOf old.store.layout turn) (run : ℕ) (planned : plan_for old.store.layout (jobs_of old.jobs) turn ≡ Take run)
    (made : Checkpoint) (is : IsMade run old made) (answer : Answer) where
  abbrev state : RoomyDesk
  state = state_of content old

  -- the entry wasn't written
  pub unwritten-turned : (new : DeskView D) (faulted now : ℕ) (error : DeskError) → IsFault faulted now error → EachSince moment left_since old.store.disk new.store.disk (IsLeftByEntry content may_leave size made old)
      → HasTurned told content may_leave moment left_since size turn answer old new (Err error)
  unwritten-turned new faulted now NoMemory not left = absurd not
  unwritten-turned new faulted now DiskFault not left = record {
    reply = tt;
    fits = tt;
    after = tt;
    events = tt;
    trusted = tt;
    cause = tt;
    takes = tt;
    kept = in_other_words moment left_since old.store.disk new.store.disk (IsLeftByEntry content may_leave size made old)
        (HasKept old.store.layout (size old.store.disk) (event_records old.store.layout (content old.store.disk)) (spelled (event_of_turn state turn answer))) left
        (entry-kept told content may_leave moment left_since size old trusted turn its run planned made is (spelled (event_of_turn state turn answer)));
  }
  unwritten-turned new faulted now (BookFull need room) not left = absurd not
  unwritten-turned new faulted now (Stopped fault) not left = absurd not

  module _ (mid : DeskView D) (wrote : HasWrittenEntry told content may_leave moment left_since made old mid) (sized : size mid.store.disk ≡ size old.store.disk)
      (first : EachSince moment left_since old.store.disk mid.store.disk (IsLeftByEntry content may_leave size made old)) (new : DeskView D)
      (second : EachSince moment left_since mid.store.disk new.store.disk (IsLeftBy content may_leave size made.event None mid)) where
    -- its event wasn't kept
    pub untold-turned : (faults : D → ℕ) (error : DeskError) → NotEntered faults mid new error → HasTurned told content may_leave moment left_since size turn answer old new (Err error)
    untold-turned faults NoMemory not = absurd not
    untold-turned faults DiskFault not = record {
      reply = tt;
      fits = tt;
      after = tt;
      events = tt;
      trusted = tt;
      cause = tt;
      takes = tt;
      kept = taken-kept-within told content may_leave moment left_since size old trusted turn its run planned made is answer mid wrote sized new first second;
    }
    untold-turned faults (BookFull need room) not = absurd not
    untold-turned faults (Stopped fault) not = absurd not

    -- it was
    pub taken-turned : ((t : ℕ) (image : List ℕ) → t ≤ moment new.store.disk → may_leave new.store.disk image → left_since new.store.disk t image)
        → ((image : List ℕ) → may_leave new.store.disk image → length image ≡ size mid.store.disk)
        → (reply : Reply) → reply ≡ reply_of state turn answer → HasGoneOn made.event None mid new
        → event_records mid.store.layout (content new.store.disk) ≡ event_records mid.store.layout (content mid.store.disk) ++ spelling made.event ∷ []
        → HasSameRecords mid.store.layout (content mid.store.disk) (content new.store.disk) → Only (content new.store.disk) (may_leave new.store.disk)
        → HasTurned told content may_leave moment left_since size turn answer old new (Ok reply)
    taken-turned counts long reply its_reply gone events records settled = record {
      reply = its_reply;
      fits = taken-fits told content may_leave moment left_since size old trusted turn its run planned made is answer mid wrote new gone events records settled;
      after = taken-state told content may_leave moment left_since size old trusted turn its run planned made is answer mid wrote new gone events records settled;
      events = taken-events told content may_leave moment left_since size old trusted turn its run planned made is answer mid wrote new gone events records settled;
      trusted = taken-trusted told content may_leave moment left_since size old trusted turn its run planned made is answer mid wrote new gone events records settled
          (kept-opens told content may_leave moment left_since size made.event None mid new second counts long events settled);
      cause = tt;
      takes = tt;
      kept = taken-kept-within told content may_leave moment left_since size old trusted turn its run planned made is answer mid wrote sized new first second;
    }
