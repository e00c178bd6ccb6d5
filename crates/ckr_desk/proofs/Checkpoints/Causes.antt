-- Why a checkpoint that is due wasn't worked out, and what stays then.
use Rattle.std.proofs.Common.{◌≡◌, ◌<◌, ℕ, Bool, true, false, List, sym, subst, inr, arith, Some}
use Rattle.ckr_base.proofs.Bools.{bool-cases}
use Rattle.ckr_book.specs.Book.{room_of}
use Rattle.ckr_console.specs.declared.question.Answer.{Answer}
use Rattle.ckr_desk_refines.specs.Memory.Plans.{HasDue}
use Rattle.ckr_desk_refines.specs.Memory.View.{RunningStepView, jobs_of}
use Rattle.ckr_desk_refines.proofs.Checkpoints.Turn.{taken-by}
use Rattle.ckr_desk_turn.specs.Checkpoints.{checkpoint_fits, checkpoint_try}
use Rattle.ckr_desk_turn.specs.declared.plan.Plan.TheVariants.{Take}
use Rattle.ckr_desk_turn.specs.Turns.{IsMountedTurnOf, MountedTurn, plan_for}
use Rattle.ckr_desk_turn.specs.Desk.{TurnDone}
use Rattle.ckr_desk_turn.specs.Taken.{taken_of}
use Rattle.ckr_desk.proofs.Checkpoints.Event.{event-turn}
use Rattle.ckr_desk.proofs.Checkpoints.Steps.{its_pair, to-take, turned-take}
use Rattle.ckr_desk.proofs.Turns.Preparation.{same-unchanged}
use Rattle.ckr_desk.specs.Checkpoint.{HasNoRoomFor, NotAttempted}
use Rattle.ckr_desk.specs.declared.error.DeskError.{DeskError}
use Rattle.ckr_desk.specs.declared.error.DeskError.TheVariants.{NoMemory, DiskFault, BookFull, Stopped}
use Rattle.ckr_desk.specs.NoChange.{StaysBy}
use Rattle.ckr_desk.specs.Requests.{FailsBy, IsFull, MayFail, TellsNumbers}
use Rattle.ckr_desk.specs.Soundness.{IsTrusted, office_on, state_of}
use Rattle.ckr_desk.specs.State.{DeskView, RoomyDesk}
use Rattle.ckr_desk.specs.Turn.{asks, event_of_turn, reply_of}
use Rattle.ckr_desk.specs.Units.{IsTried, TakesBy}

-- the numbers of a full book
full-by : {D : Type 0} (run : ℕ) (old : DeskView D) (need left : ℕ) (full : HasNoRoomFor run old need left) → IsFull (room_of old.store.book) (Some full.made.event) need left
full-by run old need left full = (full.needed, full.left, let less : room_of old.store.book < _ = full.full in let is = full.left in let needs = full.needed in omega (arith, less, is, needs))

pub attempt-numbers : {D : Type 0} (run : ℕ) (old new : DeskView D) (error : DeskError) → NotAttempted run old new error → TellsNumbers (room_of old.store.book) error
attempt-numbers run old new NoMemory not = tt
attempt-numbers run old new DiskFault not = tt
attempt-numbers run old new (BookFull need left) not = (not.0.made.event, full-by run old need left not.0)
attempt-numbers run old new (Stopped fault) not = tt

-- nothing has changed
pub attempt-stays : {D : Type 0} (content : D → List ℕ) (may_leave : D → List ℕ → Type 0) (faults : D → ℕ) (run : ℕ) (old new : DeskView D) (error : DeskError) → NotAttempted run old new error
    → StaysBy content may_leave faults old new error × MayFail (faults old.store.disk) (faults new.store.disk) old.store.fault error
attempt-stays content may_leave faults run old new NoMemory not = (same-unchanged content may_leave old new not.jobs not.store, tt)
attempt-stays content may_leave faults run old new DiskFault not = absurd not
attempt-stays content may_leave faults run old new (BookFull need left) not = (same-unchanged content may_leave old new not.1.jobs not.1.store, tt)
attempt-stays content may_leave faults run old new (Stopped fault) not = absurd not

module _ {D : Type 0} (told : Type 0) (content : D → List ℕ) (may_leave : D → List ℕ → Type 0) (moment : D → ℕ) (left_since : D → ℕ → List ℕ → Type 0) (size : D → ℕ)
    (old : DeskView D) (trusted : IsTrusted told content may_leave old) (turn : MountedTurn) (its : IsMountedTurnOf old.store.layout turn) (run : ℕ) (planned : plan_for old.store.layout (jobs_of old.jobs) turn ≡ Take run) (answer : Answer) where
  abbrev state : RoomyDesk
  state = state_of content old

  pub attempt-cause : (new : DeskView D) (error : DeskError) → NotAttempted run old new error → FailsBy state.room (event_of_turn state turn answer) error
  attempt-cause new NoMemory not = tt
  attempt-cause new DiskFault not = absurd not
  attempt-cause new (BookFull need left) not =
      subst (λ e. IsFull state.room e need left) (sym (event-turn told content may_leave moment left_since size old trusted turn its run planned not.0.made not.0.its answer)) (full-by run old need left not.0)
  attempt-cause new (Stopped fault) not = absurd not

  -- the turn tries a checkpoint
  tried : HasDue old.jobs (Take run) → IsTried (reply_of state turn answer)
  unfolding reply_of
  tried due =
      let on : RunningStepView = due.0 in
      let p = its_pair told content may_leave size old trusted turn its run planned on due.1 in
      let by : (fits : Bool) → checkpoint_fits (office_on old.store.layout (content old.store.disk)).tables.sets p.going.row p.going.start p.step.progress ≡ fits
      → IsTried (checkpoint_try fits (office_on old.store.layout (content old.store.disk)).tables p.going.row p.going.start p.step.progress).reply → IsTried (taken_of run state.desk).reply =
      λ fits is holds.
      subst (λ (done : TurnDone). IsTried done.reply)
      (sym (taken-by old.store.layout old.jobs (content old.store.disk) state.desk turn run on (to-take told content may_leave size old trusted turn its run planned on due.1) fits is)) holds in
      subst (λ (done : TurnDone). IsTried done.reply) (sym (turned-take told content may_leave size old trusted turn its run planned answer))
      (bool-cases (checkpoint_fits (office_on old.store.layout (content old.store.disk)).tables.sets p.going.row p.going.start p.step.progress) (λ e. by true e tt) (λ e. by false e tt))

  pub attempt-takes : (new : DeskView D) (error : DeskError) → HasDue old.jobs (Take run) → NotAttempted run old new error → TakesBy (reply_of state turn answer) (event_of_turn state turn answer) (asks state turn answer) error
  attempt-takes new NoMemory due not = inr (inr (tried due))
  attempt-takes new DiskFault due not = absurd not
  attempt-takes new (BookFull need left) due not = tt
  attempt-takes new (Stopped fault) due not = absurd not
