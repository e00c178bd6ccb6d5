-- An answer of the operator that was given stands.
use Rattle.std.proofs.Common.{◌≡◌, ℕ, Bool, List, false, refl, ap, sym, ◌∙◌, subst, Option, None, Some, Result, Ok, Err, IfErr}
use Rattle.std.specs.Option.{option_map_or}
use Rattle.ckr_console.specs.Answering.{Answering, answer_in_office, restart_answer}
use Rattle.ckr_console.specs.declared.question.Answer.{Answer}
use Rattle.ckr_console.specs.declared.question.Question.TheVariants.{Restart}
use Rattle.ckr_events.specs.declared.event.Event.{Event}
use Rattle.ckr_library.specs.NameMaps.{Name}
use Rattle.ckr_desk.specs.declared.error.DeskError.{DeskError}
use Rattle.ckr_desk.specs.declared.error.DeskError.TheVariants.{NoMemory, DiskFault, BookFull, Stopped}
use Rattle.ckr_desk.specs.NoChange.{IsOfDisk}
use Rattle.ckr_desk.specs.Preparation.{NotFit}
use Rattle.ckr_desk.specs.Rewrite.{IsFault}
use Rattle.ckr_desk.proofs.Trust.Sameness.{IsAsBefore, state-same}
use Rattle.ckr_desk.specs.Soundness.{IsTrusted, state_of}
use Rattle.ckr_desk.specs.State.{DeskView, RoomyDesk}
use Rattle.ckr_desk_turn.specs.MachineRoom.{MachineRoomView}
use Rattle.ckr_desk.specs.Turn.{AnswerStands, AnswerStandsBy, asks, room_behind_answer}
use Rattle.ckr_desk_turn.specs.Turns.{IsMountedTurnOf, MountedTurn, plan_for}
use Rattle.ckr_points.specs.declared.reply.Reply.{Reply}
use Rattle.ckr_desk_turn.specs.declared.plan.Plan.TheVariants.{Pass, Take}
use Rattle.ckr_desk_turn.specs.Desk.{DeskModel, TurnDone, progress_of}
use Rattle.ckr_desk_turn.specs.Taken.{taken_of}
use Rattle.ckr_points.specs.Rows.{run_of}
use Rattle.ckr_desk_refines.specs.Memory.View.{jobs_of}
use Rattle.ckr_desk.proofs.Turns.Events.{turned}
use Rattle.ckr_points.specs.Payload.{start_in_office}

-- the answer to a question on a restart is that of the operator in office
pub answer-so : (job : ℕ) (step : Name) (id : Option Name) (operator : Option Answering) → answer_in_office (Restart job step id) operator ≡ restart_answer operator
answer-so job step id None = refl
answer-so job step id (Some operator) = refl

-- where he wasn't asked he stays
pub unasked : (asks : Bool) (old new : MachineRoomView) → asks ≡ false → new ≡ old → new ≡ room_behind_answer asks old
unasked asks old new is same = same ∙ sym (ap (λ b. room_behind_answer b old) is)

module _ {T : Type 0} (asks : Bool) (old new : MachineRoomView) where
  -- it is given, or nothing is said where the disk fails
  pub given-stands : new ≡ room_behind_answer asks old → (result : Result T DeskError) → IfErr result IsOfDisk → AnswerStands asks old new result
  given-stands is (Ok done) of_disk = is
  given-stands is (Err NoMemory) of_disk = absurd of_disk
  given-stands is (Err DiskFault) of_disk = tt
  given-stands is (Err (BookFull need room)) of_disk = absurd of_disk
  given-stands is (Err (Stopped fault)) of_disk = tt

  pub unasked-stands : asks ≡ false → new ≡ old → (result : Result T DeskError) → AnswerStands asks old new result
  unasked-stands is same (Ok done) = unasked asks old new is same
  unasked-stands is same (Err NoMemory) = same
  unasked-stands is same (Err DiskFault) = tt
  unasked-stands is same (Err (BookFull need room)) = unasked asks old new is same
  unasked-stands is same (Err (Stopped fault)) = tt

module _ (asks : Bool) (old new : MachineRoomView) where
  -- where the book is full his answer was given
  pub full-stands : {D : Type 0} (event : Option Event) (mid later : DeskView D) (error : DeskError) → new ≡ room_behind_answer asks old → NotFit event mid later error → AnswerStandsBy asks old new error
  full-stands event mid later NoMemory is not = absurd not
  full-stands event mid later DiskFault is not = tt
  full-stands event mid later (BookFull need room) is not = is
  full-stands event mid later (Stopped fault) is not = tt

  pub fault-stands : (faulted now : ℕ) (error : DeskError) → IsFault faulted now error → AnswerStandsBy asks old new error
  fault-stands faulted now NoMemory not = absurd not
  fault-stands faulted now DiskFault not = tt
  fault-stands faulted now (BookFull need room) not = absurd not
  fault-stands faulted now (Stopped fault) not = absurd not

-- what is the same answer, whether he is asked
pub stands-as : {T : Type 0} (one other : Bool) (old new : MachineRoomView) (result : Result T DeskError) → other ≡ one → AnswerStands one old new result → AnswerStands other old new result
stands-as one other old new result is stands = subst (λ b. AnswerStands b old new result) (sym is) stands

-- where nothing has changed for a turn, the answer to it stands as before
pub stands-before : {D T : Type 0} (told : Type 0) (content : D → List ℕ) (may_leave : D → List ℕ → Type 0) (old mid new : DeskView D) → IsAsBefore told content may_leave old mid → mid.machine_room ≡ old.machine_room → (turn : MountedTurn) (result : Result T DeskError)
    → AnswerStands (asks (state_of content mid) turn (restart_answer mid.machine_room.operator)) mid.machine_room new.machine_room result → AnswerStands (asks (state_of content old) turn (restart_answer old.machine_room.operator)) old.machine_room new.machine_room result
stands-before told content may_leave old mid new is operator turn result stands =
    subst (λ (s : RoomyDesk). AnswerStands (asks s turn (restart_answer old.machine_room.operator)) old.machine_room new.machine_room result) (state-same told content may_leave old mid is)
    (subst (λ (o : MachineRoomView). AnswerStands (asks (state_of content mid) turn (restart_answer o.operator)) o new.machine_room result) operator stands)

-- ---- no checkpoint asks him

either-quiet : {X : Type 0} (o : Option X) (f : X → TurnDone) (none : TurnDone) → none.asked ≡ false → ((x : X) → (f x).asked ≡ false) → (option_map_or f o none).asked ≡ false
either-quiet None f none first second = first
either-quiet (Some x) f none first second = second x

taken-quiet : (run : ℕ) (desk : DeskModel) → (taken_of run desk).asked ≡ false
taken-quiet run desk =
    either-quiet (run_of desk.office.tables run) _ _ refl
    (λ row. either-quiet (start_in_office desk.office row) _ _ refl (λ start. either-quiet (progress_of desk run) _ _ refl (λ progress. refl)))

module _ {D : Type 0} (told : Type 0) (content : D → List ℕ) (may_leave : D → List ℕ → Type 0) (size : D → ℕ)
    (old : DeskView D) (trusted : IsTrusted told content may_leave old) (turn : MountedTurn) (its : IsMountedTurnOf old.store.layout turn) (answer : Answer) where
  pub pass-quiet : (job : ℕ) (reply : Reply) → plan_for old.store.layout (jobs_of old.jobs) turn ≡ Pass job reply → asks (state_of content old) turn answer ≡ false
  unfolding asks
  pass-quiet job reply planned = ap (λ (done : TurnDone). done.asked) (turned told content may_leave size old trusted turn its answer (Pass job reply) planned)

  pub take-quiet : (run : ℕ) → plan_for old.store.layout (jobs_of old.jobs) turn ≡ Take run → asks (state_of content old) turn answer ≡ false
  unfolding asks
  take-quiet run planned = ap (λ (done : TurnDone). done.asked) (turned told content may_leave size old trusted turn its answer (Take run) planned) ∙ taken-quiet run (state_of content old).desk
