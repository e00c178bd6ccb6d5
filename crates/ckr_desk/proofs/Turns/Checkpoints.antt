-- A turn that passes a checkpoint, for which no entry is written, from the desk as it stood.
use Rattle.std.proofs.Common.{◌≡◌, ℕ, false, List, refl, ap, sym, ◌∙◌, Ok}
use Rattle.ckr_console.specs.declared.question.Answer.{Answer}
use Rattle.ckr_desk_refines.specs.Memory.View.{JobsView}
use Rattle.ckr_outside.specs.Disk.{EachSince}
use Rattle.ckr_desk_refines.proofs.Units.Checkpoints.{passed-stands}
use Rattle.ckr_desk_refines.specs.Unit.{HasPassed}
use Rattle.ckr_desk_store.specs.State.{StoreView}
use Rattle.ckr_desk_turn.specs.declared.plan.Plan.TheVariants.{Pass}
use Rattle.ckr_points.specs.declared.reply.Reply.{Reply}
use Rattle.ckr_desk_turn.specs.Turns.{MountedTurn, plan_for}
use Rattle.ckr_desk_turn.specs.Desk.{TurnDone, done_by, jobs_of as jobs_of_desk}
use Rattle.ckr_desk.proofs.Turns.Events.{plans-desk, turned}
use Rattle.ckr_desk.proofs.Turns.Resting.{turned-resting}
use Rattle.ckr_desk.specs.Rewrite.{OpensSame}
use Rattle.ckr_desk.specs.Soundness.{state_of}
use Rattle.ckr_desk.specs.State.{DeskView, RoomyDesk}
use Rattle.ckr_desk_turn.specs.MachineRoom.{MachineRoomView}
use Rattle.ckr_desk.specs.Turn.{asks}
use Rattle.ckr_desk.specs.Units.{HasTurned, IsPlanned}

module _ {D : Type 0} (told : Type 0) (content : D → List ℕ) (may_leave : D → List ℕ → Type 0) (moment : D → ℕ) (left_since : D → ℕ → List ℕ → Type 0) (size : D → ℕ)
    (old : DeskView D) (turn : MountedTurn) (answer : Answer) (job : ℕ) (reply : Reply) (jobs : JobsView) (room : MachineRoomView) (passed : HasPassed job old.jobs jobs) (p : IsPlanned told content may_leave old turn (Pass job reply)) where
  abbrev state : RoomyDesk
  state = state_of content old

  at-desk : plan_for state.desk.layout (jobs_of_desk state.desk) turn ≡ Pass job reply
  at-desk = sym (plans-desk told content may_leave size old p.trusted turn p.its) ∙ p.planned

  -- the operator isn't asked
  pub past-asks : asks state turn answer ≡ false
  unfolding asks
  past-asks = ap (λ (done : TurnDone). done.asked) (turned told content may_leave size old p.trusted turn p.its answer (Pass job reply) p.planned)

  -- it is suppressed
  pub turned-past : (store : StoreView D) → store ≡ old.store → EachSince moment left_since old.store.disk old.store.disk (λ image. OpensSame content size old image × may_leave old.store.disk image)
      → HasTurned told content may_leave moment left_since size turn answer old (record { store = store; jobs = jobs; machine_room = room }) (Ok reply)
  turned-past =
      turned-resting told content may_leave moment left_since size old p.trusted turn answer jobs room passed.tables
      (done_by (Pass job reply) state.desk) (turned told content may_leave size old p.trusted turn p.its answer (Pass job reply) p.planned) refl refl
      (passed-stands old.store.layout old.jobs jobs (content old.store.disk) state.desk turn job reply p.trusted.stands at-desk p.its passed) reply refl
