-- A turn whose checkpoint doesn't fit, on a trusted disk: nothing is written, and the step goes on.
use Rattle.std.proofs.Common.{◌≡◌, ◌&&◌, ℕ, Bool, true, false, List, refl, ap, sym, ◌∙◌, None, Some, Ok}
use Rattle.std.specs.Prelude.{if◌then◌else◌}
use Rattle.std.specs.Option.{is_some}
use Rattle.std.proofs.lemmas.Bool.{true≢false}
use Rattle.ckr_console.specs.declared.question.Answer.{Answer}
use Rattle.ckr_entry.specs.Parts.{Entry}
use Rattle.ckr_desk_refines.proofs.Memory.EntryModels.{next-same}
use Rattle.ckr_desk_refines.specs.Memory.Entries.{is_written, next_entry}
use Rattle.ckr_desk_refines.specs.Memory.View.{JobsView, RunningStepView, jobs_of}
use Rattle.ckr_meaning.specs.EffectiveJob.{OwnedStep}
use Rattle.ckr_meaning.specs.StepRun.{StepStart}
use Rattle.ckr_outside.specs.Disk.{EachSince}
use Rattle.ckr_points.specs.Office.{Office}
use Rattle.ckr_points.specs.Rows.{RunRow, TablesModel}
use Rattle.ckr_desk_refines.proofs.Checkpoints.Turn.{taken-by}
use Rattle.ckr_desk_refines.proofs.Checkpoints.Unwritten.{unwritten-stands}
use Rattle.ckr_desk_refines.specs.Unit.{HasPassed}
use Rattle.ckr_desk_store.specs.State.{StoreView}
use Rattle.ckr_desk_turn.specs.Checkpoints.{checkpoint_fits, checkpoint_try}
use Rattle.ckr_desk_turn.specs.Checkpoints as model
use Rattle.ckr_desk_turn.specs.declared.plan.Plan.TheVariants.{Take}
use Rattle.ckr_points.specs.declared.reply.Chkpt.TheVariants.{NotWritten}
use Rattle.ckr_points.specs.declared.reply.Reply.{Reply}
use Rattle.ckr_desk_turn.specs.Turns.{IsMountedTurnOf, MountedTurn, plan_for}
use Rattle.ckr_desk_turn.specs.Desk.{DeskModel, TurnDone}
use Rattle.ckr_desk_turn.specs.Taken.{served_by, taken_of}
use Rattle.ckr_desk_turn.specs.Units.{StepProgress}
use Rattle.ckr_desk.proofs.Checkpoints.Parts.{records-so, written-so}
use Rattle.ckr_desk.proofs.Checkpoints.Steps.{far, its_pair, own-is, reply-for, row-is, to-take, turned-take}
use Rattle.ckr_desk.proofs.Turns.Resting.{turned-resting}
use Rattle.ckr_desk.specs.Checkpoint.{IsUnfit}
use Rattle.ckr_desk.specs.Rewrite.{OpensSame}
use Rattle.ckr_desk.specs.Soundness.{IsTrusted, office_on, state_of}
use Rattle.ckr_desk.specs.State.{DeskView}
use Rattle.ckr_desk_turn.specs.MachineRoom.{MachineRoomView}
use Rattle.ckr_desk.specs.Units.{HasTurned}

-- where nothing is made, and what fits could be written, it doesn't fit
unfit-by : (fits : Bool) (entry : Entry) → (fits ≡ true → is_written entry ≡ true) → is_some (if fits && is_written entry then Some entry else None) ≡ false → fits ≡ false
unfit-by false entry writes none = refl
unfit-by true entry writes none = absurd (true≢false (sym (ap (λ b. is_some (if b then Some entry else None)) (writes refl)) ∙ none))

module _ {D : Type 0} (told : Type 0) (content : D → List ℕ) (may_leave : D → List ℕ → Type 0) (moment : D → ℕ) (left_since : D → ℕ → List ℕ → Type 0) (size : D → ℕ)
    (old : DeskView D) (trusted : IsTrusted told content may_leave old) (turn : MountedTurn) (its : IsMountedTurnOf old.store.layout turn) (run : ℕ) (planned : plan_for old.store.layout (jobs_of old.jobs) turn ≡ Take run)
    (reply : Reply) (unfit : IsUnfit run old reply) where
  abbrev office : Office
  office = office_on old.store.layout (content old.store.disk)

  abbrev desk : DeskModel
  desk = (state_of content old).desk

  abbrev on : RunningStepView
  on = unfit.reply_is.on

  abbrev row : RunRow
  row = (its_pair told content may_leave size old trusted turn its run planned on unfit.reply_is.at.found).going.row

  abbrev start : StepStart
  start = (its_pair told content may_leave size old trusted turn its run planned on unfit.reply_is.at.found).going.start

  abbrev progress : StepProgress
  progress = (its_pair told content may_leave size old trusted turn its run planned on unfit.reply_is.at.found).step.progress

  none-so : is_some (next_entry office.tables row start.owned on) ≡ false
  none-so =
      let row_same : unfit.reply_is.row ≡ row = row-is told content may_leave size old trusted turn its run planned on unfit.reply_is.at.found unfit.reply_is.row unfit.reply_is.at.row_at in
      let own_same : unfit.reply_is.own ≡ start.owned = own-is told content may_leave size old trusted turn its run planned on unfit.reply_is.at.found unfit.reply_is.row unfit.reply_is.own row_same unfit.reply_is.at.step_at in
      ap (λ (t : TablesModel). is_some (next_entry t row start.owned on)) (sym trusted.stands.tables)
      ∙ ap (λ (o : OwnedStep). is_some (next_entry old.jobs.tables.desk row o on)) (sym own_same)
      ∙ ap (λ (r : RunRow). is_some (next_entry old.jobs.tables.desk r unfit.reply_is.own on)) (sym row_same)
      ∙ unfit.none

  unfits : checkpoint_fits office.tables.sets row start progress ≡ false
  unfits =
      unfit-by (checkpoint_fits office.tables.sets row start progress) (model.next_entry office.tables.sets row start progress)
      (written-so told content may_leave size old trusted turn its run planned on unfit.reply_is.at.found)
      (ap is_some (sym (next-same office.tables row start on progress (far told content may_leave size old trusted turn its run planned on unfit.reply_is.at.found)
      (records-so told content may_leave size old trusted turn its run planned on unfit.reply_is.at.found))) ∙ none-so)

  taken : taken_of run desk ≡ served_by row (checkpoint_try false office.tables row start progress) desk
  taken =
      taken-by old.store.layout old.jobs (content old.store.disk) desk turn run on (to-take told content may_leave size old trusted turn its run planned on unfit.reply_is.at.found) false unfits

  reply-so : reply ≡ (taken_of run desk).reply
  reply-so =
      reply-for told content may_leave size old trusted turn its run planned on unfit.reply_is.at.found NotWritten reply unfit.reply_is
      ∙ sym (ap (λ (done : TurnDone). done.reply) taken)

  pub turned-unfit : (answer : Answer) (jobs : JobsView) (room : MachineRoomView) → HasPassed run old.jobs jobs → (store : StoreView D) → store ≡ old.store
      → EachSince moment left_since old.store.disk old.store.disk (λ image. OpensSame content size old image × may_leave old.store.disk image)
      → HasTurned told content may_leave moment left_since size turn answer old (record { store = store; jobs = jobs; machine_room = room }) (Ok reply)
  turned-unfit answer jobs room passed =
      turned-resting told content may_leave moment left_since size old trusted turn answer jobs room passed.tables (taken_of run desk)
      (turned-take told content may_leave size old trusted turn its run planned answer)
      (ap (λ (done : TurnDone). done.event) taken) (ap (λ (done : TurnDone). done.desk.office) taken)
      (unwritten-stands old.store.layout old.jobs jobs (content old.store.disk) desk turn run on (to-take told content may_leave size old trusted turn its run planned on unfit.reply_is.at.found) unfits passed) reply reply-so
