-- The running step whose checkpoint a turn takes, on a trusted disk.
use Rattle.std.proofs.Common.{◌≡◌, ℕ, suc, false, List, find, refl, ap, sym, ◌∙◌, Option, Some, None}
use Rattle.std.specs.Option.{option_map_or}
use Rattle.std.proofs.lemmas.Option.{same_Some}
use Rattle.ckr_console.specs.declared.question.Answer.{Answer}
use Rattle.ckr_desk_refines.specs.Memory.Entries.{next_id, step_now}
use Rattle.ckr_desk_refines.specs.Memory.EntryModels.{IsAsFar}
use Rattle.ckr_desk_refines.specs.Memory.EventChanges.{is_of_run}
use Rattle.ckr_desk_refines.specs.Memory.View.{RunningStepView, jobs_of}
use Rattle.ckr_meaning.specs.EffectiveJob.{OwnedStep}
use Rattle.ckr_meaning.specs.StepRun.{StepStart}
use Rattle.ckr_points.specs.Office.{Office}
use Rattle.ckr_points.specs.Restart.{step_in}
use Rattle.ckr_points.specs.Rows.{RunRow, TablesModel, run_of, step_of_run}
use Rattle.ckr_desk_refines.proofs.Checkpoints.Progress.{as-far}
use Rattle.ckr_desk_refines.proofs.Checkpoints.Turn.{its-step, none, pair}
use Rattle.ckr_desk_refines.proofs.Units.StepLists.{IsPair}
use Rattle.ckr_desk_refines.specs.Checkpoints.{IsToTake}
use Rattle.ckr_desk_turn.proofs.NextEvents.WithinStep.{by-step}
use Rattle.ckr_desk_turn.proofs.RunningSteps.{going-within}
use Rattle.ckr_desk_turn.specs.Checkpoints.{checkpoint_turn, id_by, step_entries, id_in}
use Rattle.ckr_desk_turn.specs.Checkpoints as model
use Rattle.ckr_desk_turn.specs.declared.plan.Plan.TheVariants.{Rest, Take}
use Rattle.ckr_points.specs.declared.reply.Chkpt.{Chkpt}
use Rattle.ckr_points.specs.declared.reply.Reply.{Reply}
use Rattle.ckr_points.specs.declared.reply.Reply.TheVariants.{Checkpointed, Idle}
use Rattle.ckr_desk_turn.specs.Turns.{IsMountedTurnOf, MountedTurn, plan_for, turn_of}
use Rattle.ckr_desk_turn.specs.Desk.{DeskModel, TurnDone, done_by, progress_of}
use Rattle.ckr_desk_turn.specs.Taken.{served_by, taken_of}
use Rattle.ckr_desk_turn.specs.Units.{StepProgress}
use Rattle.ckr_volumes.specs.declared.layout.Layout.{Layout}
use Rattle.ckr_desk.proofs.Turns.Events.{plans-desk, turned}
use Rattle.ckr_desk.specs.Checkpoint.{IsReplyWith}
use Rattle.ckr_desk.specs.Soundness.{IsTrusted, office_on, state_of}
use Rattle.ckr_desk.specs.State.{DeskView}
use Rattle.ckr_desk.specs.Turn.{asks}
use Rattle.ckr_points.specs.Payload.{start_in_office}

-- the operator isn't asked for a checkpoint
module _ (run : ℕ) (desk : DeskModel) where
  abbrev none_done : TurnDone
  none_done = done_by (Rest Idle) desk

  abbrev by_progress : RunRow → StepStart → Option StepProgress → TurnDone
  by_progress row start progress = option_map_or (λ progress. served_by row (checkpoint_turn desk.office.tables row start progress) desk) progress none_done

  abbrev by_start : RunRow → Option StepStart → TurnDone
  by_start row start = option_map_or (λ start. by_progress row start (progress_of desk run)) start none_done

  progress-quiet : (row : RunRow) (start : StepStart) (progress : Option StepProgress) → (by_progress row start progress).asked ≡ false
  progress-quiet row start None = refl
  progress-quiet row start (Some progress) = refl

  start-quiet : (row : RunRow) (start : Option StepStart) → (by_start row start).asked ≡ false
  start-quiet row None = refl
  start-quiet row (Some start) = progress-quiet row start (progress_of desk run)

  row-quiet : (row : Option RunRow) → (option_map_or (λ row. by_start row (start_in_office desk.office row)) row none_done).asked ≡ false
  row-quiet None = refl
  row-quiet (Some row) = start-quiet row (start_in_office desk.office row)

  taken-quiet : (taken_of run desk).asked ≡ false
  taken-quiet = row-quiet (run_of desk.office.tables run)

module _ {D : Type 0} (told : Type 0) (content : D → List ℕ) (may_leave : D → List ℕ → Type 0) (size : D → ℕ) (old : DeskView D) (trusted : IsTrusted told content may_leave old)
    (turn : MountedTurn) (its : IsMountedTurnOf old.store.layout turn) (run : ℕ) (planned : plan_for old.store.layout (jobs_of old.jobs) turn ≡ Take run) where
  abbrev layout : Layout
  layout = old.store.layout

  abbrev image : List ℕ
  image = content old.store.disk

  abbrev office : Office
  office = office_on layout image

  abbrev desk : DeskModel
  desk = (state_of content old).desk

  pub turned-take : (answer : Answer) → turn_of desk turn answer ≡ taken_of run desk
  turned-take answer = turned told content may_leave size old trusted turn its answer (Take run) planned

  pub take-asks : (answer : Answer) → asks (state_of content old) turn answer ≡ false
  unfolding asks
  take-asks answer = ap (λ (done : TurnDone). done.asked) (turned-take answer) ∙ taken-quiet run desk

  module _ (on : RunningStepView) (found : find (is_of_run run) old.jobs.running ≡ Some on) where
    abbrev pub to-take : IsToTake layout old.jobs image desk turn run on
    to-take = record { stands = trusted.stands; planned = sym (plans-desk told content may_leave size old trusted turn its) ∙ planned; found = found }

    abbrev pub its_pair : IsPair desk.layout desk.office image run on desk.running
    its_pair = pair layout old.jobs image desk turn run on to-take

    abbrev row : RunRow
    row = its_pair.going.row

    abbrev start : StepStart
    start = its_pair.going.start

    pub far : IsAsFar office.tables row start on its_pair.step.progress
    far = as-far desk trusted.stands.is_desk image on its_pair.step its_pair.going its_pair.stands (none layout old.jobs image desk turn run on to-take)

    owned-at : step_of_run row (step_now row) ≡ Some start.owned
    owned-at =
        by-step desk trusted.stands.is_desk its_pair.step.run row its_pair.going.number its_pair.going.committed start (going-within desk.office its_pair.step its_pair.going)
        (λ leg owned running starts spaced. ap (λ place. step_of_run row (step_in place)) running.stands ∙ running.found ∙ ap (λ (s : StepStart). Some s.owned) (sym starts))

    -- what the tables and memory have of it
    pub row-there : (other : RunRow) → run_of office.tables run ≡ Some other → other ≡ row
    row-there other at = same_Some other row (sym at ∙ (its-step layout old.jobs image desk turn run on to-take).row_at)

    pub row-is : (other : RunRow) → run_of old.jobs.tables.desk run ≡ Some other → other ≡ row
    row-is other at = row-there other (ap (λ (t : TablesModel). run_of t run) (sym trusted.stands.tables) ∙ at)

    pub own-is : (other : RunRow) (own : OwnedStep) → other ≡ row → step_of_run other (step_now other) ≡ Some own → own ≡ start.owned
    own-is other own same at = same_Some own start.owned (sym at ∙ ap (λ (r : RunRow). step_of_run r (step_now r)) same ∙ owned-at)

    abbrev reply_as : Chkpt → RunRow → OwnedStep → Option (List ℕ) → Reply
    reply_as code its own id = Checkpointed its.number own.step.name code id

    pub reply-for : (code : Chkpt) (reply : Reply) → IsReplyWith run old code reply → reply ≡ reply_as code row start.owned (id_in (model.next_id row start))
    reply-for code reply with_it =
        let row_same : with_it.row ≡ row = row-is with_it.row with_it.at.row_at in
        let own_same : with_it.own ≡ start.owned = own-is with_it.row with_it.own row_same with_it.at.step_at in
        with_it.is
        ∙ ap (λ (r : RunRow). reply_as code r with_it.own (id_in (next_id r with_it.own))) row_same
        ∙ ap (λ (o : OwnedStep). reply_as code row o (id_in (next_id row o))) own_same
        ∙ ap (λ n. reply_as code row start.owned (id_in (id_by start.owned.step.parm.ids.items (suc row.count) (suc (step_entries row n))))) far.number
