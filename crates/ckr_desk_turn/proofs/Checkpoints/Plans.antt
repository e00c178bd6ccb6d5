-- How a checkpoint of a running step is taken, and that the turn which is planned for one that is due takes it, whatever its RD.
use Rattle.std.proofs.Common.{◌≡◌, ℕ, Bool, cond, true, false, List, [], ◌∷◌, find, ap, sym, ◌∙◌, Option, Some, None}
use Rattle.std.specs.Prelude.{◌==◌, if◌then◌else◌}
use Rattle.std.specs.Option.{option_map_or}
use Rattle.std.proofs.lemmas.Option.{same_Some}
use Rattle.ckr_base.specs.declared.programs.NextDue.TheVariants.{Checkpoint}
use Rattle.ckr_base.proofs.Bools.{bool-cases}
use Rattle.ckr_base.proofs.Numbers.{equal-itself}
use Rattle.ckr_console.specs.declared.question.Answer.{Answer}
use Rattle.ckr_events.specs.declared.event.Event.TheVariants.{Cancelled as CancelledEvent}
use Rattle.ckr_library.specs.NameMaps.{Name}
use Rattle.ckr_meaning.specs.EffectiveJob.{OwnedStep}
use Rattle.ckr_meaning.specs.StepRun.{StepStart}
use Rattle.ckr_points.specs.Restart.{place_of, step_in}
use Rattle.ckr_points.specs.RuleCases.{rd_in_effect}
use Rattle.ckr_points.specs.Rows.{RunRow, step_of_run}
use Rattle.ckr_rules.specs.RuleTables.{suppresses}
use Rattle.ckr_desk_turn.specs.declared.plan.Plan.TheVariants.{Rest, Take}
use Rattle.ckr_points.specs.declared.reply.Chkpt.TheVariants.{Suppressed}
use Rattle.ckr_points.specs.declared.reply.Reply.TheVariants.{Checkpointed as CheckpointedReply, Idle}
use Rattle.ckr_desk_turn.specs.Checkpoints.{ServedTurn, checkpoint_turn, checkpoint_unless}
use Rattle.ckr_desk_turn.specs.Desk.{DeskModel, DeskStep, TurnDone, behind, cancel_done, checkpoint_done, done_by, jobs_of, progress_of, progress_unless, seen_from, with_change, with_progress, without_run}
use Rattle.ckr_desk_turn.specs.Due.{next_due}
use Rattle.ckr_desk_turn.specs.Invariant.{IsAdmittedStep, IsDesk, IsGoing}
use Rattle.ckr_desk_turn.specs.Jobs.{is_failed, step_name_of, waiting_code}
use Rattle.ckr_desk_turn.specs.NextEvents.{IsWithinStep}
use Rattle.ckr_desk_turn.specs.Plans.{checkpoint_plan, due_plan, run_plan, suppressed_plan}
use Rattle.ckr_desk_turn.specs.Taken.{behind_entry, served_by, taken_of}
use Rattle.ckr_desk_turn.specs.Turns.{carried_out}
use Rattle.ckr_desk_turn.specs.Units.{StepProgress}
use Rattle.ckr_desk_turn.proofs.Checkpoints.Due.{checkpoint-behind}
use Rattle.ckr_desk_turn.proofs.NextEvents.WithinStep.{by-step}
use Rattle.ckr_desk_turn.proofs.OtherRuns.{row-admitted}
use Rattle.ckr_desk_turn.proofs.RunningSteps.{going-within, plain_step, progress-found}
use Rattle.ckr_desk_turn.proofs.Turns.Due.{plan-due}
use Rattle.ckr_desk_turn.proofs.Units.AnyUnit.{found-going}
use Rattle.ckr_desk_turn.proofs.Moves.{with_change-found}
use Rattle.ckr_points.specs.Payload.{start_in_office}

-- ---- the running steps behind it

changed-steps : (running : List DeskStep) (run : ℕ) (change : StepProgress → StepProgress) (progress : StepProgress) → option_map_or (λ (step : DeskStep). progress_unless step.code step.progress) (find (λ (step : DeskStep). step.run == run) running) None ≡ Some progress
    → with_change run change running ≡ record { run = run; progress = change progress; code = None } ∷ without_run run running
changed-steps running run change progress known =
    with_change-found run change running (plain_step run progress) (progress-found running run progress known)

-- the step of a run that stands before the others is the one that is found
progress-first : (run : ℕ) (progress : StepProgress) (others : List DeskStep) → option_map_or (λ (step : DeskStep). progress_unless step.code step.progress) (find (λ (step : DeskStep). step.run == run) (plain_step run progress ∷ others)) None ≡ Some progress
progress-first run progress others =
    ap (λ b. option_map_or (λ (step : DeskStep). progress_unless step.code step.progress) (cond b (Some (plain_step run progress)) (find (λ (step : DeskStep). step.run == run) others)) None) (equal-itself run)

-- behind a cancel it is done
pub cancelled-behind : (desk : DeskModel) (run : ℕ) (progress : StepProgress) → progress_of desk run ≡ Some progress → progress_of (behind (CancelledEvent run) None desk) run ≡ Some (cancel_done progress)
cancelled-behind desk run progress known =
    ap (λ running. option_map_or (λ (step : DeskStep). progress_unless step.code step.progress) (find (λ (step : DeskStep). step.run == run) running) None) (changed-steps desk.running run cancel_done progress known)
    ∙ progress-first run (cancel_done progress) (without_run run desk.running)

-- ---- a step of a desk

module _ (desk : DeskModel) (on : DeskStep) (going : IsGoing desk.office on) (is : IsDesk desk) where
  -- what is said of the step by the one of an accepted deck
  pub by-own : {A : Type 0} → (IsAdmittedStep going.number going.start.owned → going.start.number ≡ going.number → step_of_run going.row (step_in (place_of going.row)) ≡ Some going.start.owned → A) → A
  by-own use_it =
      by-step desk is on.run going.row going.number going.committed going.start (going-within desk.office on going)
      (λ leg owned running same spaced.
      let its : owned ≡ going.start.owned = ap (λ (s : StepStart). s.owned) (sym same) in
      use_it
      ((row-admitted desk is on.run going.row going.row_at).steps going.number going.start.owned (running.found ∙ ap Some its))
      (ap (λ (s : StepStart). s.number) same)
      (ap (λ place. step_of_run going.row (step_in place)) running.stands ∙ running.found ∙ ap Some its))

  -- the step's name is that of its start
  pub names-step : step_name_of going.row ≡ going.start.owned.step.name
  names-step = by-own (λ own numbered found. ap (λ (o : Option OwnedStep). option_map_or (λ owned. owned.step.name) o []) found)

  -- and its number is that of its place
  numbers-step : going.start.number ≡ going.number
  numbers-step = by-own (λ own same found. same)

  numbered : going.row.number ≡ on.run
  numbered = is.kept.events.numbered on.run going.row going.row_at

  -- how a checkpoint is taken
  pub takes : progress_of desk on.run ≡ Some on.progress → taken_of on.run desk ≡ served_by going.row (checkpoint_turn desk.office.tables going.row going.start on.progress) desk
  takes known =
      ap (λ (o : Option RunRow). option_map_or (λ row. option_map_or (λ start. option_map_or (λ progress. served_by row (checkpoint_turn desk.office.tables row start progress) desk) (progress_of desk on.run) (done_by (Rest Idle) desk)) (start_in_office desk.office row) (done_by (Rest Idle) desk)) o (done_by (Rest Idle) desk)) going.row_at
      ∙ ap (λ (o : Option StepStart). option_map_or (λ start. option_map_or (λ progress. served_by going.row (checkpoint_turn desk.office.tables going.row start progress) desk) (progress_of desk on.run) (done_by (Rest Idle) desk)) o (done_by (Rest Idle) desk)) going.start_at
      ∙ ap (λ (o : Option StepProgress). option_map_or (λ progress. served_by going.row (checkpoint_turn desk.office.tables going.row going.start progress) desk) o (done_by (Rest Idle) desk)) known

  -- the turn that is planned for one that is suppressed
  pub plan-taken : (answer : Answer) → progress_of desk on.run ≡ Some on.progress → suppresses (rd_in_effect going.row going.start.number) ≡ true → carried_out answer (suppressed_plan going.row) desk ≡ taken_of on.run desk
  plan-taken answer known suppressed =
      let here : progress_of desk going.row.number ≡ Some on.progress = ap (progress_of desk) numbered ∙ known in
      ap (λ name. passed_by name (with_change going.row.number checkpoint_done desk.running)) names-step
      ∙ ap (passed_by going.start.owned.step.name) (changed-steps desk.running going.row.number checkpoint_done on.progress here)
      ∙ ap (λ b. served_by going.row (checkpoint_unless b desk.office.tables going.row going.start on.progress) desk) (sym suppressed)
      ∙ sym (takes known)
    where
      passed_by : Name → List DeskStep → TurnDone
      passed_by name running = record { reply = CheckpointedReply going.row.number name Suppressed None; event = None; desk = record desk { running = running }; asked = false }

  -- the plan of one that is due, whether RD suppresses it or not
  pub due-taken : (answer : Answer) → progress_of desk on.run ≡ Some on.progress → carried_out answer (checkpoint_plan going.row going.number) desk ≡ taken_of on.run desk
  due-taken answer known =
      bool-cases (suppresses (rd_in_effect going.row going.number))
      (λ suppressed. ap planned_by suppressed ∙ plan-taken answer known (ap (λ n. suppresses (rd_in_effect going.row n)) numbers-step ∙ suppressed))
      (λ isnt. ap planned_by isnt ∙ ap (λ run. taken_of run desk) numbered)
    where
      planned_by : Bool → TurnDone
      planned_by suppressed = carried_out answer (if suppressed then suppressed_plan going.row else Take going.row.number) desk

  -- behind a checkpoint that is taken it is done
  pub done-behind : progress_of desk on.run ≡ Some on.progress → progress_of (taken_of on.run desk).desk on.run ≡ Some (checkpoint_done on.progress)
  done-behind known =
      let served : ServedTurn = checkpoint_turn desk.office.tables going.row going.start on.progress in
      ap (λ (done : TurnDone). progress_of done.desk on.run) (takes known)
      ∙ ap (λ run. progress_of (with_progress run served.progress (behind_entry served.event desk)) on.run) numbered
      ∙ progress-first on.run served.progress (without_run on.run (behind_entry served.event desk).running)
      ∙ ap (λ (p : StepProgress). Some p) (checkpoint-behind going.start desk.office.tables going.row on.progress)

-- the turn of a run in whose step a checkpoint is due
pub turn-taken : (desk : DeskModel) (row : RunRow) (number committed : ℕ) (start : StepStart) (progress : StepProgress) (answer : Answer) → IsDesk desk → IsWithinStep desk.office row.number row number committed start → is_failed (jobs_of desk) row.number ≡ false → waiting_code (jobs_of desk) row.number ≡ None → progress_of desk row.number ≡ Some progress → next_due start progress ≡ Checkpoint
    → carried_out answer (run_plan desk.layout (jobs_of desk) None row) desk ≡ taken_of row.number desk
turn-taken desk row number committed start progress answer is within isnt none known comes =
    let on : DeskStep = plain_step row.number progress in
    let going : IsGoing desk.office on = found-going desk.office row.number progress desk.running is.going known in
    let mine : going.row ≡ row = same_Some _ _ (sym going.row_at ∙ within.row_at) in
    let begun : going.start ≡ start = same_Some _ _ (sym going.start_at ∙ ap (start_in_office desk.office) mine ∙ within.start_at) in
    let there : going.number ≡ number = ap step_in (sym (going-within desk.office on going).place ∙ ap place_of mine ∙ within.place) in
    ap (λ plan. carried_out answer plan desk)
    (plan-due desk row number committed start progress within isnt none known
    ∙ ap (due_plan row number (seen_from desk.office row.number progress start)) comes
    ∙ ap (checkpoint_plan row) (sym there) ∙ ap (λ (r : RunRow). checkpoint_plan r going.number) (sym mine))
    ∙ due-taken desk on going is answer known
