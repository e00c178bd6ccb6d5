-- The running step of a turn that works, in memory and at the desk, before its unit.
use Rattle.std.proofs.Common.{◌≡◌, ℕ, Bool, false, List, find, ap, sym, ◌∙◌, subst, Option, Some, None}
use Rattle.std.specs.Option.{option_map_or}
use Rattle.std.proofs.lemmas.Option.{same_Some}
use Rattle.ckr_base.specs.declared.programs.NextDue.TheVariants.{Unit as OneUnit}
use Rattle.ckr_console.specs.declared.question.Answer.{Answer}
use Rattle.ckr_desk_memory.specs.EventChanges.{is_of_run}
use Rattle.ckr_desk_memory.specs.View.{JobsView, RunningStepView}
use Rattle.ckr_meaning.specs.StepRun.{StepStart}
use Rattle.ckr_points.specs.Rows.{RunRow, run_of}
use Rattle.ckr_desk_refines.specs.Standing.{StandsForDesk}
use Rattle.ckr_steps.specs.Places.{ShowsWithin, IsStepPlace}
use Rattle.ckr_steps.specs.Units.{is_cancelled, is_checkpointed}
use Rattle.ckr_desk_turn.specs.Desk.{DeskModel, DeskStep, done_by, jobs_of, progress_of, progress_unless, unit_done, work_of}
use Rattle.ckr_desk_turn.specs.declared.plan.Plan.TheVariants.{Rest, Work}
use Rattle.ckr_points.specs.declared.reply.Reply.TheVariants.{Idle}
use Rattle.ckr_desk_turn.specs.Turns.{MountedTurn, plan_for}
use Rattle.ckr_desk_turn.specs.Units.{StepProgress, UnitEnd, unit_end}
use Rattle.ckr_volumes.specs.declared.layout.Layout.{Layout}
use Rattle.ckr_desk_refines.proofs.Units.DueUnits.{IsDue, due-unclosed, is-due}
use Rattle.ckr_desk_refines.proofs.Units.Outcomes.{open_at}
use Rattle.ckr_desk_refines.proofs.Units.Plans.{asked_in}
use Rattle.ckr_desk_refines.proofs.Units.StepLists.{IsPair, pair-of}
use Rattle.ckr_points.specs.Payload.{start_in_office}

abbrev progress_so : ℕ → ℕ → Bool → Bool → Bool → StepProgress
progress_so taken writes checkpointed cancelled closed =
    record { taken = taken; writes = writes; checkpointed = checkpointed; cancelled = cancelled; closed = closed }

module _ (layout : Layout) (jobs : JobsView) (image : List ℕ) (desk : DeskModel) (turn : MountedTurn) (run : ℕ) (on : RunningStepView)
    (stands : StandsForDesk layout jobs image desk) (planned : plan_for desk.layout (jobs_of desk) turn ≡ Work run) (found : find (is_of_run run) jobs.running ≡ Some on) where
  -- the running step of the desk
  pub pair-found : IsPair desk.layout desk.office image run on desk.running
  pair-found = pair-of desk.layout desk.office image run on jobs.running desk.running stands.running stands.is_desk.going found

  due : IsDue desk run OneUnit
  due = is-due desk turn run OneUnit stands.is_desk (ap asked_in planned)

  paired : pair-found.step ≡ due.step
  paired = same_Some pair-found.step due.step (sym pair-found.at ∙ due.at)

  pub unclosed-found : pair-found.step.progress.closed ≡ false
  unclosed-found = ap (λ (step : DeskStep). step.progress.closed) paired ∙ due-unclosed desk run due

  -- its run doesn't wait with a code
  pub unwaiting-found : pair-found.step.code ≡ None
  unwaiting-found = ap (λ (step : DeskStep). step.code) paired ∙ due.uncoded

  pub uncoded-found : on.code ≡ None
  uncoded-found = pair-found.stands.code ∙ unwaiting-found

  abbrev start : StepStart
  start = pair-found.stands.start

  abbrev taken : ℕ
  taken = pair-found.step.progress.taken

  pub stands-found : IsStepPlace start taken false on.step on.sets
  stands-found = subst (λ b. IsStepPlace pair-found.stands.start pair-found.step.progress.taken b on.step on.sets) unclosed-found (pair-found.stands.stands uncoded-found)

  pub shows-found : ShowsWithin (Unit {0}) image desk.layout start on.step.writes on.sets
  shows-found = subst (λ n. ShowsWithin (Unit {0}) image desk.layout pair-found.stands.start n on.sets) (sym pair-found.stands.writes) pair-found.stands.shows

  -- ---- the turn of the desk

  pub row-found : run_of desk.office.tables run ≡ Some pair-found.stands.row
  row-found = ap (run_of desk.office.tables) (sym pair-found.same) ∙ pair-found.stands.row_at

  pub number-found : pair-found.stands.row.number ≡ run
  number-found = stands.is_desk.kept.events.numbered run pair-found.stands.row row-found

  pub progress-found : progress_of desk run ≡ Some pair-found.step.progress
  progress-found =
      ap (λ (o : Option DeskStep). option_map_or (λ (step : DeskStep). progress_unless step.code step.progress) o None) pair-found.at
      ∙ ap (λ code. progress_unless code pair-found.step.progress) unwaiting-found

  progress-is : pair-found.step.progress ≡ open_at on.step.state taken on.step.writes
  progress-is =
      let p : StepProgress = pair-found.step.progress in
      ap (λ writes. progress_so p.taken writes p.checkpointed p.cancelled p.closed) (sym pair-found.stands.writes)
      ∙ ap (λ b. progress_so p.taken on.step.writes b p.cancelled p.closed) (sym (pair-found.stands.served uncoded-found).checkpoint)
      ∙ ap (λ b. progress_so p.taken on.step.writes (is_checkpointed on.step.state) b p.closed) (sym (pair-found.stands.served uncoded-found).cancel)
      ∙ ap (progress_so p.taken on.step.writes (is_checkpointed on.step.state) (is_cancelled on.step.state)) unclosed-found

  pub work-found : (answer : Answer) (end : UnitEnd) → unit_end start (open_at on.step.state taken on.step.writes) ≡ end → work_of answer run desk ≡ unit_done answer pair-found.stands.row end desk
  work-found answer end is =
      ap (λ (o : Option RunRow). option_map_or (λ row. option_map_or (λ start. option_map_or (λ progress. unit_done answer row (unit_end start progress) desk) (progress_of desk run) (done_by (Rest Idle) desk)) (start_in_office desk.office row) (done_by (Rest Idle) desk)) o (done_by (Rest Idle) desk)) row-found
      ∙ ap (λ (o : Option StepStart). option_map_or (λ start. option_map_or (λ progress. unit_done answer pair-found.stands.row (unit_end start progress) desk) (progress_of desk run) (done_by (Rest Idle) desk)) o (done_by (Rest Idle) desk)) pair-found.stands.start_at
      ∙ ap (λ (o : Option StepProgress). option_map_or (λ progress. unit_done answer pair-found.stands.row (unit_end pair-found.stands.start progress) desk) o (done_by (Rest Idle) desk)) progress-found
      ∙ ap (λ (progress : StepProgress). unit_done answer pair-found.stands.row (unit_end pair-found.stands.start progress) desk) progress-is
      ∙ ap (λ (end : UnitEnd). unit_done answer pair-found.stands.row end desk) is
