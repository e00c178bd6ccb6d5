-- A unit by which a step ends with a code, where the operator doesn't answer: its run waits, in memory too.
use Rattle.std.proofs.Common.{◌≡◌, ℕ, cond, List, ◌∷◌, refl, ap, sym, ◌∙◌, subst, Some, None}
use Rattle.std.specs.Prelude.{◌==◌}
use Rattle.std.proofs.lemmas.Option.{same_Some}
use Rattle.ckr_base.specs.declared.code.Code.{Code}
use Rattle.ckr_base.proofs.Numbers.{equal-itself}
use Rattle.ckr_base.proofs.Options.{some-not-none}
use Rattle.ckr_console.specs.declared.question.Answer.{Answer}
use Rattle.ckr_points.specs.Rows.{RunRow, run_of}
use Rattle.ckr_steps.specs.declared.step_run.Worked.TheVariants.{Abend}
use Rattle.ckr_steps.specs.StepUnit.{HasWorked}
use Rattle.ckr_volumes.specs.declared.layout.Layout.{Layout}
use Rattle.ckr_desk_memory.specs.EventChanges.{with_code as with_code_in_memory, without_first}
use Rattle.ckr_desk_memory.specs.Plans.{told_by}
use Rattle.ckr_desk_memory.specs.View.{JobsView, RunningStepView, running_of}
use Rattle.ckr_desk_turn.specs.Desk.{DeskModel, DeskStep, TurnDone, done_by, waiting, with_asked, with_code, with_progress, without_run, work_of}
use Rattle.ckr_desk_turn.specs.Inquiries.{decide}
use Rattle.ckr_desk_turn.specs.Invariant.{IsDesk}
use Rattle.ckr_desk_turn.specs.Units.{StepProgress}
use Rattle.ckr_desk_turn.specs.declared.plan.Plan.TheVariants.{Wait}
use Rattle.ckr_desk_turn.specs.Turns.{MountedTurn}
use Rattle.ckr_desk_turn.proofs.Waits.{stopped}
use Rattle.ckr_desk_refines.specs.Moves.{HasWaited}
use Rattle.ckr_desk_refines.specs.Standing.{AllStand, PointsStand, StandsForDesk, StandsForStep}
use Rattle.ckr_desk_refines.specs.Unit.{IsPutBack, StandsBehindUnit}
use Rattle.ckr_desk_refines.proofs.Standing.Waits.{all-coded, coded-differ, stopped_on}
use Rattle.ckr_desk_refines.proofs.Units.Codes.{coded-done, ends, its_progress, plan-so}
use Rattle.ckr_desk_refines.proofs.Units.Desk.{committed-so, did-so, each-stays, numbered, pair, row-at, run-moved, uncoded, work-kept}
use Rattle.ckr_desk_refines.proofs.Units.OwnStep.{own-checked, own-named, own-sets}
use Rattle.ckr_desk_refines.proofs.Units.StepLists.{IsPair, others-stay}
use Rattle.ckr_desk_refines.proofs.Rewrites.StepLists.{put-differ}

module _ (layout : Layout) (old : JobsView) (before after : List ℕ) (desk : DeskModel) (turn : MountedTurn) (run : ℕ) (on moved : RunningStepView) (code : Code) (answer : Answer) (unit : StandsBehindUnit layout old before after desk turn run on moved (Abend code)) where
  abbrev p : IsPair desk.layout desk.office before run on desk.running
  p = pair layout old before after desk turn run on moved (Abend code) unit

  did : HasWorked (Unit {0}) before after desk.layout on.step moved.step on.sets moved.sets (Abend code)
  did = did-so layout old before after desk turn run on moved (Abend code) unit

  none : on.code ≡ None
  none = uncoded layout old before after desk turn run on moved (Abend code) unit

  abbrev progress : StepProgress
  progress = its_progress layout old before after desk turn run on moved code unit

  abbrev first : DeskStep
  first = record { run = run; progress = progress; code = None }

  -- the step has stopped where its unit has come to
  own-stopped : StandsForStep desk.layout desk.office after (stopped_on moved code) (stopped first code)
  own-stopped = record {
    row = p.stands.row;
    row_at = row-at layout old before after desk turn run on moved (Abend code) unit;
    start = p.stands.start;
    start_at = p.stands.start_at;
    run = run-moved layout old before after desk turn run on moved (Abend code) unit;
    code = refl;
    stands = λ none. absurd (some-not-none code none);
    served = λ none. absurd (some-not-none code none);
    ordered = λ none. absurd (some-not-none code none);
    writes = refl;
    stopped = λ its some. refl;
    sets = own-sets desk unit.stands.is_desk before after on moved p.step p.going p.stands none (Abend code) did;
    named = own-named desk unit.stands.is_desk before after on moved p.step p.going p.stands none (Abend code) did;
    shows = (ends layout old before after desk turn run on moved code unit).shows;
    checked = own-checked desk unit.stands.is_desk before after on moved p.step p.going p.stands none (Abend code) did;
  }

  -- the other running steps are of other runs
  others : AllStand desk.layout desk.office after (without_first run old.running) (without_run run desk.running)
  others =
      others-stay desk.layout desk.office before after run (each-stays layout old before after desk turn run on moved (Abend code) unit)
      old.running desk.running unit.stands.is_desk.going unit.stands.differ_so unit.stands.running

  all-stand : AllStand desk.layout desk.office after (with_code_in_memory run code (moved ∷ without_first run old.running)) (with_code run code (first ∷ without_run run desk.running))
  all-stand = (
    subst (λ b. StandsForStep desk.layout desk.office after (cond b (stopped_on moved code) moved) (cond (run == run) (stopped first code) first))
        (sym (ap (λ n. n == run) (run-moved layout old before after desk turn run on moved (Abend code) unit) ∙ equal-itself run))
        (subst (λ b. StandsForStep desk.layout desk.office after (stopped_on moved code) (cond b (stopped first code) first)) (sym (equal-itself run)) own-stopped),
    all-coded desk.layout desk.office after run code (without_first run old.running) (without_run run desk.running) others,
  )

  abbrev later : DeskModel
  later = waiting run code (with_progress run progress desk)

  pub coded-waits : (put : JobsView) → IsPutBack run moved old put → (row : RunRow) → run_of desk.office.tables run ≡ Some row
      → decide answer (told_by layout desk.office.tables row (running_of desk.office.tables moved) (Abend code)) ≡ Wait run code
      → (waited : JobsView) → HasWaited run code put waited → StandsForDesk layout waited after (work_of answer run desk).desk
  coded-waits put back row at waits waited has =
      let mine : p.stands.row ≡ row = same_Some p.stands.row row (sym (row-at layout old before after desk turn run on moved (Abend code) unit) ∙ at) in
      let told : decide answer (told_by layout desk.office.tables p.stands.row (running_of desk.office.tables moved) (Abend code)) ≡ Wait run code =
      ap (λ (r : RunRow). decide answer (told_by layout desk.office.tables r (running_of desk.office.tables moved) (Abend code))) mine ∙ waits in
      let desk_is : (work_of answer run desk).desk ≡ later =
      ap (λ (done : TurnDone). done.desk) (coded-done layout old before after desk turn run on moved code unit answer)
      ∙ ap (λ plan. (done_by plan (with_progress p.stands.row.number progress desk)).desk) (sym (ap (decide answer) (plan-so layout old before after desk turn run on moved code unit)) ∙ told)
      ∙ ap (λ n. waiting run code (with_progress n progress desk)) (numbered layout old before after desk turn run on moved (Abend code) unit) in
      subst (StandsForDesk layout waited after) (sym desk_is)
      (record {
        layout_is = unit.stands.layout_is;
        is_desk = subst IsDesk desk_is (work-kept layout old before after desk turn run on moved (Abend code) unit answer);
        tables = has.tables ∙ back.tables ∙ unit.stands.tables;
        failed = has.failed ∙ ap (with_asked run) (back.failed ∙ unit.stands.failed);
        running =
            subst (λ (seen : List RunningStepView). AllStand desk.layout desk.office after seen later.running) (sym (has.running ∙ ap (with_code_in_memory run code) back.running)) all-stand;
        differ_so = coded-differ run code (first ∷ without_run run desk.running) ∙ put-differ first desk.running unit.stands.differ_so;
        points = subst (PointsStand desk.office) (sym (has.points ∙ back.points)) unit.stands.points;
        committed = committed-so layout old before after desk turn run on moved (Abend code) unit before after unit.stands.committed unit.keeps;
      })
