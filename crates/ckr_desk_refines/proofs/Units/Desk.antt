-- The jobs in memory behind a unit stand for the desk behind it.
use Rattle.std.proofs.Common.{◌≡◌, ◌≢◌, ℕ, false, List, ◌∷◌, refl, ap, sym, ◌∙◌, subst, Some, None}
use Rattle.ckr_console.specs.declared.question.Answer.{Answer}
use Rattle.ckr_desk_memory.specs.EventChanges.{without_first}
use Rattle.ckr_desk_memory.specs.View.{JobsView, RunningStepView}
use Rattle.ckr_desk_turn.proofs.Units.AnyUnit.{work-keeps}
use Rattle.ckr_desk_turn.specs.Invariant.{IsDesk, IsGoing}
use Rattle.ckr_desk_refines.proofs.Durable.Units.{committed-kept}
use Rattle.ckr_desk_refines.specs.Commits.{HasCommitted}
use Rattle.ckr_meaning.specs.EffectiveJob.{names_of}
use Rattle.ckr_meaning.specs.StepRun.{StepStart}
use Rattle.ckr_points.specs.Rows.{run_of}
use Rattle.ckr_desk_refines.specs.Standing.{AllStand, PointsStand, StandsForDesk, StandsForStep}
use Rattle.ckr_steps.specs.declared.step_run.Worked.{Worked}
use Rattle.ckr_steps.specs.declared.step_run.Worked.TheVariants.{Went}
use Rattle.ckr_steps.specs.Places.{GoesOn, GoesTo, ShowsWithin, IsStepPlace}
use Rattle.ckr_steps.specs.StepUnit.{HasWorked}
use Rattle.ckr_steps.specs.Writes.{Keeps}
use Rattle.ckr_desk_turn.specs.Desk.{DeskModel, DeskStep, TurnDone, progress_of, unit_done, with_progress, without_run, work_of}
use Rattle.ckr_desk_turn.specs.Turns.{MountedTurn}
use Rattle.ckr_desk_turn.specs.Units.{StepProgress, UnitEnd, unit_end, went}
use Rattle.ckr_volumes.specs.declared.layout.Layout.{Layout}
use Rattle.ckr_desk_refines.specs.Unit.{IsPutBack, StandsBehindUnit}
use Rattle.ckr_desk_refines.proofs.Units.Outcomes.{end-went, further_at, open_at}
use Rattle.ckr_desk_refines.proofs.Units.RunningStep.{number-found, pair-found, progress-found, row-found, shows-found, stands-found, unclosed-found, uncoded-found, unwaiting-found, work-found}
use Rattle.ckr_desk_refines.proofs.Units.StepLists.{IsPair, others-stay}
use Rattle.ckr_desk_refines.proofs.Units.OtherSteps.{other-stays}
use Rattle.ckr_desk_refines.proofs.Units.OwnStep.{own-stands}
use Rattle.ckr_desk_refines.proofs.Rewrites.StepLists.{put-differ}

module _ (layout : Layout) (old : JobsView) (before after : List ℕ) (desk : DeskModel) (turn : MountedTurn) (run : ℕ) (on moved : RunningStepView) (worked : Worked) (unit : StandsBehindUnit layout old before after desk turn run on moved worked) where
  pub its-desk : IsDesk desk
  its-desk = unit.stands.is_desk

  -- the running step of the desk
  abbrev pub pair : IsPair desk.layout desk.office before run on desk.running
  pair = pair-found layout old before desk turn run on unit.stands unit.planned unit.found

  pub unclosed : pair.step.progress.closed ≡ false
  unclosed = unclosed-found layout old before desk turn run on unit.stands unit.planned unit.found

  pub uncoded : on.code ≡ None
  uncoded = uncoded-found layout old before desk turn run on unit.stands unit.planned unit.found

  pub unwaiting : pair.step.code ≡ None
  unwaiting = unwaiting-found layout old before desk turn run on unit.stands unit.planned unit.found

  abbrev pub start : StepStart
  start = pair.stands.start

  abbrev pub taken_before : ℕ
  taken_before = pair.step.progress.taken

  -- ---- in the layout of the desk

  pub keeps-so : Keeps desk.layout on.sets before after
  keeps-so = subst (λ (l : Layout). Keeps l on.sets before after) (sym unit.stands.layout_is) unit.keeps

  pub did-so : HasWorked (Unit {0}) before after desk.layout on.step moved.step on.sets moved.sets worked
  did-so = subst (λ (l : Layout). HasWorked (Unit {0}) before after l on.step moved.step on.sets moved.sets worked) (sym unit.stands.layout_is) unit.did

  pub stands-at : IsStepPlace start taken_before false on.step on.sets
  stands-at = stands-found layout old before desk turn run on unit.stands unit.planned unit.found

  pub shows-at : ShowsWithin (Unit {0}) before desk.layout start on.step.writes on.sets
  shows-at = shows-found layout old before desk turn run on unit.stands unit.planned unit.found

  pub goes-so : GoesOn (Unit {0}) after desk.layout start taken_before on.step moved.step moved.sets worked
  goes-so =
      subst (λ (l : Layout). GoesOn (Unit {0}) after l pair.stands.start pair.step.progress.taken on.step moved.step moved.sets worked) (sym unit.stands.layout_is)
      (unit.goes pair.stands.start pair.step.progress.taken stands-at
      (subst (λ (l : Layout). ShowsWithin (Unit {0}) before l pair.stands.start on.step.writes on.sets) unit.stands.layout_is shows-at))

  -- ---- the turn of the desk

  pub row-at : run_of desk.office.tables run ≡ Some pair.stands.row
  row-at = row-found layout old before desk turn run on unit.stands unit.planned unit.found

  pub numbered : pair.stands.row.number ≡ run
  numbered = number-found layout old before desk turn run on unit.stands unit.planned unit.found

  pub progress-at : progress_of desk run ≡ Some pair.step.progress
  progress-at = progress-found layout old before desk turn run on unit.stands unit.planned unit.found

  pub work-is : (answer : Answer) (end : UnitEnd) → unit_end start (open_at on.step.state taken_before on.step.writes) ≡ end → work_of answer run desk ≡ unit_done answer pair.stands.row end desk
  work-is = work-found layout old before desk turn run on unit.stands unit.planned unit.found

  pub work-kept : (answer : Answer) → IsDesk (work_of answer run desk).desk
  work-kept answer = (work-keeps answer desk its-desk run pair.step.progress progress-at unclosed).kept

  -- ---- what stays

  pub each-stays : (other : RunningStepView) (step : DeskStep) → IsGoing desk.office step → StandsForStep desk.layout desk.office before other step → step.run ≢ run → StandsForStep desk.layout desk.office after other step
  each-stays other step going stands apart =
      other-stays desk its-desk before on other pair.step step pair.going going pair.stands stands (λ e. apart (e ∙ pair.same)) after keeps-so

  pub committed-so : (from image : List ℕ) → HasCommitted desk.layout desk.office from → Keeps layout on.sets from image → HasCommitted desk.layout desk.office image
  committed-so from image had keeps =
      committed-kept desk.layout desk.office.tables.sets (names_of pair.stands.start.root pair.stands.start.owned) on.sets its-desk.kept.events.extents pair.stands.sets from image
      (subst (λ (l : Layout). Keeps l on.sets from image) (sym unit.stands.layout_is) keeps) desk.office refl had

  pub run-moved : moved.run ≡ run
  run-moved = unit.same_run ∙ pair.stands.run ∙ pair.same

-- ---- the step goes on

module _ (layout : Layout) (old : JobsView) (before after : List ℕ) (desk : DeskModel) (turn : MountedTurn) (run : ℕ) (on moved : RunningStepView) (taken : ℕ) (unit : StandsBehindUnit layout old before after desk turn run on moved (Went taken)) where
  abbrev p : IsPair desk.layout desk.office before run on desk.running
  p = pair layout old before after desk turn run on moved (Went taken) unit

  pub goes-to : GoesTo (Unit {0}) after desk.layout p.stands.start taken on.step moved.step moved.sets
  goes-to = goes-so layout old before after desk turn run on moved (Went taken) unit

  abbrev pub progress : StepProgress
  progress = further_at on.step.state taken moved.step.writes goes-to.closed

  pub went-done : (answer : Answer) → work_of answer run desk ≡ unit_done answer p.stands.row (record { unit = went None; progress = progress }) desk
  went-done answer =
      work-is layout old before after desk turn run on moved (Went taken) unit answer (record { unit = went None; progress = progress })
      (end-went before after desk.layout p.stands.start p.step.progress.taken on.step moved.step on.sets moved.sets (Went taken)
      (stands-at layout old before after desk turn run on moved (Went taken) unit) (shows-at layout old before after desk turn run on moved (Went taken) unit) (did-so layout old before after desk turn run on moved (Went taken) unit)
      taken refl goes-to)

  its_run : p.stands.row.number ≡ run
  its_run = numbered layout old before after desk turn run on moved (Went taken) unit

  abbrev put_step : ℕ → DeskStep
  put_step number = record { run = number; progress = progress; code = None }

  own : StandsForStep desk.layout desk.office after moved (put_step run)
  own =
      subst (λ (n : ℕ). StandsForStep desk.layout desk.office after moved (put_step n)) p.same
      (own-stands desk unit.stands.is_desk before after on moved p.step p.going p.stands (uncoded layout old before after desk turn run on moved (Went taken) unit) (Went taken) (did-so layout old before after desk turn run on moved (Went taken) unit) unit.same_run unit.same_code taken goes-to)

  others : AllStand desk.layout desk.office after (without_first run old.running) (without_run run desk.running)
  others =
      others-stay desk.layout desk.office before after run (each-stays layout old before after desk turn run on moved (Went taken) unit)
      old.running desk.running unit.stands.is_desk.going unit.stands.differ_so unit.stands.running

  abbrev later : DeskModel
  later = with_progress p.stands.row.number progress desk

  running-so : AllStand desk.layout desk.office after (moved ∷ without_first run old.running) later.running
  running-so = subst (λ (n : ℕ). AllStand desk.layout desk.office after (moved ∷ without_first run old.running) (put_step n ∷ without_run n desk.running)) (sym its_run) (own, others)

  pub went-stands : (answer : Answer) (put : JobsView) → IsPutBack run moved old put → StandsForDesk layout put after (work_of answer run desk).desk
  went-stands answer put back =
      subst (StandsForDesk layout put after) (sym (ap (λ (done : TurnDone). done.desk) (went-done answer)))
      (record {
        layout_is = unit.stands.layout_is;
        is_desk = subst IsDesk (ap (λ (done : TurnDone). done.desk) (went-done answer)) (work-kept layout old before after desk turn run on moved (Went taken) unit answer);
        tables = back.tables ∙ unit.stands.tables;
        failed = back.failed ∙ unit.stands.failed;
        running = subst (λ (seen : List RunningStepView). AllStand desk.layout desk.office after seen later.running) (sym back.running) running-so;
        differ_so = put-differ (put_step p.stands.row.number) desk.running unit.stands.differ_so;
        points = subst (PointsStand desk.office) (sym back.points) unit.stands.points;
        committed = committed-so layout old before after desk turn run on moved (Went taken) unit before after unit.stands.committed unit.keeps;
      })
