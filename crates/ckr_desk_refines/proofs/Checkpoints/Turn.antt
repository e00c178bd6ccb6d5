-- The running step whose checkpoint is taken, in memory and at the desk.
use Rattle.std.proofs.Common.{◌≡◌, ℕ, Bool, true, false, List, refl, ap, sym, ◌∙◌, subst, Option, Some, None}
use Rattle.std.specs.Option.{option_map_or}
use Rattle.std.proofs.lemmas.Option.{same_Some}
use Rattle.ckr_base.proofs.Bools.{bool-cases}
use Rattle.ckr_base.proofs.Options.{some-not-none}
use Rattle.ckr_base.specs.declared.programs.NextDue.TheVariants.{Checkpoint}
use Rattle.ckr_desk_memory.specs.View.{JobsView, RunningStepView}
use Rattle.ckr_events.specs.declared.event.Event.{Event}
use Rattle.ckr_meaning.specs.StepRun.{StepStart}
use Rattle.ckr_points.specs.Restart.{place_of, step_in}
use Rattle.ckr_points.specs.RuleCases.{rd_in_effect}
use Rattle.ckr_points.specs.Rows.{RunRow, run_of}
use Rattle.ckr_rules.specs.RuleTables.{suppresses}
use Rattle.ckr_steps.specs.Units.{due_of}
use Rattle.ckr_desk_turn.proofs.Checkpoints.Invariant.{taken-keeps}
use Rattle.ckr_desk_turn.proofs.Checkpoints.Plans.{takes}
use Rattle.ckr_desk_turn.proofs.NextEvents.WithinStep.{by-step}
use Rattle.ckr_desk_turn.proofs.RunningSteps.{going-within}
use Rattle.ckr_desk_turn.specs.Checkpoints.{checkpoint_event, checkpoint_fits, checkpoint_try, checkpoint_unless}
use Rattle.ckr_desk_turn.specs.Desk.{DeskModel, DeskStep, TurnDone, progress_of, progress_unless}
use Rattle.ckr_desk_turn.specs.Due.{next_due}
use Rattle.ckr_desk_turn.specs.Invariant.{IsDesk}
use Rattle.ckr_desk_turn.specs.Taken.{served_by, taken_of}
use Rattle.ckr_desk_turn.specs.Units.{StepProgress}
use Rattle.ckr_desk_turn.specs.Turns.{MountedTurn}
use Rattle.ckr_volumes.specs.declared.layout.Layout.{Layout}
use Rattle.ckr_desk_refines.specs.Checkpoints.{IsStepOf, IsToTake}
use Rattle.ckr_desk_refines.specs.Standing.{StandsForStep}
use Rattle.ckr_desk_refines.proofs.Standing.StepViews.{place-due}
use Rattle.ckr_desk_refines.proofs.Units.DueUnits.{IsDue, due-there, has_finished, is-due, open-yet}
use Rattle.ckr_desk_refines.proofs.Units.OtherSteps.{same-start}
use Rattle.ckr_desk_refines.proofs.Units.Plans.{WorksAt, asked_in, takes_in, works-at}
use Rattle.ckr_desk_refines.proofs.Units.StepLists.{IsPair, pair-of}
use Rattle.ckr_points.specs.Payload.{start_in_office}

module _ (layout : Layout) (old : JobsView) (image : List ℕ) (desk : DeskModel) (turn : MountedTurn) (run : ℕ) (on : RunningStepView) (to : IsToTake layout old image desk turn run on) where
  abbrev pub its_desk : IsDesk desk
  its_desk = to.stands.is_desk

  -- the running step of the desk
  abbrev pub pair : IsPair desk.layout desk.office image run on desk.running
  pair = pair-of desk.layout desk.office image run on old.running desk.running to.stands.running its_desk.going to.found

  abbrev pub row : RunRow
  row = pair.going.row

  abbrev pub start : StepStart
  start = pair.going.start

  pub numbered : row.number ≡ run
  numbered = its_desk.kept.events.numbered pair.step.run row pair.going.row_at ∙ pair.same

  pub its-step : IsStepOf desk.office run row start
  its-step = record { row_at = ap (λ n. run_of desk.office.tables n) (sym pair.same) ∙ pair.going.row_at; start_at = pair.going.start_at }

  -- what is due there
  due-at : IsDue desk run Checkpoint
  due-at = is-due desk turn run Checkpoint its_desk (ap asked_in to.planned)

  same-step : due-at.step ≡ pair.step
  same-step = same_Some due-at.step pair.step (sym due-at.at ∙ pair.at)

  pub due-so : due_of on.step.parm on.step.state ≡ Checkpoint
  due-so = due-there desk its_desk run Checkpoint due-at image on (subst (λ (step : DeskStep). StandsForStep desk.layout desk.office image on step) (sym same-step) pair.stands)

  -- its run doesn't wait with a code
  pub uncoded : pair.step.code ≡ None
  uncoded = ap (λ (step : DeskStep). step.code) (sym same-step) ∙ due-at.uncoded

  pub none : on.code ≡ None
  none = pair.stands.code ∙ uncoded

  next-so : next_due start pair.step.progress ≡ Checkpoint
  next-so =
      ap (λ (s : StepStart). next_due s pair.step.progress) (same-start desk.layout desk.office image on pair.step pair.going pair.stands)
      ∙ sym (place-due pair.stands.start pair.step.progress on (pair.stands.stands none) (pair.stands.served none)) ∙ due-so

  -- RD doesn't suppress it
  takes-so : suppresses (rd_in_effect row start.number) ≡ false
  takes-so =
      let at : WorksAt desk run Checkpoint true = works-at desk turn run Checkpoint true its_desk (ap asked_in to.planned) (ap takes_in to.planned) in
      let row_is : at.row ≡ row = same_Some at.row row (sym at.row_at ∙ its-step.row_at) in
      let within = going-within desk.office pair.step pair.going in
      let number_is : at.works.number ≡ pair.going.number = ap step_in (sym at.works.place ∙ ap place_of row_is ∙ within.place) in
      let start_is : start.number ≡ pair.going.number =
      by-step desk its_desk pair.step.run row pair.going.number pair.going.committed start within (λ leg owned running starts spaced. ap (λ (s : StepStart). s.number) starts) in
      ap (λ n. suppresses (rd_in_effect row n)) (start_is ∙ sym number_is) ∙ ap (λ (r : RunRow). suppresses (rd_in_effect r at.works.number)) (sym row_is) ∙ at.works.unless refl

  pub unclosed : pair.step.progress.closed ≡ false
  unclosed = open-yet start pair.step.progress (ap has_finished next-so)

  pub known : progress_of desk run ≡ Some pair.step.progress
  known =
      ap (λ (o : Option DeskStep). option_map_or (λ (step : DeskStep). progress_unless step.code step.progress) o None) pair.at
      ∙ ap (λ code. progress_unless code pair.step.progress) uncoded

  -- ---- the turn of the desk

  pub taken-by : (fits : Bool) → checkpoint_fits desk.office.tables.sets row start pair.step.progress ≡ fits → taken_of run desk ≡ served_by row (checkpoint_try fits desk.office.tables row start pair.step.progress) desk
  taken-by fits is =
      ap (λ n. taken_of n desk) (sym pair.same)
      ∙ takes desk pair.step pair.going its_desk (ap (progress_of desk) pair.same ∙ known)
      ∙ ap (λ b. served_by row (checkpoint_unless b desk.office.tables row start pair.step.progress) desk) takes-so
      ∙ ap (λ b. served_by row (checkpoint_try b desk.office.tables row start pair.step.progress) desk) is

  pub taken-kept : IsDesk (taken_of run desk).desk
  taken-kept = (taken-keeps desk run pair.step.progress its_desk known unclosed).kept

  -- it tells an event exactly where the entry fits
  pub fits-told : (event : Event) → (taken_of run desk).event ≡ Some event → checkpoint_fits desk.office.tables.sets row start pair.step.progress ≡ true
  fits-told event told =
      bool-cases (checkpoint_fits desk.office.tables.sets row start pair.step.progress) (λ e. e)
      (λ e. absurd (some-not-none event (sym told ∙ ap (λ (done : TurnDone). done.event) (taken-by false e))))

  pub event-told : checkpoint_fits desk.office.tables.sets row start pair.step.progress ≡ true → (event : Event) → (taken_of run desk).event ≡ Some event → event ≡ checkpoint_event desk.office.tables.sets row start pair.step.progress
  event-told fits event told = same_Some event (checkpoint_event desk.office.tables.sets row start pair.step.progress) (sym told ∙ ap (λ (done : TurnDone). done.event) (taken-by true fits))

  -- the row, the step and how far it has come are those that are found
  pub found-same : {X : Type 0} (f : RunRow → StepStart → StepProgress → X) (other : RunRow) (begun : StepStart) (progress : StepProgress) → IsStepOf desk.office run other begun → progress_of desk run ≡ Some progress → f other begun progress ≡ f row start pair.step.progress
  found-same f other begun progress of at =
      let row_is : other ≡ row = same_Some other row (sym of.row_at ∙ its-step.row_at) in
      let start_is : begun ≡ start = same_Some begun start (sym of.start_at ∙ ap (start_in_office desk.office) row_is ∙ its-step.start_at) in
      ap (λ (r : RunRow). f r begun progress) row_is ∙ ap (λ (s : StepStart). f row s progress) start_is ∙ ap (f row start) (same_Some progress pair.step.progress (sym at ∙ known))

  pub found-fits : (other : RunRow) (begun : StepStart) (progress : StepProgress) → IsStepOf desk.office run other begun → progress_of desk run ≡ Some progress → checkpoint_fits desk.office.tables.sets other begun progress ≡ checkpoint_fits desk.office.tables.sets row start pair.step.progress
  found-fits other begun progress of at = found-same (checkpoint_fits desk.office.tables.sets) other begun progress of at
