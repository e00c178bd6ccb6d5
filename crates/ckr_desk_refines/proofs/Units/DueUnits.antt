-- What a turn does with the running step of a run is due of it, at the desk and in memory.
use Rattle.std.proofs.Common.{◌≡◌, ℕ, Bool, true, false, List, find, refl, ap, sym, ◌∙◌, subst, Option, Some, None}
use Rattle.std.specs.Prelude.{◌==◌}
use Rattle.std.proofs.lemmas.Bool.{false≢true}
use Rattle.ckr_base.specs.declared.code.Code.{Code}
use Rattle.ckr_base.specs.declared.programs.NextDue.{NextDue}
use Rattle.ckr_base.specs.declared.programs.NextDue.TheVariants.{Unit as OneUnit, Checkpoint, Cancel, Finished}
use Rattle.ckr_base.proofs.Options.{some-not-none}
use Rattle.ckr_desk_memory.specs.View.{RunningStepView}
use Rattle.ckr_desk_turn.proofs.RunningSteps.{FoundStep, found-step, going-within, stopped-code}
use Rattle.ckr_desk_turn.proofs.NextEvents.WithinStep.{by-step}
use Rattle.ckr_desk_turn.specs.Invariant.{IsDesk, IsGoing}
use Rattle.ckr_meaning.specs.EffectiveJob.{OwnedStep}
use Rattle.ckr_meaning.specs.StepRun.{StepStart}
use Rattle.ckr_points.specs.Restart.{place_of, step_in}
use Rattle.ckr_points.specs.Rows.{RunRow, run_of, step_of_run}
use Rattle.ckr_desk_refines.specs.Standing.{StandsForStep}
use Rattle.ckr_steps.specs.Units.{due_of}
use Rattle.ckr_desk_turn.specs.Desk.{DeskModel, DeskStep, jobs_of, seen_from}
use Rattle.ckr_desk_turn.specs.Due.{next_due}
use Rattle.ckr_desk_turn.specs.Jobs.{TurnStep, as_stopped}
use Rattle.ckr_desk_turn.specs.Turns.{MountedTurn, plan_for}
use Rattle.ckr_desk_turn.specs.Units.{StepProgress}
use Rattle.ckr_desk_refines.proofs.Standing.StepViews.{place-due}
use Rattle.ckr_desk_refines.proofs.Units.OtherSteps.{same-start}
use Rattle.ckr_desk_refines.proofs.Units.Plans.{WorksAt, asked_in, takes_in, works-at}

-- the running step of a run, of which this is due
pub record IsDue (desk : DeskModel) (run : ℕ) (due : NextDue) : Type 0 where
  pub step : DeskStep
  pub at : find (λ (step : DeskStep). step.run == run) desk.running ≡ Some step
  pub same : step.run ≡ run
  pub going : IsGoing desk.office step
  pub is_due : next_due going.start step.progress ≡ due
  pub uncoded : step.code ≡ None

-- what is due of a step that hasn't stopped
due-of : (code : Option Code) (step : TurnStep) → code ≡ None → (as_stopped code step).due ≡ step.due
due-of None step none = refl
due-of (Some code) step none = absurd (some-not-none code none)

-- it is one that is found with this due, and with no code
pub due-found : (desk : DeskModel) (run : ℕ) (due : NextDue) (step : TurnStep) (found : FoundStep desk.office desk.running run step) → step.due ≡ due → step.code ≡ None → IsDue desk run due
due-found desk run due step found is_due uncoded =
    let its : TurnStep = seen_from desk.office found.on.run found.on.progress found.going.start in
    let none : found.on.code ≡ None = sym (stopped-code found.on.code its refl) ∙ sym (ap (λ (s : TurnStep). s.code) found.is) ∙ uncoded in
    record {
      step = found.on;
      at = found.at;
      same = found.same;
      going = found.going;
      is_due = sym (due-of found.on.code its none) ∙ sym (ap (λ (s : TurnStep). s.due) found.is) ∙ is_due;
      uncoded = none;
    }

pub is-due : (desk : DeskModel) (turn : MountedTurn) (run : ℕ) (due : NextDue) → IsDesk desk → asked_in (plan_for desk.layout (jobs_of desk) turn) ≡ Some (run, due) → IsDue desk run due
is-due desk turn run due is planned =
    let at : WorksAt desk run due (takes_in (plan_for desk.layout (jobs_of desk) turn)) = works-at desk turn run due (takes_in (plan_for desk.layout (jobs_of desk) turn)) is planned refl in
    let found : FoundStep desk.office desk.running at.row.number at.works.step = found-step desk.office at.row.number desk.running at.works.step is.going at.works.step_at in
    subst (λ n. IsDue desk n due) at.works.numbered (due-found desk at.row.number due at.works.step found at.works.is_due at.works.uncoded)

abbrev pub has_finished : NextDue → Bool
has_finished OneUnit = false
has_finished Checkpoint = false
has_finished Cancel = false
has_finished (Finished rc) = true

pub open-yet : (start : StepStart) (progress : StepProgress) → has_finished (next_due start progress) ≡ false → progress.closed ≡ false
open-yet start progress none = by progress.closed none
  where
    by : (b : Bool) → has_finished (next_due start (record progress { closed = b })) ≡ false → b ≡ false
    by true none = absurd (false≢true (sym none))
    by false none = refl

module _ (desk : DeskModel) (run : ℕ) (due : IsDue desk run OneUnit) where
  -- where a unit is due the step isn't closed
  pub due-unclosed : due.step.progress.closed ≡ false
  due-unclosed = open-yet due.going.start due.step.progress (ap has_finished due.is_due)

module _ (desk : DeskModel) (is : IsDesk desk) (run : ℕ) (what : NextDue) (due : IsDue desk run what) where
  abbrev row : RunRow
  row = due.going.row

  pub its-row : run_of desk.office.tables run ≡ Some row
  its-row = ap (run_of desk.office.tables) (sym due.same) ∙ due.going.row_at

  pub its-number : row.number ≡ run
  its-number = is.kept.events.numbered run row its-row

  -- the row has the step
  pub its-own : (own : OwnedStep) × (step_of_run row (step_in (place_of row)) ≡ Some own)
  its-own =
      by-step desk is due.step.run due.going.row due.going.number due.going.committed due.going.start (going-within desk.office due.step due.going)
      (λ leg owned running same spaced. (owned, ap (λ place. step_of_run row (step_in place)) (going-within desk.office due.step due.going).place ∙ running.found))

  -- the same is due in memory
  pub due-there : (image : List ℕ) (on : RunningStepView) → StandsForStep desk.layout desk.office image on due.step → due_of on.step.parm on.step.state ≡ what
  due-there image on stands =
      place-due stands.start due.step.progress on (stands.stands (stands.code ∙ due.uncoded)) (stands.served (stands.code ∙ due.uncoded))
      ∙ ap (λ (start : StepStart). next_due start due.step.progress) (sym (same-start desk.layout desk.office image on due.step due.going stands))
      ∙ due.is_due
