-- What holds of a turn that works, by the jobs in memory.
use Rattle.std.proofs.Common.{◌≡◌, ℕ, List, find, ap, sym, ◌∙◌, subst, Some}
use Rattle.std.proofs.lemmas.Option.{same_Some}
use Rattle.ckr_base.specs.declared.programs.NextDue.TheVariants.{Unit as OneUnit}
use Rattle.ckr_desk_memory.specs.EventChanges.{is_of_run}
use Rattle.ckr_desk_memory.specs.View.{JobsView, RunningStepView}
use Rattle.ckr_meaning.specs.EffectiveJob.{OwnedStep}
use Rattle.ckr_points.specs.Restart.{place_of, step_in}
use Rattle.ckr_points.specs.Rows.{RunRow, run_of, step_of_run}
use Rattle.ckr_desk_refines.specs.Standing.{StandsForStep, StandsForDesk}
use Rattle.ckr_steps.specs.Units.{due_of}
use Rattle.ckr_desk_turn.specs.Desk.{DeskModel, DeskStep, jobs_of}
use Rattle.ckr_desk_turn.specs.declared.plan.Plan.TheVariants.{Work}
use Rattle.ckr_desk_turn.specs.Turns.{MountedTurn, plan_for}
use Rattle.ckr_volumes.specs.declared.layout.Layout.{Layout}
use Rattle.ckr_desk_refines.proofs.Units.DueUnits.{IsDue, due-there, is-due, its-number, its-own, its-row}
use Rattle.ckr_desk_refines.proofs.Units.Plans.{asked_in}
use Rattle.ckr_desk_refines.proofs.Units.StepLists.{IsPair, pair-of, seen-of}

module _ (layout : Layout) (jobs : JobsView) (image : List ℕ) (desk : DeskModel) (turn : MountedTurn) (run : ℕ) where
  pub due-so : (on : RunningStepView) → StandsForDesk layout jobs image desk → plan_for desk.layout (jobs_of desk) turn ≡ Work run → find (is_of_run run) jobs.running ≡ Some on → due_of on.step.parm on.step.state ≡ OneUnit
  due-so on stands planned found =
      let due : IsDue desk run OneUnit = is-due desk turn run OneUnit stands.is_desk (ap asked_in planned) in
      let pair : IsPair desk.layout desk.office image run on desk.running = pair-of desk.layout desk.office image run on jobs.running desk.running stands.running stands.is_desk.going found in
      let same : pair.step ≡ due.step = same_Some pair.step due.step (sym pair.at ∙ due.at) in
      due-there desk stands.is_desk run OneUnit due image on (subst (λ (step : DeskStep). StandsForStep desk.layout desk.office image on step) same pair.stands)

  pub there-so : StandsForDesk layout jobs image desk → plan_for desk.layout (jobs_of desk) turn ≡ Work run → (on : RunningStepView) × (find (is_of_run run) jobs.running ≡ Some on)
  there-so stands planned =
      let due : IsDue desk run OneUnit = is-due desk turn run OneUnit stands.is_desk (ap asked_in planned) in
      seen-of desk.layout desk.office image run due.step jobs.running desk.running stands.running due.at

  pub within-so : StandsForDesk layout jobs image desk → plan_for desk.layout (jobs_of desk) turn ≡ Work run
      → (row : RunRow) × (own : OwnedStep) × (run_of desk.office.tables run ≡ Some row) × (step_of_run row (step_in (place_of row)) ≡ Some own) × (row.number ≡ run)
  within-so stands planned =
      let due : IsDue desk run OneUnit = is-due desk turn run OneUnit stands.is_desk (ap asked_in planned) in
      let own = its-own desk stands.is_desk run OneUnit due in
      (due.going.row, own.0, its-row desk stands.is_desk run OneUnit due, own.1, its-number desk stands.is_desk run OneUnit due)
