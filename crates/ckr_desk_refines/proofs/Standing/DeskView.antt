-- A desk is what is seen of it in memory.
use Rattle.std.proofs.Common.{◌≡◌, ℕ, Bool, List, [], ◌∷◌, map, refl, ap, sym, ◌∙◌, Option}
use Rattle.ckr_base.specs.declared.code.Code.{Code}
use Rattle.ckr_base.proofs.Options.{option-cases}
use Rattle.ckr_desk_memory.specs.View.{JobsView, RunningStepView}
use Rattle.ckr_meaning.specs.StepRun.{case_at}
use Rattle.ckr_points.specs.Office.{Office}
use Rattle.ckr_steps.proofs.NextUnits.{taken_is}
use Rattle.ckr_steps.specs.Units.{AreServed, is_cancelled, is_checkpointed, taken_of}
use Rattle.ckr_desk_turn.specs.Desk.{DeskModel, DeskStep}
use Rattle.ckr_desk_turn.specs.Units.{StepProgress}
use Rattle.ckr_desk_turn.specs.declared.failed_run.FailedRun.{FailedRun}
use Rattle.ckr_volumes.specs.declared.layout.Layout.{Layout}
use Rattle.ckr_desk_refines.specs.Standing.{AllStand, StandsForStep, StandsForDesk, desk_seen, progress_on, step_on}

abbrev come_so : ℕ → ℕ → Bool → Bool → Bool → StepProgress
come_so taken writes checkpointed cancelled closed = record { taken = taken; writes = writes; checkpointed = checkpointed; cancelled = cancelled; closed = closed }

abbrev on_so : ℕ → StepProgress → Option Code → DeskStep
on_so run progress code = record { run = run; progress = progress; code = code }

module _ (layout : Layout) (office : Office) (image : List ℕ) where
  -- a step that goes on has come as far as in memory, and of one that has stopped only the writes are asked
  progress-so : (on : RunningStepView) (step : DeskStep) → StandsForStep layout office image on step → step.progress ≡ progress_on on.code on.step
  progress-so on step stands =
      let p : StepProgress = step.progress in
      option-cases on.code
      (λ none.
      let served : AreServed p.checkpointed p.cancelled on.step.state = stands.served none in
      ap (λ taken. come_so taken p.writes p.checkpointed p.cancelled p.closed) (sym (taken_is on.step.state (case_at stands.start) p.taken (stands.stands none).state))
      ∙ ap (λ writes. come_so (taken_of on.step.state) writes p.checkpointed p.cancelled p.closed) (sym stands.writes)
      ∙ ap (λ b. come_so (taken_of on.step.state) on.step.writes b p.cancelled p.closed) (sym served.checkpoint)
      ∙ ap (λ b. come_so (taken_of on.step.state) on.step.writes (is_checkpointed on.step.state) b p.closed) (sym served.cancel)
      ∙ ap (come_so (taken_of on.step.state) on.step.writes (is_checkpointed on.step.state) (is_cancelled on.step.state)) (sym (stands.stands none).open_or_closed)
      ∙ ap (λ code. progress_on code on.step) (sym none))
      (λ code some. stands.stopped code some ∙ ap (λ code. progress_on code on.step) (sym some))

  step-so : (on : RunningStepView) (step : DeskStep) → StandsForStep layout office image on step → step ≡ step_on on
  step-so on step stands =
      ap (λ run. on_so run step.progress step.code) (sym stands.run) ∙ ap (λ p. on_so on.run p step.code) (progress-so on step stands)
      ∙ ap (on_so on.run (progress_on on.code on.step)) (sym stands.code)

  steps-so : (seen : List RunningStepView) (running : List DeskStep) → AllStand layout office image seen running → running ≡ map step_on seen
  steps-so [] [] all = refl
  steps-so [] (step ∷ running) all = absurd all
  steps-so (on ∷ seen) [] all = absurd all
  steps-so (on ∷ seen) (step ∷ running) all =
      ap (λ (first : DeskStep). first ∷ running) (step-so on step all.0) ∙ ap (λ rest. step_on on ∷ rest) (steps-so seen running all.1)

abbrev desk_so : Layout → Office → List DeskStep → List FailedRun → DeskModel
desk_so layout office running failed = record { layout = layout; office = office; running = running; failed = failed }

pub desk-so : (layout : Layout) (jobs : JobsView) (image : List ℕ) (desk : DeskModel) → StandsForDesk layout jobs image desk → desk ≡ desk_seen layout desk.office jobs
desk-so layout jobs image desk stands =
    ap (λ l. desk_so l desk.office desk.running desk.failed) stands.layout_is
    ∙ ap (λ running. desk_so layout desk.office running desk.failed) (steps-so desk.layout desk.office image jobs.running desk.running stands.running)
    ∙ ap (desk_so layout desk.office (map step_on jobs.running)) (sym stands.failed)
