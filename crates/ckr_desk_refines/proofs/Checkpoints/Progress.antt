-- A running step in memory is as far as its job says, with the lengths of its outputs and with the state of its program.
use Rattle.std.proofs.Common.{◌≡◌, ◌≤◌, ℕ, true, List, length, ap, sym, ◌∙◌, subst, None}
use Rattle.ckr_desk_memory.specs.EntryModels.{IsAsFar}
use Rattle.ckr_desk_memory.specs.View.{RunningStepView, length_in}
use Rattle.ckr_library.specs.NameMaps.{Name}
use Rattle.ckr_meaning.specs.EffectiveJob.{Effective, is_among, names_of}
use Rattle.ckr_meaning.specs.StepRun.{StepStart, case_at, within_at, work_at}
use Rattle.ckr_points_library.specs.Commit.{output_names}
use Rattle.ckr_points.specs.Payload.{length_now, rewrites_nothing}
use Rattle.ckr_points.specs.Restart.{step_in}
use Rattle.ckr_points_invariant.specs.RunningSteps.{its_start}
use Rattle.ckr_points_invariant.proofs.Steps.Commits.{place_so}
use Rattle.ckr_steps.specs.Places.{ShowsWithin}
use Rattle.ckr_steps.proofs.NextUnits.{taken_is}
use Rattle.ckr_desk_turn.proofs.Checkpoints.States.{state-so}
use Rattle.ckr_desk_turn.proofs.NextEvents.WithinStep.{by-step}
use Rattle.ckr_desk_turn.proofs.RunningSteps.{going-within}
use Rattle.ckr_desk_turn.specs.Desk.{DeskModel, DeskStep}
use Rattle.ckr_desk_turn.specs.EntryStates.{checkpoint_state}
use Rattle.ckr_desk_turn.specs.Invariant.{IsDesk, IsGoing}
use Rattle.ckr_desk_refines.specs.Standing.{StandsForStep}
use Rattle.ckr_desk_refines.specs.StepSets.{HasSets}
use Rattle.ckr_desk_refines.proofs.Standing.Lengths.{each-length}
use Rattle.ckr_desk_refines.proofs.Units.OtherSteps.{same-start}

module _ (desk : DeskModel) (is : IsDesk desk) (image : List ℕ) (on : RunningStepView) (step : DeskStep) (going : IsGoing desk.office step) (stands : StandsForStep desk.layout desk.office image on step) where
  starts-same : going.start ≡ stands.start
  starts-same = same-start desk.layout desk.office image on step going stands

  pub own-length : (name : Name) → is_among (output_names going.start.root going.start.owned) name ≡ true → length_in on.sets.sets name ≡ length_now (within_at going.start step.progress.writes) desk.office.tables.sets name
  own-length name among =
      by-step desk is step.run going.row going.number going.committed going.start (going-within desk.office step going)
      (λ leg owned running starts spaced.
      let its : its_start leg owned going.number ≡ stands.start = sym starts ∙ starts-same in
      each-length desk.layout desk.office step.run going.row leg owned going.number going.committed step.progress.writes is.kept.events running spaced going.behind
      (subst (λ (s : StepStart). step.progress.writes ≤ length (work_at s).writes) starts going.fit)
      (subst (λ (s : StepStart). rewrites_nothing s going.committed step.progress.writes ≡ true) starts going.plain)
      image on.sets
      (subst (λ (s : StepStart). HasSets desk.office.tables.sets (names_of s.root s.owned) on.sets) (sym its) stands.sets)
      (subst (λ (s : StepStart). ShowsWithin (Unit {0}) image desk.layout s step.progress.writes on.sets) (sym its) stands.shows)
      stands.checked name (ap (λ (s : StepStart). is_among (output_names s.root s.owned) name) (sym starts) ∙ among)
      ∙ ap (λ (s : StepStart). length_now (within_at s step.progress.writes) desk.office.tables.sets name) (sym starts))

  pub as-far : on.code ≡ None → IsAsFar desk.office.tables going.row going.start on step.progress
  as-far none =
      by-step desk is step.run going.row going.number going.committed going.start (going-within desk.office step going)
      (λ leg owned running starts spaced. record {
        root =
            ap (λ (job : Effective). job.root) (sym (place_so desk.layout desk.office step.run going.row leg owned going.number going.committed is.kept.events running).job)
            ∙ ap (λ (s : StepStart). s.root) (sym starts);
        number = ap step_in running.stands ∙ ap (λ (s : StepStart). s.number) (sym starts);
        taken = taken_is on.step.state (case_at stands.start) step.progress.taken (stands.stands none).state;
        writes = stands.writes;
        lengths = own-length;
        state = λ entries.
            state-so on.step.state (case_at stands.start) step.progress.taken entries (stands.stands none).state
            ∙ ap (λ (s : StepStart). checkpoint_state (case_at s) step.progress.taken entries) (sym starts-same);
      })
