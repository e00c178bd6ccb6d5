-- The places up to its first step are reached by the job of a continued run where the earlier run's job reaches them.
use Rattle.std.proofs.Common.{◌≡◌, ◌≤◌, ℕ, pred, length, take, refl, ap, sym, ◌∙◌, subst, Option, Some, None, arith}
use Rattle.std.specs.Option.{option_map}
use Rattle.std.proofs.lemmas.Option.{same_Some}
use Rattle.ckr_base.proofs.Options.{some-not-none}
use Rattle.ckr_programs.specs.Work.{Work}
use Rattle.ckr_meaning.specs.EffectiveJob.{Effective, OwnedStep, flaws_in, step_at}
use Rattle.ckr_meaning.specs.Fronts.{BeginAlike}
use Rattle.ckr_meaning.specs.JobRun.{all_go_on, start_at, start_in, walk_before, walk_from}
use Rattle.ckr_meaning.specs.LibrarySet.{Library}
use Rattle.ckr_meaning.specs.StepRun.{StepStart, placed_at, work_at}
use Rattle.ckr_meaning.specs.declared.place.Place.{Place}
use Rattle.ckr_meaning.proofs.Fronts.{begin-goes_on, begin-placed, begin-step, begin-work}
use Rattle.ckr_points.specs.Office.{Leg}
use Rattle.ckr_points.specs.Payload.{writes_in}
use Rattle.ckr_points.specs.Restart.{step_in}
use Rattle.ckr_points_invariant.specs.Invariant.{IsReached}
use Rattle.ckr_points_invariant.specs.RunningSteps.{start_of}
use Rattle.ckr_points_invariant.proofs.Steps.Walks.{start_at-of}

-- a step as it starts, by its step
pub start-found : (job : Effective) (library : Library) (number : ℕ) (start : StepStart) → start_at job library number ≡ Some start → (owned : OwnedStep) × (step_at job number ≡ Some owned) × (start_of job library number owned ≡ start)
unfolding start_at
start-found job library number start starts = by (step_at job number) refl starts
  where
    by : (step : Option OwnedStep) → step_at job number ≡ step → option_map (λ owned. start_in job.root number owned (walk_before job library number)) step ≡ Some start → (owned : OwnedStep) × (step_at job number ≡ Some owned) × (start_of job library number owned ≡ start)
    by None e starts = absurd (some-not-none start (sym starts))
    by (Some owned) e starts = (owned, e, same_Some _ start starts)

module _ (count : ℕ) (leg fellow : Leg) (alike : BeginAlike count leg.job fellow.job leg.start fellow.start) where
  module _ (number : ℕ) (low : number ≤ count) (owned : OwnedStep) (found : step_at leg.job number ≡ Some owned) where
    abbrev pub mine : StepStart
    mine = start_of leg.job leg.start number owned

    abbrev pub its : StepStart
    its = start_of fellow.job fellow.start number owned

    pub found-there : step_at fellow.job number ≡ Some owned
    found-there = sym (begin-step count leg.job fellow.job leg.start fellow.start alike number low) ∙ found

    pub placed-there : placed_at mine ≡ placed_at its
    placed-there = begin-placed count leg.job fellow.job leg.start fellow.start alike number owned low found

    pub work-there : work_at mine ≡ work_at its
    work-there = begin-work count leg.job fellow.job leg.start fellow.start alike number owned low found

  goes-there : (number : ℕ) → number ≤ count → all_go_on leg.job.root 1 (take (pred number) leg.job.steps) (walk_from leg.start) ≡ all_go_on fellow.job.root 1 (take (pred number) fellow.job.steps) (walk_from fellow.start)
  goes-there number low = begin-goes_on count leg.job fellow.job leg.start fellow.start alike number (omega (arith, low))

  -- what holds of a step as one job starts it holds of it as the other one does
  found-here : (number : ℕ) → number ≤ count → (owned : OwnedStep) → step_at fellow.job number ≡ Some owned → step_at leg.job number ≡ Some owned
  found-here number low owned found = begin-step count leg.job fellow.job leg.start fellow.start alike number low ∙ found

  pub reached-there : (place : Place) → step_in place ≤ count → IsReached leg place → IsReached fellow place
  reached-there place low reached = record {
    begun = reached.begun;
    goes_on = sym (goes-there (step_in place) low) ∙ reached.goes_on;
    flawless = λ start before starts.
        let found = start-found fellow.job fellow.start (step_in place) start starts in
        let here : step_at leg.job (step_in place) ≡ Some found.0 = found-here (step_in place) low found.0 found.1 in
        ap (λ s. flaws_in (placed_at s)) (sym found.2) ∙ ap flaws_in (sym (placed-there (step_in place) low found.0 here))
        ∙ reached.flawless (mine (step_in place) low found.0 here) before (start_at-of leg.job leg.start (step_in place) found.0 here);
    some = λ start starts.
        let found = start-found fellow.job fellow.start (step_in place) start starts in
        let here : step_at leg.job (step_in place) ≡ Some found.0 = found-here (step_in place) low found.0 found.1 in
        let few = reached.some (mine (step_in place) low found.0 here) (start_at-of leg.job leg.start (step_in place) found.0 here) in
        subst (λ (s : StepStart). writes_in place ≤ length (work_at s).writes) found.2
        (subst (λ (all : Work). writes_in place ≤ length all.writes) (work-there (step_in place) low found.0 here) few);
  }
