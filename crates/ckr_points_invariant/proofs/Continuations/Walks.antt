-- The job of a run that continues another one has come to the step as that one's job did.
use Rattle.std.proofs.Common.{◌≡◌, ℕ, pred, true, false, [], List, ap, sym, ◌∙◌, Some, arith, take}
use Rattle.ckr_library.specs.NameMaps.{Name}
use Rattle.ckr_base.proofs.Options.{some-one}
use Rattle.ckr_meaning.specs.EffectiveJob.{OwnedStep, flaws_in, is_among, names_made, step_at}
use Rattle.ckr_meaning.specs.JobRun.{is_bypassed}
use Rattle.ckr_meaning.specs.Fronts.{BeginAlike, WalkAlike, front_names}
use Rattle.ckr_meaning.specs.JobRun.{all_go_on, at, start_at, walk_before, walk_from}
use Rattle.ckr_meaning.specs.LibrarySet.{Library}
use Rattle.ckr_meaning.specs.StepRun.{StepStart, placed_at, work_at}
use Rattle.ckr_meaning.proofs.Fronts.{begin-goes_on, begin-placed, begin-step, begin-walk, begin-work}
use Rattle.ckr_points.specs.Office.{Leg, Office, continued_leg}
use Rattle.ckr_points.specs.Restart.{step_in}
use Rattle.ckr_points.specs.Rows.{RunRow, StartPoint}
use Rattle.ckr_points_invariant.specs.StartedSteps.{start_by}
use Rattle.ckr_points_invariant.specs.RunningSteps.{start_of}
use Rattle.ckr_points_invariant.proofs.Continuations.Fronts.{begins-alike}
use Rattle.ckr_points_invariant.proofs.Soundness.{at-passed}
use Rattle.ckr_points_invariant.proofs.Steps.Walks.{start_at-of}
use Rattle.ckr_points_invariant.proofs.Continuations.EarlierRun.{Coming, IsEarlier, leg_from, row_then}

module _ (now : Office) (row other : RunRow) (start : Library) (reach : List Name) (step : ℕ) (point : StartPoint) (earlier : IsEarlier now row other (leg_from other start reach) step point)
    (initiator : ℕ) (coming : Coming) where
  abbrev pub next : RunRow
  next = row_then now row other step point initiator coming

  abbrev pub leg : Leg
  leg = continued_leg now next (leg_from other start reach)

  abbrev pub owned : OwnedStep
  owned = earlier.begun.owned

  -- the step as the job starts it, and as the earlier run's job did
  abbrev pub starts : StepStart
  starts = start_of leg.job leg.start step owned

  abbrev pub started : StepStart
  started = start_by (leg_from other start reach) owned step

  pub alike : BeginAlike step leg.job other.job leg.start start
  alike = begins-alike other.job start now.library step row.number row.deck owned earlier.begun.found

  walks : WalkAlike (front_names step leg.job) (walk_before leg.job leg.start step) (walk_before other.job start step)
  walks = begin-walk step leg.job other.job leg.start start alike step (omega arith)

  pub step-here : step_at leg.job step ≡ Some owned
  step-here = begin-step step leg.job other.job leg.start start alike step (omega arith) ∙ earlier.begun.found

  -- a step by its number is this one
  pub step-same : (its : OwnedStep) → step_at leg.job step ≡ Some its → owned ≡ its
  step-same its found = some-one owned its (step_at leg.job step) step-here found

  pub goes_on : all_go_on leg.job.root 1 (take (pred step) leg.job.steps) (walk_from leg.start) ≡ true
  goes_on = begin-goes_on step leg.job other.job leg.start start alike step (omega arith) ∙ earlier.begun.goes_on

  pub rcs : next.rcs ≡ (walk_before leg.job leg.start step).rcs
  rcs = earlier.begun.rcs ∙ sym walks.rcs

  pub earlier-names : (walk_before leg.job leg.start step).earlier ≡ (walk_before other.job start step).earlier
  earlier-names = walks.earlier

  -- what was passed on at a place of the step
  pub passed : step_in coming.place ≡ step → coming.passed ≡ (at other.job start coming.place).passed → next.passed ≡ (walk_before leg.job leg.start step).standing.passed
  passed stands its =
      its ∙ at-passed other.job start coming.place ∙ ap (λ n. (walk_before other.job start n).standing.passed) stands ∙ sym walks.standing.passed

  placed : placed_at starts ≡ placed_at started
  placed = begin-placed step leg.job other.job leg.start start alike step owned (omega arith) step-here

  pub flawless : flaws_in (placed_at starts) ≡ []
  flawless = ap flaws_in placed ∙ earlier.begun.flawless

  pub runs : is_bypassed next.rcs owned ≡ false
  runs = ap (λ rcs. is_bypassed rcs owned) earlier.begun.rcs ∙ earlier.begun.runs

  pub made-names : (name : Name) → is_among (names_made (placed_at starts)) name ≡ is_among (names_made (placed_at started)) name
  made-names name = ap (λ placed. is_among (names_made placed) name) placed

  pub work-same : work_at starts ≡ work_at started
  work-same = begin-work step leg.job other.job leg.start start alike step owned (omega arith) step-here

  -- the step as it starts is this one
  pub start-same : (its : StepStart) → start_at leg.job leg.start step ≡ Some its → starts ≡ its
  start-same its found = some-one starts its (start_at leg.job leg.start step) (start_at-of leg.job leg.start step owned step-here) found
