-- A running step is found on both sides, and put back before those of other runs.
use Rattle.std.proofs.Common.{◌≡◌, ◌≢◌, ℕ, Bool, true, false, cond, not, List, [], ◌∷◌, refl, ap, sym, ◌∙◌, subst, Some}
use Rattle.std.specs.Prelude.{◌==◌, find}
use Rattle.std.specs.List.{AllByRecursion}
use Rattle.std.proofs.lemmas.Bool.{and_from, not-true, or_from, or_parts}
use Rattle.std.proofs.lemmas.Option.{same_Some}
use Rattle.ckr_base.proofs.Bools.{and-first, and-second, bool-cases}
use Rattle.ckr_base.proofs.Numbers.{equal-false, equal-true}
use Rattle.ckr_base.proofs.Options.{some-not-none}
use Rattle.ckr_desk_memory.specs.EventChanges.{is_of_run, without_first}
use Rattle.ckr_desk_memory.specs.View.{RunningStepView}
use Rattle.ckr_desk_turn.specs.Invariant.{IsGoing}
use Rattle.ckr_points.specs.Office.{Office}
use Rattle.ckr_desk_refines.specs.Standing.{AllStand, StandsForStep, differ, is_of_one}
use Rattle.ckr_desk_turn.specs.Desk.{DeskStep, without_run}
use Rattle.ckr_volumes.specs.declared.layout.Layout.{Layout}

-- the running step of a run in memory, as the desk has it
pub record StandsFound (layout : Layout) (office : Office) (image : List ℕ) (run : ℕ) (running : List DeskStep) (on : RunningStepView) : Type 0 where
  pub step : DeskStep
  pub at : find (λ (one : DeskStep). one.run == run) running ≡ Some step
  pub stands : StandsForStep layout office image on step

pub stands-found : (layout : Layout) (office : Office) (image : List ℕ) (run : ℕ) (seen : List RunningStepView) (running : List DeskStep) (on : RunningStepView) → AllStand layout office image seen running
    → find (is_of_run run) seen ≡ Some on → StandsFound layout office image run running on
stands-found layout office image run [] running on all e = absurd (some-not-none on (sym e))
stands-found layout office image run (one ∷ seen) [] on all e = absurd all
stands-found layout office image run (one ∷ seen) (step ∷ running) on all e =
    let its : (step.run == run) ≡ (one.run == run) = ap (λ n. n == run) (sym all.0.run) in
    bool-cases (one.run == run)
    (λ does. record {
      step = step;
      at = ap (λ b. cond b (Some step) (find (λ (other : DeskStep). other.run == run) running)) (its ∙ does);
      stands = subst (λ o. StandsForStep layout office image o step) (same_Some one on (sym (ap (λ b. cond b (Some one) (find (is_of_run run) seen)) does) ∙ e)) all.0;
    })
    (λ isnt.
    let later : StandsFound layout office image run running on = stands-found layout office image run seen running on all.1 (sym (ap (λ b. cond b (Some one) (find (is_of_run run) seen)) isnt) ∙ e) in
    record {
      step = later.step;
      at = ap (λ b. cond b (Some step) (find (λ (other : DeskStep). other.run == run) running)) (its ∙ isnt) ∙ later.at;
      stands = later.stands;
    })

-- ---- those of other runs

none_without : (run : ℕ) (running : List DeskStep) → is_of_one run running ≡ false → without_run run running ≡ running
none_without run [] none = refl
none_without run (step ∷ running) none =
    let parts = or_parts (step.run == run) (is_of_one run running) none in
    ap (λ b. cond (not b) (step ∷ without_run run running) (without_run run running)) parts.0
    ∙ ap (λ rest. step ∷ rest) (none_without run running parts.1)

module _ (layout : Layout) (office later : Office) (image now : List ℕ) (run : ℕ)
    (each : (on : RunningStepView) (step : DeskStep) → IsGoing office step → step.run ≢ run → StandsForStep layout office image on step → StandsForStep layout later now on step) where
  none_stands : (seen : List RunningStepView) (running : List DeskStep) → is_of_one run running ≡ false → AllByRecursion (IsGoing office) running → AllStand layout office image seen running → AllStand layout later now seen running
  none_stands [] [] none going all = tt
  none_stands [] (step ∷ running) none going all = absurd all
  none_stands (on ∷ seen) [] none going all = absurd all
  none_stands (on ∷ seen) (step ∷ running) none going all =
      let parts = or_parts (step.run == run) (is_of_one run running) none in
      (each on step going.0 (equal-false step.run run parts.0) all.0, none_stands seen running parts.1 going.1 all.1)

  -- the others stand later where each of another run does
  pub others-stand : (seen : List RunningStepView) (running : List DeskStep) → differ running ≡ true → AllByRecursion (IsGoing office) running → AllStand layout office image seen running → AllStand layout later now (without_first run seen) (without_run run running)
  others-stand [] [] differs going all = tt
  others-stand [] (step ∷ running) differs going all = absurd all
  others-stand (on ∷ seen) [] differs going all = absurd all
  others-stand (on ∷ seen) (step ∷ running) differs going all =
      subst (λ n. AllStand layout later now (cond (n == run) seen (on ∷ without_first run seen)) (without_run run (step ∷ running))) (sym all.0.run)
      (bool-cases (step.run == run)
      (λ does.
      subst (λ b. AllStand layout later now (cond b seen (on ∷ without_first run seen)) (cond (not b) (step ∷ without_run run running) (without_run run running))) (sym does)
      (let none : is_of_one run running ≡ false = ap (λ n. is_of_one n running) (sym (equal-true step.run run does)) ∙ not-true (is_of_one step.run running) (and-first (not (is_of_one step.run running)) (differ running) differs) in
      subst (AllStand layout later now seen) (sym (none_without run running none)) (none_stands seen running none going.1 all.1)))
      (λ isnt.
      subst (λ b. AllStand layout later now (cond b seen (on ∷ without_first run seen)) (cond (not b) (step ∷ without_run run running) (without_run run running))) (sym isnt) (
        each on step going.0 (equal-false step.run run isnt) all.0,
        others-stand seen running (and-second (not (is_of_one step.run running)) (differ running) differs) going.1 all.1,
      )))

-- ---- they differ

out_of_others : (run other : ℕ) (running : List DeskStep) → is_of_one other running ≡ false → is_of_one other (without_run run running) ≡ false
out_of_others run other [] none = refl
out_of_others run other (step ∷ running) none =
    let parts = or_parts (step.run == other) (is_of_one other running) none in by (step.run == run) parts.0 (out_of_others run other running parts.1)
  where
    by : (b : Bool) → (step.run == other) ≡ false → is_of_one other (without_run run running) ≡ false → is_of_one other (cond (not b) (step ∷ without_run run running) (without_run run running)) ≡ false
    by true first rest = rest
    by false first rest = or_from (step.run == other) (is_of_one other (without_run run running)) first rest

pub own_out : (run : ℕ) (running : List DeskStep) → is_of_one run (without_run run running) ≡ false
own_out run [] = refl
own_out run (step ∷ running) = by (step.run == run) refl (own_out run running)
  where
    by : (b : Bool) → (step.run == run) ≡ b → is_of_one run (without_run run running) ≡ false → is_of_one run (cond (not b) (step ∷ without_run run running) (without_run run running)) ≡ false
    by true is rest = rest
    by false is rest = or_from (step.run == run) (is_of_one run (without_run run running)) is rest

pub others_differ : (run : ℕ) (running : List DeskStep) → differ running ≡ true → differ (without_run run running) ≡ true
others_differ run [] differs = refl
others_differ run (step ∷ running) differs =
    by (step.run == run) (others_differ run running (and-second (not (is_of_one step.run running)) (differ running) differs))
  where
    apart : is_of_one step.run running ≡ false
    apart = not-true (is_of_one step.run running) (and-first (not (is_of_one step.run running)) (differ running) differs)

    by : (b : Bool) → differ (without_run run running) ≡ true → differ (cond (not b) (step ∷ without_run run running) (without_run run running)) ≡ true
    by true rest = rest
    by false rest = and_from (not (is_of_one step.run (without_run run running))) (differ (without_run run running)) (ap not (out_of_others run step.run running apart)) rest

-- also where one of the run comes before them
pub put-differ : (step : DeskStep) (running : List DeskStep) → differ running ≡ true → differ (step ∷ without_run step.run running) ≡ true
put-differ step running differs =
    and_from (not (is_of_one step.run (without_run step.run running))) (differ (without_run step.run running)) (ap not (own_out step.run running)) (others_differ step.run running differs)
