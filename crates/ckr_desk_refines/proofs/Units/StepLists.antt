-- The running steps in memory and those of the desk, run by run.
use Rattle.std.proofs.Common.{◌≡◌, ◌≢◌, ℕ, true, false, cond, not, List, [], ◌∷◌, find, refl, ap, sym, ◌∙◌, subst, Some}
use Rattle.std.specs.Prelude.{◌==◌}
use Rattle.std.specs.List.{AllByRecursion}
use Rattle.std.proofs.lemmas.Bool.{false≢true, not-true, or_from, or_parts}
use Rattle.std.proofs.lemmas.Option.{same_Some}
use Rattle.ckr_base.proofs.Bools.{and-first, and-second, bool-cases}
use Rattle.ckr_base.proofs.Numbers.{equal-itself, equal-true}
use Rattle.ckr_base.proofs.Options.{some-not-none}
use Rattle.ckr_desk_memory.specs.EventChanges.{is_of_run, without_first, without_run as seen_without}
use Rattle.ckr_desk_memory.specs.View.{RunningStepView}
use Rattle.ckr_desk_turn.specs.Invariant.{IsGoing}
use Rattle.ckr_points.specs.Office.{Office}
use Rattle.ckr_desk_refines.specs.Standing.{AllStand, StandsForStep, differ, is_of_one, steps_without}
use Rattle.ckr_desk_turn.specs.Desk.{DeskStep, without_run}
use Rattle.ckr_volumes.specs.declared.layout.Layout.{Layout}

module _ (layout : Layout) (office : Office) (image : List ℕ) where
  -- the running step of a run, and the one that it stands for
  pub record IsPair (run : ℕ) (on : RunningStepView) (running : List DeskStep) : Type 0 where
    pub step : DeskStep
    pub at : find (λ (step : DeskStep). step.run == run) running ≡ Some step
    pub stands : StandsForStep layout office image on step
    pub going : IsGoing office step
    pub same : step.run ≡ run

  pub pair-of : (run : ℕ) (on : RunningStepView) (seen : List RunningStepView) (running : List DeskStep) → AllStand layout office image seen running → AllByRecursion (IsGoing office) running
      → find (is_of_run run) seen ≡ Some on → IsPair run on running
  pair-of run on [] running all going found = absurd (some-not-none on (sym found))
  pair-of run on (first ∷ seen) [] all going found = absurd all
  pair-of run on (first ∷ seen) (step ∷ running) all going found =
      bool-cases (step.run == run)
      (λ here.
      let its : (first.run == run) ≡ true = ap (λ n. n == run) all.0.run ∙ here in
      let same : first ≡ on = same_Some first on (sym (ap (λ b. cond b (Some first) (find (is_of_run run) seen)) its) ∙ found) in
      record {
        step = step;
        at = ap (λ b. cond b (Some step) (find (λ (step : DeskStep). step.run == run) running)) here;
        stands = subst (λ (o : RunningStepView). StandsForStep layout office image o step) same all.0;
        going = going.0;
        same = equal-true step.run run here;
      })
      (λ there.
      let its : (first.run == run) ≡ false = ap (λ n. n == run) all.0.run ∙ there in
      let later : IsPair run on running = pair-of run on seen running all.1 going.1 (sym (ap (λ b. cond b (Some first) (find (is_of_run run) seen)) its) ∙ found) in
      record {
        step = later.step;
        at = ap (λ b. cond b (Some step) (find (λ (step : DeskStep). step.run == run) running)) there ∙ later.at;
        stands = later.stands;
        going = later.going;
        same = later.same;
      })

  -- a running step of the desk is running in memory
  pub seen-of : (run : ℕ) (step : DeskStep) (seen : List RunningStepView) (running : List DeskStep) → AllStand layout office image seen running
      → find (λ (step : DeskStep). step.run == run) running ≡ Some step → (on : RunningStepView) × (find (is_of_run run) seen ≡ Some on)
  seen-of run step [] [] all found = absurd (some-not-none step (sym found))
  seen-of run step [] (next ∷ running) all found = absurd all
  seen-of run step (on ∷ seen) [] all found = absurd all
  seen-of run step (on ∷ seen) (next ∷ running) all found =
      bool-cases (next.run == run)
      (λ here. (on, ap (λ b. cond b (Some on) (find (is_of_run run) seen)) (ap (λ n. n == run) all.0.run ∙ here)))
      (λ there.
      let later = seen-of run step seen running all.1 (sym (ap (λ b. cond b (Some next) (find (λ (step : DeskStep). step.run == run) running)) there) ∙ found) in
      (later.0, ap (λ b. cond b (Some on) (find (is_of_run run) seen)) (ap (λ n. n == run) all.0.run ∙ there) ∙ later.1))

  -- ---- the steps of other runs

  module _ (after : List ℕ) (run : ℕ) (each : (on : RunningStepView) (step : DeskStep) → IsGoing office step → StandsForStep layout office image on step → step.run ≢ run → StandsForStep layout office after on step) where
    apart : (step : DeskStep) → (step.run == run) ≡ false → step.run ≢ run
    apart step there same = false≢true (sym there ∙ ap (λ n. n == run) same ∙ equal-itself run)

    -- where there is none of the run
    none-stay : (seen : List RunningStepView) (running : List DeskStep) → AllByRecursion (IsGoing office) running → is_of_one run running ≡ false → AllStand layout office image seen running → AllStand layout office after seen (without_run run running)
    none-stay [] [] going none all = tt
    none-stay [] (step ∷ running) going none all = absurd all
    none-stay (on ∷ seen) [] going none all = absurd all
    none-stay (on ∷ seen) (step ∷ running) going none all =
        let parts = or_parts (step.run == run) (is_of_one run running) none in
        subst (AllStand layout office after (on ∷ seen))
        (sym (ap (λ b. cond (not b) (step ∷ without_run run running) (without_run run running)) parts.0))
        (each on step going.0 all.0 (apart step parts.0), none-stay seen running going.1 parts.1 all.1)

    -- without the first one of the run, where the runs differ
    pub others-stay : (seen : List RunningStepView) (running : List DeskStep) → AllByRecursion (IsGoing office) running → differ running ≡ true → AllStand layout office image seen running → AllStand layout office after (without_first run seen) (without_run run running)
    others-stay [] [] going differs all = tt
    others-stay [] (step ∷ running) going differs all = absurd all
    others-stay (on ∷ seen) [] going differs all = absurd all
    others-stay (on ∷ seen) (step ∷ running) going differs all =
        subst (λ (n : ℕ). AllStand layout office after (cond (n == run) seen (on ∷ without_first run seen)) (cond (not (step.run == run)) (step ∷ without_run run running) (without_run run running))) (sym all.0.run)
        (bool-cases (step.run == run)
        (λ here.
        let others : is_of_one step.run running ≡ false = not-true (is_of_one step.run running) (and-first (not (is_of_one step.run running)) (differ running) differs) in
        subst (λ b. AllStand layout office after (cond b seen (on ∷ without_first run seen)) (cond (not b) (step ∷ without_run run running) (without_run run running))) (sym here)
        (none-stay seen running going.1 (ap (λ n. is_of_one n running) (sym (equal-true step.run run here)) ∙ others) all.1))
        (λ there.
        subst (λ b. AllStand layout office after (cond b seen (on ∷ without_first run seen)) (cond (not b) (step ∷ without_run run running) (without_run run running))) (sym there)
        (each on step going.0 all.0 (apart step there), others-stay seen running going.1 (and-second (not (is_of_one step.run running)) (differ running) differs) all.1)))

    -- those of all other runs
    pub all-stay : (seen : List RunningStepView) (running : List DeskStep) → AllByRecursion (IsGoing office) running → AllStand layout office image seen running → AllStand layout office after (seen_without run seen) (steps_without run running)
    all-stay [] [] going all = tt
    all-stay [] (step ∷ running) going all = absurd all
    all-stay (on ∷ seen) [] going all = absurd all
    all-stay (on ∷ seen) (step ∷ running) going all =
        subst (λ (n : ℕ). AllStand layout office after (cond (not (n == run)) (on ∷ seen_without run seen) (seen_without run seen)) (cond (not (step.run == run)) (step ∷ steps_without run running) (steps_without run running))) (sym all.0.run)
        (bool-cases (step.run == run)
        (λ here. subst (λ b. AllStand layout office after (cond (not b) (on ∷ seen_without run seen) (seen_without run seen)) (cond (not b) (step ∷ steps_without run running) (steps_without run running))) (sym here) (all-stay seen running going.1 all.1))
        (λ there. subst (λ b. AllStand layout office after (cond (not b) (on ∷ seen_without run seen) (seen_without run seen)) (cond (not b) (step ∷ steps_without run running) (steps_without run running))) (sym there)
        (each on step going.0 all.0 (apart step there), all-stay seen running going.1 all.1)))

-- ---- a step that is put back

pub without-first : (run : ℕ) (seen : List RunningStepView) → seen_without run (without_first run seen) ≡ seen_without run seen
without-first run [] = refl
without-first run (on ∷ seen) =
    bool-cases (on.run == run)
    (λ here.
    ap (λ b. seen_without run (cond b seen (on ∷ without_first run seen))) here
    ∙ sym (ap (λ b. cond (not b) (on ∷ seen_without run seen) (seen_without run seen)) here))
    (λ there.
    ap (λ b. seen_without run (cond b seen (on ∷ without_first run seen))) there
    ∙ ap (λ b. cond (not b) (on ∷ seen_without run (without_first run seen)) (seen_without run (without_first run seen))) there
    ∙ ap (λ rest. on ∷ rest) (without-first run seen)
    ∙ sym (ap (λ b. cond (not b) (on ∷ seen_without run seen) (seen_without run seen)) there))

none-less : (number run : ℕ) (running : List DeskStep) → is_of_one number running ≡ false → is_of_one number (without_run run running) ≡ false
none-less number run [] none = refl
none-less number run (step ∷ running) none =
    let parts = or_parts (step.run == number) (is_of_one number running) none in
    bool-cases (step.run == run)
    (λ here. ap (λ b. is_of_one number (cond (not b) (step ∷ without_run run running) (without_run run running))) here ∙ none-less number run running parts.1)
    (λ there.
    ap (λ b. is_of_one number (cond (not b) (step ∷ without_run run running) (without_run run running))) there
    ∙ or_from (step.run == number) (is_of_one number (without_run run running)) parts.0 (none-less number run running parts.1))
