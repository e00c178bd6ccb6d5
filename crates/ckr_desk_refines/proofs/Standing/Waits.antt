-- The jobs in memory stand for the desk where a run waits with its code for the operator's word.
use Rattle.std.proofs.Common.{◌≡◌, ℕ, cond, ◌&&◌, ◌||◌, not, List, [], ◌∷◌, refl, ap, sym, ◌∙◌, subst, Some}
use Rattle.std.specs.Prelude.{◌==◌}
use Rattle.ckr_base.specs.declared.code.Code.{Code}
use Rattle.ckr_base.proofs.Bools.{bool-cases}
use Rattle.ckr_base.proofs.Options.{some-not-none}
use Rattle.ckr_desk_memory.specs.EventChanges.{coded_on, with_code as with_code_in_memory}
use Rattle.ckr_desk_memory.specs.View.{JobsView, RunningStepView}
use Rattle.ckr_points.specs.Office.{Office}
use Rattle.ckr_volumes.specs.declared.layout.Layout.{Layout}
use Rattle.ckr_desk_turn.specs.Desk.{DeskModel, DeskStep, coded_step, waiting, with_asked, with_code}
use Rattle.ckr_desk_turn.specs.Units.{arrived}
use Rattle.ckr_desk_turn.proofs.Waits.{stopped, waiting-kept, coded-run}
use Rattle.ckr_desk_refines.specs.Moves.{HasWaited}
use Rattle.ckr_desk_refines.specs.Standing.{AllStand, PointsStand, StandsForDesk, StandsForStep, differ, is_of_one}

abbrev pub stopped_on : RunningStepView → Code → RunningStepView
stopped_on on code = record on { code = Some code }

module _ (layout : Layout) (office : Office) (image : List ℕ) (run : ℕ) (code : Code) where
  -- a step that has stopped with a code stands for that of the desk
  stopped-stands : (on : RunningStepView) (step : DeskStep) → StandsForStep layout office image on step → StandsForStep layout office image (stopped_on on code) (stopped step code)
  stopped-stands on step stands = record {
    row = stands.row;
    row_at = stands.row_at;
    start = stands.start;
    start_at = stands.start_at;
    run = stands.run;
    code = refl;
    stands = λ none. absurd (some-not-none code none);
    served = λ none. absurd (some-not-none code none);
    ordered = λ none. absurd (some-not-none code none);
    writes = stands.writes;
    stopped = λ its some. ap (arrived 0) (sym stands.writes);
    sets = stands.sets;
    named = stands.named;
    shows = stands.shows;
    checked = stands.checked;
  }

  coded-stands : (on : RunningStepView) (step : DeskStep) → StandsForStep layout office image on step → StandsForStep layout office image (coded_on run code on) (coded_step run code step)
  coded-stands on step stands =
      subst (λ (n : ℕ). StandsForStep layout office image (cond (n == run) (stopped_on on code) on) (cond (step.run == run) (stopped step code) step)) (sym stands.run)
      (bool-cases (step.run == run)
      (λ here. subst (λ b. StandsForStep layout office image (cond b (stopped_on on code) on) (cond b (stopped step code) step)) (sym here) (stopped-stands on step stands))
      (λ there. subst (λ b. StandsForStep layout office image (cond b (stopped_on on code) on) (cond b (stopped step code) step)) (sym there) stands))

  -- so do all
  pub all-coded : (seen : List RunningStepView) (running : List DeskStep) → AllStand layout office image seen running → AllStand layout office image (with_code_in_memory run code seen) (with_code run code running)
  all-coded [] [] all = tt
  all-coded [] (step ∷ running) all = absurd all
  all-coded (on ∷ seen) [] all = absurd all
  all-coded (on ∷ seen) (step ∷ running) all = (coded-stands on step all.0, all-coded seen running all.1)

-- ---- they are of the same runs

coded-one : (run : ℕ) (code : Code) (number : ℕ) (running : List DeskStep) → is_of_one number (with_code run code running) ≡ is_of_one number running
coded-one run code number [] = refl
coded-one run code number (step ∷ running) =
    ap (λ n. n == number || is_of_one number (with_code run code running)) (coded-run run code step) ∙ ap (λ b. step.run == number || b) (coded-one run code number running)

pub coded-differ : (run : ℕ) (code : Code) (running : List DeskStep) → differ (with_code run code running) ≡ differ running
coded-differ run code [] = refl
coded-differ run code (step ∷ running) =
    ap (λ n. not (is_of_one n (with_code run code running)) && differ (with_code run code running)) (coded-run run code step)
    ∙ ap (λ b. not b && differ (with_code run code running)) (coded-one run code step.run running)
    ∙ ap (λ b. not (is_of_one step.run running) && b) (coded-differ run code running)

-- ---- the jobs

pub waited-stands : (layout : Layout) (old new : JobsView) (image : List ℕ) (desk : DeskModel) (run : ℕ) (code : Code) → StandsForDesk layout old image desk → HasWaited run code old new → StandsForDesk layout new image (waiting run code desk)
waited-stands layout old new image desk run code stands waited = record {
  layout_is = stands.layout_is;
  is_desk = waiting-kept desk stands.is_desk run code;
  tables = waited.tables ∙ stands.tables;
  failed = waited.failed ∙ ap (with_asked run) stands.failed;
  running =
      subst (λ (seen : List RunningStepView). AllStand desk.layout desk.office image seen (with_code run code desk.running)) (sym waited.running)
      (all-coded desk.layout desk.office image run code old.running desk.running stands.running);
  differ_so = coded-differ run code desk.running ∙ stands.differ_so;
  points = subst (PointsStand desk.office) (sym waited.points) stands.points;
  committed = stands.committed;
}
