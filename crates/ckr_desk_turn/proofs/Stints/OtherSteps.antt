-- The running step and the mark of a run stay where those of another run change.
use Rattle.std.proofs.Common.{◌≡◌, ℕ, zero, suc, Bool, true, false, cond, not, ◌||◌, List, [], ◌∷◌, find, refl, ap, sym, ◌∙◌, Option, Some, None}
use Rattle.std.specs.Prelude.{◌==◌}
use Rattle.std.specs.List.{list_any}
use Rattle.std.specs.Option.{option_map_or}
use Rattle.ckr_base.specs.declared.code.Code.{Code}
use Rattle.ckr_base.proofs.Bools.{bool-cases}
use Rattle.ckr_base.proofs.Numbers.{equal-false, equal-true}
use Rattle.ckr_events.specs.Jobs.{job_of}
use Rattle.ckr_events.specs.declared.event.Event.{Event}
use Rattle.ckr_events.specs.declared.event.Event.TheVariants.{Cancelled, Ended, Held, Restarted, Selected, Started, StepEnded}
use Rattle.ckr_library.specs.NameMaps.{Name}
use Rattle.ckr_points.specs.Restart.{kept_at, syschk_name}
use Rattle.ckr_points.specs.Rows.{KeptEntry, TablesModel, run_of}
use Rattle.ckr_desk_turn.specs.declared.failed_run.FailedRun.{FailedRun}
use Rattle.ckr_desk_turn.specs.Desk.{DeskStep, at_entry, cancel_done, failed_behind, running_again, running_behind, running_from, with_asked, with_change, with_code, without_mark, without_run}
use Rattle.ckr_desk_turn.specs.Jobs.{effect_entry}
use Rattle.ckr_desk_turn.specs.Units.{StepProgress, arrived}
use Rattle.ckr_desk_turn.proofs.OtherRuns.{failed-same}

-- a mark stays where the operator was asked for a run
pub marked-asked : (run other : ℕ) (failed : List FailedRun) → list_any (λ (one : FailedRun). one.run == run) (with_asked other failed) ≡ list_any (λ (one : FailedRun). one.run == run) failed
marked-asked run other [] = refl
marked-asked run other (first ∷ rest) =
    ap (λ n. n == run || list_any (λ (one : FailedRun). one.run == run) (with_asked other rest)) (by (first.run == other)) ∙ ap (λ b. first.run == run || b) (marked-asked run other rest)
  where
    by : (b : Bool) → (cond b (record first { asked = true }) first).run ≡ first.run
    by true = refl
    by false = refl

module _ (run other : ℕ) (apart : (other == run) ≡ false) where
  abbrev found : List DeskStep → Option DeskStep
  found running = find (λ (step : DeskStep). step.run == run) running

  abbrev marked : List FailedRun → Bool
  marked failed = list_any (λ (one : FailedRun). one.run == run) failed

  differs : (number : ℕ) → (number == other) ≡ true → (number == run) ≡ false
  differs number same = ap (λ n. n == run) (equal-true number other same) ∙ apart

  -- ---- the running steps

  pub found-without : (running : List DeskStep) → found (without_run other running) ≡ found running
  found-without [] = refl
  found-without (first ∷ rest) =
      bool-cases (first.run == other)
      (λ same.
      ap (λ b. found (cond (not b) (first ∷ without_run other rest) (without_run other rest))) same ∙ found-without rest
      ∙ sym (ap (λ b. cond b (Some first) (found rest)) (differs first.run same)))
      (λ isnt.
      ap (λ b. found (cond (not b) (first ∷ without_run other rest) (without_run other rest))) isnt
      ∙ ap (λ o. cond (first.run == run) (Some first) o) (found-without rest))

  -- before the others
  pub found-behind : (on : DeskStep) (running : List DeskStep) → on.run ≡ other → found (on ∷ without_run other running) ≡ found running
  found-behind on running its = ap (λ n. cond (n == run) (Some on) (found (without_run other running))) its ∙ ap (λ b. cond b (Some on) (found (without_run other running))) apart ∙ found-without running

  pub found-changed : (change : StepProgress → StepProgress) (running : List DeskStep) → found (with_change other change running) ≡ found running
  found-changed change running = by (find (λ (step : DeskStep). step.run == other) running)
    where
      by : (o : Option DeskStep) → found (option_map_or (λ (step : DeskStep). let changed : DeskStep = record { run = other; progress = change step.progress; code = None } in changed ∷ without_run other running) o running) ≡ found running
      by None = refl
      by (Some step) = found-behind (record { run = other; progress = change step.progress; code = None }) running refl

  found-again : (tables : TablesModel) (running : List DeskStep) → found (running_again tables other running) ≡ found running
  found-again tables running = by (option_map_or (effect_entry tables) (run_of tables other) None)
    where
      by : (o : Option KeptEntry) → found (option_map_or (λ entry. at_entry other entry.point ∷ without_run other running) o (without_run other running)) ≡ found running
      by None = found-without running
      by (Some entry) = found-behind (at_entry other entry.point) running refl

  found-from : (tables : TablesModel) (id : Name) (running : List DeskStep) → found (running_from tables other id running) ≡ found running
  found-from tables id running = by (option_map_or (λ row. kept_at tables.sets (syschk_name row.deck) id) (run_of tables other) None)
    where
      by : (o : Option KeptEntry) → found (option_map_or (λ entry. at_entry other entry.point ∷ without_run other running) o running) ≡ found running
      by None = refl
      by (Some entry) = found-behind (at_entry other entry.point) running refl

  pub found-coded : (code : Code) (running : List DeskStep) → found (with_code other code running) ≡ found running
  found-coded code [] = refl
  found-coded code (first ∷ rest) =
      let stopped : DeskStep = record { run = first.run; progress = arrived 0 first.progress.writes; code = Some code } in
      bool-cases (first.run == other)
      (λ same.
      ap (λ b. found (cond b stopped first ∷ with_code other code rest)) same
      ∙ ap (λ b. cond b (Some stopped) (found (with_code other code rest))) (differs first.run same) ∙ found-coded code rest
      ∙ sym (ap (λ b. cond b (Some first) (found rest)) (differs first.run same)))
      (λ isnt.
      ap (λ b. found (cond b stopped first ∷ with_code other code rest)) isnt
      ∙ ap (λ o. cond (first.run == run) (Some first) o) (found-coded code rest))

  -- ---- the marks

  pub marked-without : (failed : List FailedRun) → marked (without_mark other failed) ≡ marked failed
  marked-without failed = sym (failed-same other failed run (λ e. equal-false other run apart (sym e)))

-- behind an event of the other run
pub found-next : (run : ℕ) (tables : TablesModel) (event : Event) (running : List DeskStep) → (job_of event == run) ≡ false
    → find (λ (step : DeskStep). step.run == run) (running_behind tables event running) ≡ find (λ (step : DeskStep). step.run == run) running
found-next run tables (Selected job initiator zero step id) running apart = refl
found-next run tables (Selected job initiator (suc before) step None) running apart = refl
found-next run tables (Selected job initiator (suc before) step (Some id)) running apart = found-from run job apart tables id running
found-next run tables (Started job step items) running apart = found-behind run job apart (record { run = job; progress = arrived 0 0; code = None }) running refl
found-next run tables (Cancelled job) running apart = found-changed run job apart cancel_done running
found-next run tables (StepEnded job step rc writes lengths) running apart = found-without run job apart running
found-next run tables (Restarted job initiator code true) running apart = found-again run job apart tables running
found-next run tables (Restarted job initiator code false) running apart = found-without run job apart running
found-next run tables (Held job code writes lengths) running apart = found-without run job apart running
found-next run tables (Ended job ending) running apart = found-without run job apart running
found-next run tables _ running apart = refl

pub marked-next : (run : ℕ) (event : Event) (failed : List FailedRun) → (job_of event == run) ≡ false
    → list_any (λ (one : FailedRun). one.run == run) (failed_behind event failed) ≡ list_any (λ (one : FailedRun). one.run == run) failed
marked-next run (Restarted job initiator code checkpoint) failed apart = marked-without run job apart failed
marked-next run (Held job code writes lengths) failed apart = marked-without run job apart failed
marked-next run (Ended job ending) failed apart = marked-without run job apart failed
marked-next run _ failed apart = refl
