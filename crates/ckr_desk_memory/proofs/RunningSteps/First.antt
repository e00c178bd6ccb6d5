-- The first running step of a run.
use Rattle.std.proofs.Common.{◌≡◌, ◌==◌, ◌<◌, ◌≤◌, ◌+◌, ℕ, suc, Bool, true, false, not, cond, List, [], ◌∷◌, map, find, length, get_or, remove, refl, ap, sym, ◌∙◌, subst, Option, None, Some, arith}
use Rattle.std.specs.List.{AllByRecursion, position_or_len}
use Rattle.std.specs.Option.{option_map}
use Rattle.std.specs.Prelude.{IfSome}
use Rattle.ckr_base.proofs.Numbers.{one-plus}
use Rattle.ckr_base.proofs.Sequences.{find-holds}
use Rattle.ckr_volumes.specs.declared.layout.Layout.{Layout}
use Rattle.ckr_desk_plans.specs.declared.running_step.RunningStep.{RunningStep}
use Rattle.ckr_desk_memory.proofs.FoundRuns.{find-map}
use Rattle.ckr_desk_memory.specs.EventChanges.{is_of_run, without_first}
use Rattle.ckr_desk_memory.specs.Parts.{step_seen}
use Rattle.ckr_desk_memory.specs.View.{JobsView, RunningStepView}
use Rattle.ckr_points.specs.Soundness.{AreLaidOut}
use Rattle.ckr_points_tables.specs.View.{RoomyTables}
use Rattle.ckr_desk_memory.specs.Invariant.{AreJobs, IsAcceptedRow, IsPlacedRow, IsRunnable}

module _ (run : ℕ) where
  abbrev pub of_run : RunningStep → Bool
  of_run on = on.run == run

  pub first-found : (items : List RunningStep) (d : RunningStep) → position_or_len of_run items < length items → find (is_of_run run) (map step_seen items) ≡ Some (step_seen (get_or items (position_or_len of_run items) d))
  first-found [] d inside = absurd (omega (arith, inside))
  first-found (on ∷ items) d inside =
      elim (of_run on) as (λ b. cond (not b) (1 + position_or_len of_run items) 0 < suc (length items)
      → cond b (Some (step_seen on)) (find (is_of_run run) (map step_seen items)) ≡ Some (step_seen (get_or (on ∷ items) (cond (not b) (1 + position_or_len of_run items) 0) d))) [
        | true ↦ λ here. refl
        | false ↦ λ later.
            first-found items d (omega (arith, later))
            ∙ sym (ap (λ i. Some (step_seen (get_or (on ∷ items) i d))) (one-plus (position_or_len of_run items)))
      ] inside

  pub first-gone : (items : List RunningStep) → position_or_len of_run items < length items → map step_seen (remove items (position_or_len of_run items)) ≡ without_first run (map step_seen items)
  first-gone [] inside = absurd (omega (arith, inside))
  first-gone (on ∷ items) inside =
      elim (of_run on) as (λ b. cond (not b) (1 + position_or_len of_run items) 0 < suc (length items)
      → map step_seen (remove (on ∷ items) (cond (not b) (1 + position_or_len of_run items) 0)) ≡ cond b (map step_seen items) (step_seen on ∷ without_first run (map step_seen items))) [
        | true ↦ λ here. refl
        | false ↦ λ later.
            ap (λ i. map step_seen (remove (on ∷ items) i)) (one-plus (position_or_len of_run items))
            ∙ ap (λ (rest : List RunningStepView). step_seen on ∷ rest) (first-gone items (omega (arith, later)))
      ] inside

  pub none-found : (items : List RunningStep) → length items ≤ position_or_len of_run items → find (is_of_run run) (map step_seen items) ≡ None
  none-found [] beyond = refl
  none-found (on ∷ items) beyond =
      elim (of_run on) as (λ b. suc (length items) ≤ cond (not b) (1 + position_or_len of_run items) 0 → cond b (Some (step_seen on)) (find (is_of_run run) (map step_seen items)) ≡ None) [
        | true ↦ λ none. absurd (omega (arith, none))
        | false ↦ λ later. none-found items (omega (arith, later))
      ] beyond

  pub none-gone : (items : List RunningStep) → length items ≤ position_or_len of_run items → map step_seen items ≡ without_first run (map step_seen items)
  none-gone [] beyond = refl
  none-gone (on ∷ items) beyond =
      elim (of_run on) as (λ b. suc (length items) ≤ cond (not b) (1 + position_or_len of_run items) 0 → step_seen on ∷ map step_seen items ≡ cond b (map step_seen items) (step_seen on ∷ without_first run (map step_seen items))) [
        | true ↦ λ none. absurd (omega (arith, none))
        | false ↦ λ later. ap (λ (rest : List RunningStepView). step_seen on ∷ rest) (none-gone items (omega (arith, later)))
      ] beyond

-- it is seen where it is found
pub seen-first : (run : ℕ) (items : List RunningStep) (found : Option RunningStep) → found ≡ find (λ (on : RunningStep). on.run == run) items → find (is_of_run run) (map step_seen items) ≡ option_map step_seen found
seen-first run items found is =
    find-map step_seen (λ (on : RunningStep). on.run == run) (is_of_run run) (λ on. refl) items ∙ ap (option_map step_seen) (sym is)

-- what holds of all holds of those without the first
pub all-without : (P : RunningStepView → Type 0) (run : ℕ) (running : List RunningStepView) → AllByRecursion P running → AllByRecursion P (without_first run running)
all-without P run [] all = tt
all-without P run (on ∷ rest) all = by (is_of_run run on) (without_first run rest) (all-without P run rest all.1)
  where
    by : (b : Bool) (others : List RunningStepView) → AllByRecursion P others → AllByRecursion P (cond b rest (on ∷ others))
    by true others kept = all.1
    by false others kept = (all.0, kept)

-- what holds of the jobs holds without a step
pub jobs-without : (layout : Layout) (run : ℕ) (old new : JobsView) → new.tables ≡ old.tables → new.running ≡ without_first run old.running → AreJobs layout old → AreJobs layout new
jobs-without layout run old new tables running are = record {
  laid = subst (λ (t : RoomyTables). AreLaidOut layout t.desk.sets) (sym tables) are.laid;
  rows = subst (λ (t : RoomyTables). AllByRecursion IsAcceptedRow t.desk.runs) (sym tables) are.rows;
  placed = subst (λ (t : RoomyTables). AllByRecursion IsPlacedRow t.desk.runs) (sym tables) are.placed;
  running = subst (AllByRecursion (IsRunnable layout)) (sym running) (all-without (IsRunnable layout) run old.running are.running);
}

pub step-runnable : (layout : Layout) (run : ℕ) (old : JobsView) (taken : Option RunningStep) → AreJobs layout old → option_map step_seen taken ≡ find (is_of_run run) old.running → IfSome taken (λ on. IsRunnable layout (step_seen on))
step-runnable layout run old None are is = tt
step-runnable layout run old (Some on) are is = find-holds (IsRunnable layout) (is_of_run run) old.running (step_seen on) are.running (sym is)
