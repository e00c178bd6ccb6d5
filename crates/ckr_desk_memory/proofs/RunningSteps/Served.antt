-- A running step whose checkpoint or cancel is done goes on as before.
use Rattle.std.proofs.Common.{◌≡◌, ℕ, Bool, true, false, cond, List, [], ◌∷◌, find, refl, ap, sym, subst, Option, None, Some}
use Rattle.std.proofs.lemmas.Bool.{false≢true}
use Rattle.std.specs.List.{AllByRecursion}
use Rattle.std.specs.Option.{option_map_or}
use Rattle.ckr_base.proofs.Options.{some-not-none}
use Rattle.ckr_base.proofs.Sequences.{find-holds}
use Rattle.ckr_points.specs.Soundness.{AreLaidOut}
use Rattle.ckr_desk_plans.proofs.Counts.{served_counted}
use Rattle.ckr_points_tables.specs.View.{RoomyTables}
use Rattle.ckr_volumes.specs.declared.layout.Layout.{Layout}
use Rattle.ckr_desk_memory.specs.EventChanges.{is_of_run, served_in, served_step, without_first}
use Rattle.ckr_desk_memory.specs.Invariant.{AreJobs, IsAcceptedRow, IsPlacedRow, IsRunnable}
use Rattle.ckr_desk_memory.specs.Plans.{HasCounts}
use Rattle.ckr_desk_memory.specs.View.{JobsView, RunningStepView}
use Rattle.ckr_desk_memory.proofs.RunningSteps.First.{all-without}

-- the numbers of the running steps are in their ranges
pub counted-all : (layout : Layout) (running : List RunningStepView) → AllByRecursion (IsRunnable layout) running → AllByRecursion HasCounts running
counted-all layout [] all = tt
counted-all layout (on ∷ rest) all = (all.0.counted, counted-all layout rest all.1)

-- without the first step of a run, of which none is running
pub without-none : (run : ℕ) (running : List RunningStepView) → find (is_of_run run) running ≡ None → without_first run running ≡ running
without-none run [] none = refl
without-none run (on ∷ rest) none = by (is_of_run run on) (without-none run rest) none
  where
    by : (is : Bool) → (find (is_of_run run) rest ≡ None → without_first run rest ≡ rest) → cond is (Some on) (find (is_of_run run) rest) ≡ None → cond is rest (on ∷ without_first run rest) ≡ on ∷ rest
    by true later none = absurd (some-not-none on none)
    by false later none = ap (λ (others : List RunningStepView). on ∷ others) (later none)

-- the steps behind it, by the one that is found
pub served-some : (run : ℕ) (running : List RunningStepView) (on : RunningStepView) → find (is_of_run run) running ≡ Some on → served_step on ∷ without_first run running ≡ served_in run running
served-some run running on found = ap (λ o. option_map_or (λ on. served_step on ∷ without_first run running) o running) (sym found)

pub served-none : (run : ℕ) (running : List RunningStepView) → find (is_of_run run) running ≡ None → running ≡ served_in run running
served-none run running none = ap (λ o. option_map_or (λ on. served_step on ∷ without_first run running) o running) (sym none)

step_runnable : (layout : Layout) (on : RunningStepView) → IsRunnable layout on → IsRunnable layout (served_step on)
step_runnable layout on runs = record {
  stored = runs.stored;
  there = runs.there;
  coded = runs.coded;
  counted = served_counted on.step.parm on.step.state on.step.writes false runs.counted (λ e. absurd (false≢true e));
}

pub served-runnable : (layout : Layout) (run : ℕ) (running : List RunningStepView) → AllByRecursion (IsRunnable layout) running → AllByRecursion (IsRunnable layout) (served_in run running)
served-runnable layout run running all = by (find (is_of_run run) running) refl
  where
    by : (found : Option RunningStepView) → find (is_of_run run) running ≡ found → AllByRecursion (IsRunnable layout) (option_map_or (λ on. served_step on ∷ without_first run running) found running)
    by None found = all
    by (Some on) found = (step_runnable layout on (find-holds (IsRunnable layout) (is_of_run run) running on all found), all-without (IsRunnable layout) run running all)

-- what holds of the jobs holds behind it
pub jobs-served : (layout : Layout) (run : ℕ) (old new : JobsView) → new.tables ≡ old.tables → new.running ≡ served_in run old.running → AreJobs layout old → AreJobs layout new
jobs-served layout run old new tables running are = record {
  laid = subst (λ (t : RoomyTables). AreLaidOut layout t.desk.sets) (sym tables) are.laid;
  rows = subst (λ (t : RoomyTables). AllByRecursion IsAcceptedRow t.desk.runs) (sym tables) are.rows;
  placed = subst (λ (t : RoomyTables). AllByRecursion IsPlacedRow t.desk.runs) (sym tables) are.placed;
  running = subst (AllByRecursion (IsRunnable layout)) (sym running) (served-runnable layout run old.running are.running);
}
