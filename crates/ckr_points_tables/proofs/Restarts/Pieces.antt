-- The pieces of an automatic restart, as the code puts them together.
use Rattle.std.proofs.Common.{◌≡◌, ◌==◌, ◌-◌, ℕ, zero, suc, slice_get, List, [], map, find, refl, ap, sym, ◌∙◌, Some, None, Option}
use Rattle.std.specs.Option.{option_map, option_map_or}
use Rattle.std.proofs.lemmas.Option.{slice_get-map}
use Rattle.ckr_base.proofs.Numbers.{suc-minus}
use Rattle.ckr_base.specs.RoomyLists.{Roomy}
use Rattle.ckr_entry.specs.declared.point.Mark.{Mark}
use Rattle.ckr_entry.specs.declared.point.Passed.{Passed}
use Rattle.ckr_library.specs.Catalog.{Holding}
use Rattle.ckr_library.specs.NameMaps.{Name, Named}
use Rattle.ckr_library.specs.declared.sets.Kept.{Kept}
use Rattle.ckr_points_runs.specs.declared.run_table.StepPoint.{StepPoint}
use Rattle.ckr_points_runs.specs.declared.run_table.WrittenEntry.{WrittenEntry}
use Rattle.ckr_meaning.specs.EffectiveJob.{OwnedStep, names_of, step_at}
use Rattle.ckr_meaning.specs.declared.place.Place.TheVariants.{Opened, Within}
use Rattle.ckr_points.specs.declared.run.Run.{Run}
use Rattle.ckr_points.specs.Marks.{point_at, with_point}
use Rattle.ckr_points.specs.Restart.{effect_restarted, point_restarted}
use Rattle.ckr_points.specs.Rows.{EffectPoint, EntryPoint, StartPoint}
use Rattle.ckr_points_library.specs.Commit.{output_names}
use Rattle.ckr_points_runs.specs.PutBack.{all_made_gone, sets_back}
use Rattle.ckr_points_tables.specs.Restart.{back_at_entry, back_at_start, check_restarted, effect_restart, facts_back, kept_under, line_on, point_written, step_restarted}
use Rattle.ckr_points_runs.specs.RunChange.{Going, by_step_of, going, step_of}
use Rattle.ckr_points_runs.specs.RunJobs.{effective}
use Rattle.ckr_points_runs.specs.View.{RunTableView, Writing, point_of, writing_of, written_of}
use Rattle.ckr_points_tables.specs.View.{Writings, find_last, is_entry, no_point, point_for, written_by}
use Rattle.ckr_points_runs.proofs.Steps.{point-mapped}

-- where there is no point of the step, nothing changes
pub start-without-point : (now : Going Holding) (step initiator : ℕ) (own : OwnedStep) → step_of now step ≡ Some own → point_at now.facts.points step ≡ None → now ≡ by_step_of step (step_restarted initiator step now) now
start-without-point now step initiator own there none =
    sym (ap (λ found. option_map_or (step_restarted initiator step now) found now) there ∙ ap (λ found. option_map_or (back_at_start initiator step now own) found now) none)

start-with-point : (now : Going Holding) (step initiator : ℕ) (own : OwnedStep) (point : StartPoint) → step_of now step ≡ Some own → point_at now.facts.points step ≡ Some point → back_at_start initiator step now own point ≡ by_step_of step (step_restarted initiator step now) now
start-with-point now step initiator own point there found =
    sym (ap (λ one. option_map_or (step_restarted initiator step now) one now) there ∙ ap (λ one. option_map_or (back_at_start initiator step now own) one now) found)

-- a step point as the code finds it
pub point-found : (points items : List StepPoint) → items ≡ points → (step : ℕ) (point : StepPoint) → Some point ≡ find (λ (one : StepPoint). one.step == step) items → point_at (map point_of points) step ≡ Some (point_of point)
point-found points items same step point is =
    sym (point-mapped points step) ∙ ap (option_map point_of) (sym (is ∙ ap (λ all. find (λ (one : StepPoint). one.step == step) all) same))

pub point-lost : (points items : List StepPoint) → items ≡ points → (step : ℕ) → None ≡ find (λ (one : StepPoint). one.step == step) items → point_at (map point_of points) step ≡ None
point-lost points items same step is =
    sym (point-mapped points step) ∙ ap (option_map point_of) (sym (is ∙ ap (λ all. find (λ (one : StepPoint). one.step == step) all) same))

-- an entry of a data set as the code finds it
written-point : (found : Option WrittenEntry) → point_written found ≡ option_map_or (λ (writing : Writing). writing.point) (option_map writing_of found) no_point
written-point None = refl
written-point (Some entry) = refl

module _ (writings : List (Roomy WrittenEntry)) (set : Name) (kept : Kept) (first : kept.run ≡ 0 → ⊥) where
  by-run : (found : Option (Roomy WrittenEntry)) → slice_get writings (kept.run - 1) ≡ found → written_by (map written_of writings) kept.run ≡ option_map_or written_of found []
  by-run found there = by kept.run first there
    where
      by : (run : ℕ) → (run ≡ 0 → ⊥) → slice_get writings (run - 1) ≡ found → written_by (map written_of writings) run ≡ option_map_or written_of found []
      by zero e there = absurd (e refl)
      by (suc place) e there =
          ap (λ one. option_map_or (λ written. written) one [])
          (slice_get-map written_of writings place ∙ ap (option_map written_of) (ap (slice_get writings) (sym (suc-minus place)) ∙ there))
          ∙ mapped found
        where
          mapped : (one : Option (Roomy WrittenEntry)) → option_map_or (λ written. written) (option_map written_of one) [] ≡ option_map_or written_of one []
          mapped None = refl
          mapped (Some entries) = refl

  pub entry-there : (entries : Roomy WrittenEntry) → slice_get writings (kept.run - 1) ≡ Some entries → (found : Option WrittenEntry)
      → option_map writing_of found ≡ find_last (is_entry set kept) (map writing_of entries.items) → point_written found ≡ point_for (map written_of writings) set kept
  entry-there entries there found is =
      written-point found ∙ ap (λ one. option_map_or (λ (writing : Writing). writing.point) one no_point) is
      ∙ ap (λ all. option_map_or (λ (writing : Writing). writing.point) (find_last (is_entry set kept) all) no_point) (sym (by-run (Some entries) there))

  pub entry-absent : slice_get writings (kept.run - 1) ≡ None → no_point ≡ point_for (map written_of writings) set kept
  entry-absent none = ap (λ all. option_map_or (λ (writing : Writing). writing.point) (find_last (is_entry set kept) all) no_point) (sym (by-run None none))

module _ (line : Run) (facts : RunTableView) (sets : Named Holding) (step initiator : ℕ) (own : OwnedStep) (there : step_at (effective line.number facts.job) step ≡ Some own) where
  abbrev outputs : List Name
  outputs = output_names facts.job.root own

  abbrev names : List Name
  names = names_of facts.job.root own

  -- the pieces of a restart at the start of a step
  pub start-built : (point : StartPoint) → point_at facts.points step ≡ Some point
      → (new : Run) → new ≡ line_on initiator line
      → (gone back : Named Holding) (marks : List Mark) → marks ≡ point.marks
      → gone ≡ all_made_gone marks names sets → back ≡ sets_back marks outputs names gone
      → (passed : List Passed) → passed ≡ point.passed
      → (before after : RunTableView) → before ≡ facts_back (Opened step) point.count (record facts { passed = passed })
      → ((one : StartPoint) → point_at before.points step ≡ Some one → after ≡ record before { points = with_point (point_restarted one) before.points; in_effect = None })
      → going new after back ≡ by_step_of step (step_restarted initiator step (going line facts sets)) (going line facts sets)
  start-built point found new line_is gone back marks marks_are gone_is back_is passed passed_is before after before_is after_is =
      let facts_with = λ (all : List Passed). record (facts_back (Opened step) point.count facts) { passed = all; points = with_point (point_restarted point) facts.points; in_effect = None } in
      let built = going (line_on initiator line) (facts_with point.passed) in
      ap (λ l. going l after back) line_is
      ∙ ap (λ f. going (line_on initiator line) f back)
      (after_is point (ap (λ (f : RunTableView). point_at f.points step) before_is ∙ found) ∙ ap (λ (f : RunTableView). record f { points = with_point (point_restarted point) f.points; in_effect = None }) before_is)
      ∙ ap (λ all. going (line_on initiator line) (facts_with all) back) passed_is
      ∙ ap built (back_is ∙ ap (sets_back marks outputs names) gone_is ∙ ap (λ m. sets_back m outputs names (all_made_gone m names sets)) marks_are)
      ∙ start-with-point (going line facts sets) step initiator own point there found

  -- those of a restart at an entry
  pub entry-built : (point : EntryPoint) (effect : EffectPoint) → facts.in_effect ≡ Some effect
      → (new : Run) → new ≡ line_on initiator line
      → (back : Named Holding) (marks : List Mark) → marks ≡ point.marks → back ≡ sets_back marks outputs names sets
      → (passed : List Passed) → passed ≡ point.passed
      → (writes count : ℕ) → writes ≡ point.writes → count ≡ point.count
      → (before after : RunTableView) → before ≡ facts_back (Within step writes) count (record facts { passed = passed }) → after ≡ record before { in_effect = option_map effect_restarted before.in_effect }
      → going new after back ≡ by_step_of step (λ one. back_at_entry initiator step effect (going line facts sets) one point) (going line facts sets)
  entry-built point effect in_effect new line_is back marks marks_are back_is passed passed_is writes count writes_are count_is before after before_is after_is =
      let facts_with = λ (w n : ℕ) (e : Option EffectPoint) (all : List Passed). record (facts_back (Within step w) n facts) { passed = all; in_effect = e } in
      let built = going (line_on initiator line) (facts_with point.writes point.count (Some (effect_restarted effect)) point.passed) in
      ap (λ l. going l after back) line_is
      ∙ ap (λ f. going (line_on initiator line) f back) (after_is ∙ ap (λ (f : RunTableView). record f { in_effect = option_map effect_restarted f.in_effect }) before_is)
      ∙ ap (λ w. going (line_on initiator line) (facts_with w count (option_map effect_restarted facts.in_effect) passed) back) writes_are
      ∙ ap (λ n. going (line_on initiator line) (facts_with point.writes n (option_map effect_restarted facts.in_effect) passed) back) count_is
      ∙ ap (λ e. going (line_on initiator line) (facts_with point.writes point.count (option_map effect_restarted e) passed) back) in_effect
      ∙ ap (λ all. going (line_on initiator line) (facts_with point.writes point.count (Some (effect_restarted effect)) all) back) passed_is
      ∙ ap built (back_is ∙ ap (λ m. sets_back m outputs names sets) marks_are)
      ∙ sym (ap (λ found. option_map_or (λ one. back_at_entry initiator step effect (going line facts sets) one point) found (going line facts sets)) there)

changed-by : (now : Going Holding) (step : ℕ) (change other : OwnedStep → Going Holding) → ((own : OwnedStep) → change own ≡ other own) → by_step_of step change now ≡ by_step_of step other now
changed-by now step change other same = by (step_of now step)
  where
    by : (there : Option OwnedStep) → option_map_or change there now ≡ option_map_or other there now
    by None = refl
    by (Some own) = same own

module _ (writings : Writings) (now : Going Holding) (step initiator : ℕ) (effect : EffectPoint) (in_effect : now.facts.in_effect ≡ Some effect) where
  check-by : (own : OwnedStep) (found : Option Kept) → kept_under now.sets effect.set effect.kept.id ≡ found
      → check_restarted writings initiator step now own ≡ option_map_or (back_at_entry initiator step effect now own) (option_map (point_for writings effect.set) found) now
  check-by own found is =
      ap (λ one. option_map_or (effect_restart writings initiator step now own) one now) in_effect
      ∙ ap (λ kept. option_map_or (back_at_entry initiator step effect now own) (option_map (point_for writings effect.set) kept) now) is

  pub entry-with-kept : (kept : Kept) → kept_under now.sets effect.set effect.kept.id ≡ Some kept → (point : EntryPoint) → point ≡ point_for writings effect.set kept
      → by_step_of step (λ own. back_at_entry initiator step effect now own point) now ≡ by_step_of step (check_restarted writings initiator step now) now
  entry-with-kept kept some point is =
      changed-by now step (λ own. back_at_entry initiator step effect now own point) (check_restarted writings initiator step now)
      (λ own. ap (back_at_entry initiator step effect now own) is ∙ sym (check-by own (Some kept) some))
