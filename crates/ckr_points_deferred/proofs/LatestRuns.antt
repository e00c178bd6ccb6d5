-- The latest run of a job name, from the last run on.
-- latest-next            that of one run more
-- selected-some          the run that was selected is the latest of one run more
-- selected-none          a run that wasn't leaves the latest as it is
-- latest-found           the run of the line at a place, where it was selected
-- latest-lost            and where it wasn't
use Rattle.std.proofs.Common.{◌≡◌, ℕ, suc, Bool, true, false, cond, List, [], ◌∷◌, ◌++◌, map, take, slice_get, refl, ap, sym, ◌∙◌, Option, Some, None}
use Rattle.std.specs.List.{last_or}
use Rattle.std.specs.Option.{option_map}
use Rattle.std.proofs.lemmas.List.{append-nil}
use Rattle.std.proofs.lemmas.List.Elements.{filter-append}
use Rattle.std.proofs.lemmas.Option.{same_Some, slice_get-map}
use Rattle.ckr_base.proofs.Bools.{bool-cases}
use Rattle.ckr_base.proofs.Options.{some-not-none}
use Rattle.ckr_base.proofs.Sequences.{last-append, take-next}
use Rattle.ckr_library.specs.NameMaps.{Name}
use Rattle.ckr_points.specs.RuleCases.{selected_runs}
use Rattle.ckr_points.specs.declared.run.Run.{Run}
use Rattle.ckr_points.specs.Rows.{RunRow, TablesModel, run_of}
use Rattle.ckr_points_tables.specs.RunRows.{IsRunRow}
use Rattle.ckr_points_tables.specs.View.{line_of}
use Rattle.ckr_points_deferred.specs.Latest.{is_selected_as, latest_before, selected_among}

pub latest-next : (name : Name) (runs : List RunRow) (count : ℕ) (row : RunRow) → slice_get runs count ≡ Some row → latest_before name (suc count) runs ≡ cond (is_selected_as name row) (Some row) (latest_before name count runs)
latest-next name runs count row at =
    ap (λ some. last_or None (selected_runs name some)) (take-next count runs row at)
    ∙ ap (last_or None) (filter-append (is_selected_as name) (take count runs) (row ∷ []))
    ∙ by (is_selected_as name row)
  where
    by : (b : Bool) → last_or None (selected_runs name (take count runs) ++ cond b (row ∷ []) []) ≡ cond b (Some row) (last_or None (selected_runs name (take count runs)))
    by true = last-append None (selected_runs name (take count runs)) row
    by false = ap (last_or None) (append-nil (selected_runs name (take count runs)))

pub selected-some : (name : Name) (runs : List RunRow) (count : ℕ) (row found : RunRow) → slice_get runs count ≡ Some row → Some found ≡ selected_among name (Some row) → Some found ≡ latest_before name (suc count) runs
selected-some name runs count row found at is =
    bool-cases (is_selected_as name row)
    (λ passes. is ∙ ap (λ b. cond b (Some row) None) passes ∙ sym (latest-next name runs count row at ∙ ap (λ b. cond b (Some row) (latest_before name count runs)) passes))
    (λ fails. absurd (some-not-none found (is ∙ ap (λ b. cond b (Some row) None) fails)))

pub selected-none : (name : Name) (runs : List RunRow) (count : ℕ) (row : RunRow) → slice_get runs count ≡ Some row → None ≡ selected_among name (Some row) → latest_before name count runs ≡ latest_before name (suc count) runs
selected-none name runs count row at is =
    bool-cases (is_selected_as name row)
    (λ passes. absurd (some-not-none row (sym (is ∙ ap (λ b. cond b (Some row) None) passes))))
    (λ fails. sym (latest-next name runs count row at ∙ ap (λ b. cond b (Some row) (latest_before name count runs)) fails))

-- ---- by the line of the run

module _ (desk : TablesModel) (rows : (job : ℕ) (row : RunRow) → run_of desk job ≡ Some row → IsRunRow job row) (lines : List Run) (are : lines ≡ map line_of desk.runs) where
  -- the run of the line at a place
  record AtPlace (place : ℕ) (line : Run) : Type 0 where
    row : RunRow
    there : slice_get desk.runs place ≡ Some row
    numbered : run_of desk line.number ≡ Some row

  at-place : (place : ℕ) (line : Run) → slice_get lines place ≡ Some line → AtPlace place line
  at-place place line at = by (slice_get desk.runs place) refl (sym (slice_get-map line_of desk.runs place) ∙ ap (λ all. slice_get all place) (sym are) ∙ at)
    where
      by : (found : Option RunRow) → slice_get desk.runs place ≡ found → option_map line_of found ≡ Some line → AtPlace place line
      by None there lined = absurd (some-not-none line (sym lined))
      by (Some row) there lined = record {
        row = row;
        there = there;
        numbered = ap (λ one. run_of desk one.number) (sym (same_Some (line_of row) line lined)) ∙ ap (run_of desk) (rows (suc place) row there).numbered ∙ there;
      }

  pub latest-found : (name : Name) (place : ℕ) (line : Run) (found : RunRow) → slice_get lines place ≡ Some line → Some found ≡ selected_among name (run_of desk line.number) → Some found ≡ latest_before name (suc place) desk.runs
  latest-found name place line found at is =
      let here = at-place place line at in
      selected-some name desk.runs place here.row found here.there (is ∙ ap (selected_among name) here.numbered)

  pub latest-lost : (name : Name) (place : ℕ) (line : Run) → slice_get lines place ≡ Some line → None ≡ selected_among name (run_of desk line.number) → latest_before name place desk.runs ≡ latest_before name (suc place) desk.runs
  latest-lost name place line at is =
      let here = at-place place line at in
      selected-none name desk.runs place here.row here.there (is ∙ ap (selected_among name) here.numbered)
