-- The lines of the runs: each stands at the place of its number, and by it is seen whether its run is on an initiator.
use Rattle.std.proofs.Common.{◌≡◌, ◌==◌, false, refl, ap, sym, ◌∙◌, ℕ, suc, Option, None, Some, map}
use Rattle.std.specs.Prelude.{slice_get}
use Rattle.std.specs.Option.{option_map, option_map_or}
use Rattle.std.proofs.lemmas.Option.{same_Some, slice_get-map}
use Rattle.ckr_base.proofs.Options.{some-not-none}
use Rattle.ckr_points.specs.declared.run.Run.{Run}
use Rattle.ckr_points.specs.declared.run.RunState.TheVariants.{On}
use Rattle.ckr_points.specs.Follows.{is_in_state, of_run, state_number}
use Rattle.ckr_points.specs.Rows.{RunRow, TablesModel, run_of}
use Rattle.ckr_points_tables.specs.RunRows.{IsRunRow}
use Rattle.ckr_points_tables.specs.View.{line_of}
use Rattle.ckr_desk_memory.specs.Lines.{AreNumberedLines}

pub numbered-lines : (tables : TablesModel) → ((job : ℕ) (row : RunRow) → run_of tables job ≡ Some row → IsRunRow job row) → AreNumberedLines (map line_of tables.runs)
numbered-lines tables rows place line at = by_row (slice_get tables.runs place) refl (sym (slice_get-map line_of tables.runs place) ∙ at)
  where
    by_row : (found : Option RunRow) → slice_get tables.runs place ≡ found → option_map line_of found ≡ Some line → line.number ≡ suc place
    by_row (Some row) is same = ap (λ (line : Run). line.number) (sym (same_Some (line_of row) line same)) ∙ (rows (suc place) row is).numbered
    by_row None is same = absurd (some-not-none line (sym same))

pub on-line : (tables : TablesModel) (job : ℕ) (line : Run) → Some line ≡ option_map line_of (run_of tables job) → (state_number line.state == state_number On) ≡ of_run tables job (is_in_state On)
on-line tables job line is = by (run_of tables job) is
  where
    by : (found : Option RunRow) → Some line ≡ option_map line_of found → (state_number line.state == state_number On) ≡ option_map_or (is_in_state On) found false
    by None is = absurd (some-not-none line is)
    by (Some row) is = ap (λ (l : Run). state_number l.state == state_number On) (same_Some line (line_of row) is)

pub no-line : (tables : TablesModel) (job : ℕ) → None ≡ option_map line_of (run_of tables job) → false ≡ of_run tables job (is_in_state On)
no-line tables job is = by (run_of tables job) is
  where
    by : (found : Option RunRow) → None ≡ option_map line_of found → false ≡ option_map_or (is_in_state On) found false
    by None is = refl
    by (Some row) is = absurd (some-not-none (line_of row) (sym is))
