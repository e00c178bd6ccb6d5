-- What holds of the row of each run.
use Rattle.std.proofs.Common.{◌≡◌, ℕ, zero, suc, ◌<◌, ◌≤◌, true, List, length, ap, sym, ◌∙◌, subst, arith, Some, slice_get}
use Rattle.std.specs.List.{list_all}
use Rattle.ckr_base.proofs.Numbers.{one-plus}
use Rattle.ckr_base.proofs.Options.{some-not-none}
use Rattle.ckr_base.proofs.Sequences.{get-inside}
use Rattle.ckr_meaning.specs.EffectiveJob.{HasDistinctNames, OwnedStep}
use Rattle.ckr_points.specs.declared.run.Run.{Run}
use Rattle.ckr_points.specs.Rows.{RunRow, TablesModel, run_of}
use Rattle.ckr_points_runs.specs.declared.run_table.RunTable.{RunTable}
use Rattle.ckr_points_tables.specs.Invariant.{AreRuns, IsRun}
use Rattle.ckr_points_runs.specs.Rewrite.{has_master}
use Rattle.ckr_points_runs.specs.RunJobs.{IsFitting, JobView, effective}
use Rattle.ckr_points_tables.specs.RunRows.{IsRunRow}
use Rattle.ckr_points_runs.specs.View.{RunTableView, row_with}
use Rattle.ckr_points_tables.specs.View.{job_in, row_of, rows_of}
use Rattle.ckr_points_tables.proofs.Runs.{facts-row, run-at}

row-of : (number : ℕ) (line : Run) (table : RunTable) → number ≤ 9999999 → IsRun number line table → IsRunRow number (row_of line table)
row-of number line table few is =
    let facts = facts-row number line table is in
    let job : table.job ≡ job_in (row_of line table) = ap (λ (all : RunTableView). all.job) facts in
    record {
      numbered = is.numbered;
      told = ap (row_with line) facts;
      few = few;
      fits = subst (λ n. IsFitting (effective n table.job)) (sym is.numbered) is.fits;
      limits = is.limits;
      distinct = subst (λ n. HasDistinctNames (effective n table.job)) (sym is.numbered) is.distinct;
      masters = subst (λ n. list_all (λ (own : OwnedStep). has_master own.step) (effective n table.job).steps ≡ true) (sym is.numbered) is.masters;
      syschk = is.syschk;
      taken = ap (λ (one : JobView). length one.taken) (sym job) ∙ is.taken;
    }

pub rows-are : (lines : List Run) (tables : List RunTable) → AreRuns 1 lines tables → length tables ≤ 9999999 → (desk : TablesModel) → rows_of lines tables ≡ desk.runs → (job : ℕ) (row : RunRow) → run_of desk job ≡ Some row → IsRunRow job row
rows-are lines tables are few desk seen zero row found = absurd (some-not-none _ (sym found))
rows-are lines tables are few desk seen (suc place) row found =
    let at = run-at 1 lines tables are place row (ap (λ runs. slice_get runs place) seen ∙ found) in
    let less : place < length tables = get-inside at.table tables place at.tabled in
    subst (IsRunRow (suc place)) (sym at.same) (row-of (suc place) at.line at.table (omega (arith, less, few)) (subst (λ n. IsRun n at.line at.table) (one-plus place) at.is))
