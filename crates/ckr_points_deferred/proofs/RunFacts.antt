-- A run of the tables by its line and by what they keep of it besides.
-- line-got               a line by the run's number
-- none-numbered          no run has the number 0
-- none-seen              no line, no run
-- row-seen               a run by its line and its table
-- is-now                 what holds of it
use Rattle.std.proofs.Common.{◌≡◌, ℕ, zero, suc, ◌-◌, ◌≤◌, map, slice_get, refl, ap, sym, ◌∙◌, subst, IfSome, Some, None, Option}
use Rattle.std.specs.Option.{option_map}
use Rattle.std.proofs.lemmas.Option.{same_Some, slice_get-map}
use Rattle.ckr_base.proofs.Numbers.{suc-minus}
use Rattle.ckr_base.proofs.Options.{some-not-none}
use Rattle.ckr_points.specs.declared.run.Run.{Run}
use Rattle.ckr_points.specs.Rows.{RunRow, TablesModel, run_of}
use Rattle.ckr_points_tables.specs.Model.RunTable.{RunTable}
use Rattle.ckr_points_tables.specs.RunRows.{IsRunRow}
use Rattle.ckr_points_tables.specs.View.{facts_in, facts_of, line_of, row_of, row_with}
use Rattle.ckr_points_deferred.specs.Runs.{IsRunNow, row_now}
use Rattle.ckr_points_deferred.specs.declared.runs.RunNow.{RunNow}

pub line-got : (desk : TablesModel) (job : ℕ) → (job ≡ 0 → ⊥) → slice_get (map line_of desk.runs) (job - 1) ≡ option_map line_of (run_of desk job)
line-got desk zero some = absurd (some refl)
line-got desk (suc before) some = ap (slice_get (map line_of desk.runs)) (suc-minus before) ∙ slice_get-map line_of desk.runs before

pub none-numbered : (desk : TablesModel) (job : ℕ) → job ≡ 0 → (row : RunRow) → run_of desk job ≡ Some row → IsRunRow job row
none-numbered desk job zeroth row found = absurd (some-not-none row (sym (subst (λ n. run_of desk n ≡ Some row) zeroth found)))

pub none-seen : (found : Option RunRow) → None ≡ option_map line_of found → None ≡ found
none-seen None e = refl
none-seen (Some row) e = absurd (some-not-none _ (sym e))

module _ (desk : TablesModel) (job : ℕ) (rows : (row : RunRow) → run_of desk job ≡ Some row → IsRunRow job row) where
  pub row-seen : (line : Run) (table : Option RunTable) → Some line ≡ option_map line_of (run_of desk job) → option_map facts_of table ≡ option_map facts_in (run_of desk job) → option_map (row_of line) table ≡ run_of desk job
  row-seen line table lined kept = by (run_of desk job) refl table lined kept
    where
      by : (found : Option RunRow) → run_of desk job ≡ found → (table : Option RunTable) → Some line ≡ option_map line_of found → option_map facts_of table ≡ option_map facts_in found → option_map (row_of line) table ≡ found
      by None is table lined kept = absurd (some-not-none _ lined)
      by (Some row) is None lined kept = absurd (some-not-none _ (sym kept))
      by (Some row) is (Some table) lined kept =
          ap Some
          (ap (λ l. row_of l table) (same_Some line (line_of row) lined)
          ∙ ap (row_with (line_of row)) (same_Some (facts_of table) (facts_in row) kept)
          ∙ sym (rows row is).told)

  pub is-now : (found : Option RunNow) → option_map row_now found ≡ run_of desk job → IfSome found IsRunNow
  is-now None seen = tt
  is-now (Some run) seen =
      let is : IsRunRow job (row_now run) = rows (row_now run) (sym seen) in
      record { few = subst (λ n. n ≤ 9999999) (sym is.numbered) is.few; fits = is.fits; distinct = is.distinct; masters = is.masters; syschk = is.syschk }
