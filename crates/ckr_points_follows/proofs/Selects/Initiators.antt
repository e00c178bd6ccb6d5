-- An initiator with no run on it.
use Rattle.std.proofs.Common.{◌≡◌, ℕ, ◌&&◌, Bool, true, false, not, cond, nat_eq, find, List, [], ◌∷◌, refl, ap, sym, ◌∙◌, Some, None, Option}
use Rattle.std.specs.Option.{is_none, is_some, option_eq, option_map}
use Rattle.std.specs.List.{list_all}
use Rattle.std.proofs.lemmas.Bool.{false≢true}
use Rattle.ckr_points.specs.Rows.{RunRow, TablesModel}
use Rattle.ckr_points_tables.specs.View.{run_on}

none-on : (test : RunRow → Bool) (runs : List RunRow) → is_none (option_map (λ (row : RunRow). row.number) (find test runs)) ≡ list_all (λ row. not (test row)) runs
none-on test [] = refl
none-on test (row ∷ runs) =
    elim (test row) as (λ b. is_none (option_map (λ (one : RunRow). one.number) (cond b (Some row) (find test runs))) ≡ (not b && list_all (λ one. not (test one)) runs)) [
      | true ↦ refl
      | false ↦ none-on test runs
    ]

-- by the look-up of its run
pub no-run-by : (tables : TablesModel) (initiator : ℕ) (found : Option ℕ) (r : Bool) → is_some found ≡ not r → found ≡ run_on initiator tables → r ≡ list_all (λ (row : RunRow). not (option_eq nat_eq row.initiator (Some initiator))) tables.runs
no-run-by tables initiator found r none is = by found r none ∙ ap is_none is ∙ none-on (λ row. option_eq nat_eq row.initiator (Some initiator)) tables.runs
  where
    by : (found : Option ℕ) (r : Bool) → is_some found ≡ not r → r ≡ is_none found
    by None true e = refl
    by None false e = absurd (false≢true e)
    by (Some n) true e = absurd (false≢true (sym e))
    by (Some n) false e = refl
