-- The runs with their lines, seen as rows.
use Rattle.std.proofs.Common.{◌≡◌, ℕ, zero, suc, ◌+◌, Bool, true, false, cond, nat_eq, List, [], ◌∷◌, ◌++◌, drop, length, map, slice_get, slice_set, slice_index, find, refl, ap, sym, ◌∙◌, subst, arith, Some, None, Option}
use Rattle.std.specs.Option.{option_map, option_eq}
use Rattle.std.proofs.lemmas.Bool.{false≢true}
use Rattle.std.proofs.lemmas.List.{take_at}
use Rattle.std.proofs.lemmas.Option.{same_Some}
use Rattle.ckr_base.proofs.Numbers.{nat_eq-false, nat_eq-true, zero-not-suc}
use Rattle.ckr_base.proofs.Options.{some-not-none}
use Rattle.ckr_points.specs.declared.run.Run.{Run}
use Rattle.ckr_points_runs.specs.declared.run_table.RunTable.{RunTable}
use Rattle.ckr_points.specs.Rows.{RunRow, TablesModel, run_of}
use Rattle.std.specs.List.{list_all}
use Rattle.ckr_meaning.specs.EffectiveJob.{HasDistinctNames, OwnedStep, owned_by}
use Rattle.ckr_points.specs.Syschk.{names_its_set}
use Rattle.ckr_points_runs.specs.Rewrite.{has_master}
use Rattle.ckr_points_runs.specs.RunJobs.{IsFitting, JobView, effective, is_within_limits}
use Rattle.ckr_points_runs.specs.View.{facts_of, place_of}
use Rattle.ckr_points_tables.specs.View.{facts_in, line_of, row_of, rows_of}
use Rattle.ckr_points_tables.specs.Invariant.{IsRun, AreRuns, IsIndexOf, initiator_at, is_queued}

-- each line is that of its row
pub lines-rows : (number : ℕ) (lines : List Run) (tables : List RunTable) → AreRuns number lines tables → lines ≡ map line_of (rows_of lines tables)
lines-rows number [] [] are = refl
lines-rows number [] (table ∷ tables) are = absurd are
lines-rows number (line ∷ lines) [] are = absurd are
lines-rows number (line ∷ lines) (table ∷ tables) are =
    ap (λ rest. line ∷ rest) (lines-rows (suc number) lines tables are.1)
    ∙ ap (λ name. record line { name = name } ∷ map line_of (rows_of lines tables)) are.0.named

-- what is kept of a run is what its row has
pub facts-row : (number : ℕ) (line : Run) (table : RunTable) → IsRun number line table → facts_of table ≡ facts_in (row_of line table)
facts-row number line table is =
    let job = table.job in
    sym (ap (λ taken. record (facts_of table) { job = record job { taken = taken } }) (take_at job.taken (map (owned_by line.number job.deck) (drop (length job.taken) job.deck.steps)) job.earlier_step is.taken))

-- what is kept at a place is what the row there has
pub facts-rows : (number : ℕ) (lines : List Run) (tables : List RunTable) → AreRuns number lines tables → (place : ℕ) → option_map facts_of (slice_get tables place) ≡ option_map facts_in (slice_get (rows_of lines tables) place)
facts-rows number [] [] are place = refl
facts-rows number [] (table ∷ tables) are place = absurd are
facts-rows number (line ∷ lines) [] are place = absurd are
facts-rows number (line ∷ lines) (table ∷ tables) are zero = ap Some (facts-row number line table are.0)
facts-rows number (line ∷ lines) (table ∷ tables) are (suc place) = facts-rows (suc number) lines tables are.1 place

pub length-rows : (number : ℕ) (lines : List Run) (tables : List RunTable) → AreRuns number lines tables → (length lines ≡ length tables) × (length (rows_of lines tables) ≡ length tables)
length-rows number [] [] are = (refl, refl)
length-rows number [] (table ∷ tables) are = absurd are
length-rows number (line ∷ lines) [] are = absurd are
length-rows number (line ∷ lines) (table ∷ tables) are =
    let rest = length-rows (suc number) lines tables are.1 in (ap suc rest.0, ap suc rest.1)

-- a run stays one that keeps its number, its name and its job
pub run-stays : (number : ℕ) (line new : Run) (table after : RunTable) → IsRun number line table → new.number ≡ line.number → new.name ≡ line.name → after.job ≡ table.job → (is_queued new.state ≡ true → new.initiator ≡ None) → IsRun number new after
run-stays number line new table after is numbered named job free = record {
  numbered = numbered ∙ is.numbered;
  named = named ∙ is.named ∙ ap (λ (one : JobView). one.deck.name) (sym job);
  limits = ap (λ (one : JobView). is_within_limits one.deck) job ∙ is.limits;
  fits = subst (λ one. IsFitting (effective number one)) (sym job) is.fits;
  distinct = subst (λ one. HasDistinctNames (effective number one)) (sym job) is.distinct;
  masters = subst (λ one. list_all (λ (own : OwnedStep). has_master own.step) (effective number one).steps ≡ true) (sym job) is.masters;
  syschk = ap (λ (one : JobView). names_its_set one.deck.syschk) job ∙ is.syschk;
  free = free;
  taken = subst (λ (one : JobView). length one.taken ≡ one.earlier_step) (sym job) is.taken;
}

-- a row at a place, by its line and its facts
pub record RunAt (number : ℕ) (lines : List Run) (tables : List RunTable) (place : ℕ) (row : RunRow) : Type 0 where
  pub line : Run
  pub table : RunTable
  pub lined : slice_get lines place ≡ Some line
  pub tabled : slice_get tables place ≡ Some table
  pub same : row ≡ row_of line table
  pub is : IsRun (number + place) line table

pub run-at : (number : ℕ) (lines : List Run) (tables : List RunTable) → AreRuns number lines tables → (place : ℕ) (row : RunRow) → slice_get (rows_of lines tables) place ≡ Some row → RunAt number lines tables place row
run-at number [] [] are place row found = absurd (some-not-none _ (sym found))
run-at number [] (table ∷ tables) are place row found = absurd are
run-at number (line ∷ lines) [] are place row found = absurd are
run-at number (line ∷ lines) (table ∷ tables) are zero row found = record {
  line = line;
  table = table;
  lined = refl;
  tabled = refl;
  same = sym (same_Some (row_of line table) row found);
  is = subst (λ n. IsRun n line table) (omega arith) are.0;
}
run-at number (line ∷ lines) (table ∷ tables) are (suc place) row found =
    let rest = run-at (suc number) lines tables are.1 place row found in
    record {
      line = rest.line;
      table = rest.table;
      lined = rest.lined;
      tabled = rest.tabled;
      same = rest.same;
      is = subst (λ n. IsRun n rest.line rest.table) (omega arith) rest.is;
    }

pub runs-at : (number : ℕ) (lines : List Run) (tables : List RunTable) → AreRuns number lines tables → (place : ℕ) (line : Run) (table : RunTable) → slice_get lines place ≡ Some line → slice_get tables place ≡ Some table → IsRun (number + place) line table
runs-at number [] tables are place line table lined tabled = absurd (some-not-none _ (sym lined))
runs-at number (first ∷ lines) [] are place line table lined tabled = absurd are
runs-at number (first ∷ lines) (one ∷ tables) are zero line table lined tabled =
    subst (λ l. IsRun (number + 0) l table) (same_Some first line lined) (subst (λ t. IsRun (number + 0) first t) (same_Some one table tabled) (subst (λ n. IsRun n first one) (omega arith) are.0))
runs-at number (first ∷ lines) (one ∷ tables) are (suc place) line table lined tabled =
    subst (λ n. IsRun n line table) (omega arith) (runs-at (suc number) lines tables are.1 place line table lined tabled)

pub rows-at : (lines : List Run) (tables : List RunTable) (place : ℕ) (line : Run) (table : RunTable) → slice_get lines place ≡ Some line → slice_get tables place ≡ Some table → slice_get (rows_of lines tables) place ≡ Some (row_of line table)
rows-at [] tables place line table lined tabled = absurd (some-not-none _ (sym lined))
rows-at (first ∷ lines) [] place line table lined tabled = absurd (some-not-none _ (sym tabled))
rows-at (first ∷ lines) (one ∷ tables) zero line table lined tabled =
    ap (λ l. Some (row_of l one)) (same_Some first line lined) ∙ ap (λ t. Some (row_of line t)) (same_Some one table tabled)
rows-at (first ∷ lines) (one ∷ tables) (suc place) line table lined tabled = rows-at lines tables place line table lined tabled

-- a run in its place
pub rows-set : (lines : List Run) (tables : List RunTable) (place : ℕ) (line : Run) (table : RunTable) → rows_of (slice_set lines place line) (slice_set tables place table) ≡ slice_set (rows_of lines tables) place (row_of line table)
rows-set [] tables place line table = refl
rows-set (first ∷ lines) [] zero line table = refl
rows-set (first ∷ lines) [] (suc place) line table = refl
rows-set (first ∷ lines) (one ∷ tables) zero line table = refl
rows-set (first ∷ lines) (one ∷ tables) (suc place) line table = ap (λ rest. row_of first one ∷ rest) (rows-set lines tables place line table)

-- a run in its place, with a line of its number and name
pub runs-set : (number : ℕ) (lines : List Run) (tables : List RunTable) → AreRuns number lines tables → (place : ℕ) (line : Run) (table : RunTable) → IsRun (number + place) line table → AreRuns number (slice_set lines place line) (slice_set tables place table)
runs-set number [] [] are place line table is = tt
runs-set number [] (one ∷ tables) are place line table is = absurd are
runs-set number (first ∷ lines) [] are place line table is = absurd are
runs-set number (first ∷ lines) (one ∷ tables) are zero line table is = (subst (λ n. IsRun n line table) (omega arith) is, are.1)
runs-set number (first ∷ lines) (one ∷ tables) are (suc place) line table is =
    (are.0, runs-set (suc number) lines tables are.1 place line table (subst (λ n. IsRun n line table) (omega arith) is))

pub get-other : {A : Type 0} (items : List A) (place other : ℕ) (one : A) → (other ≡ place → ⊥) → slice_get (slice_set items place one) other ≡ slice_get items other
get-other [] place other one apart = refl
get-other (first ∷ items) zero zero one apart = absurd (apart refl)
get-other (first ∷ items) zero (suc other) one apart = refl
get-other (first ∷ items) (suc place) zero one apart = refl
get-other (first ∷ items) (suc place) (suc other) one apart = get-other items place other one (λ same. apart (ap suc same))

-- ---- the run on an initiator

abbrev is_at : ℕ → RunRow → Bool
is_at initiator row = option_eq nat_eq row.initiator (Some initiator)

pub at_true : (found : Option ℕ) (initiator : ℕ) → option_eq nat_eq found (Some initiator) ≡ true → found ≡ Some initiator
at_true None initiator e = absurd (false≢true e)
at_true (Some other) initiator e = ap Some (nat_eq-true other initiator e)

pub at_false : (found : Option ℕ) (initiator : ℕ) → option_eq nat_eq found (Some initiator) ≡ false → found ≡ Some initiator → ⊥
at_false None initiator e f = some-not-none _ (sym f)
at_false (Some other) initiator e f = nat_eq-false other initiator e (same_Some other initiator f)

-- the only run on an initiator is found there
pub only-found : (number : ℕ) (lines : List Run) (tables : List RunTable) → AreRuns number lines tables → (initiator place : ℕ) → initiator_at lines place ≡ Some initiator → ((other : ℕ) → initiator_at lines other ≡ Some initiator → other ≡ place) → option_map (λ (row : RunRow). row.number) (find (is_at initiator) (rows_of lines tables)) ≡ Some (number + place)
only-found number [] [] are initiator place here only = absurd (some-not-none _ (sym here))
only-found number [] (table ∷ tables) are initiator place here only = absurd are
only-found number (line ∷ lines) [] are initiator place here only = absurd are
only-found number (line ∷ lines) (table ∷ tables) are initiator zero here only =
    elim (is_at initiator (row_of line table)) as (λ b. is_at initiator (row_of line table) ≡ b → option_map (λ (row : RunRow). row.number) (cond b (Some (row_of line table)) (find (is_at initiator) (rows_of lines tables))) ≡ Some (number + 0)) [
      | true ↦ λ e. ap Some (are.0.numbered ∙ omega arith)
      | false ↦ λ e. absurd (at_false line.initiator initiator e here)
    ] refl
only-found number (line ∷ lines) (table ∷ tables) are initiator (suc place) here only =
    elim (is_at initiator (row_of line table)) as (λ b. is_at initiator (row_of line table) ≡ b → option_map (λ (row : RunRow). row.number) (cond b (Some (row_of line table)) (find (is_at initiator) (rows_of lines tables))) ≡ Some (number + suc place)) [
      | true ↦ λ e. absurd (clash (only 0 (at_true line.initiator initiator e)))
      | false ↦ λ e. only-found (suc number) lines tables are.1 initiator place here (λ other at. less (only (suc other) at)) ∙ ap Some (omega arith)
    ] refl
  where
    clash : 0 ≡ suc place → ⊥
    clash e = omega arith

    less : {other : ℕ} → suc other ≡ suc place → other ≡ place
    less {other} e = omega arith

-- none is found where none is
pub none-found : (number : ℕ) (lines : List Run) (tables : List RunTable) (initiator : ℕ) → ((place : ℕ) → initiator_at lines place ≡ Some initiator → ⊥) → option_map (λ (row : RunRow). row.number) (find (is_at initiator) (rows_of lines tables)) ≡ None
none-found number [] tables initiator none = refl
none-found number (line ∷ lines) [] initiator none = refl
none-found number (line ∷ lines) (table ∷ tables) initiator none =
    elim (is_at initiator (row_of line table)) as (λ b. is_at initiator (row_of line table) ≡ b → option_map (λ (row : RunRow). row.number) (cond b (Some (row_of line table)) (find (is_at initiator) (rows_of lines tables))) ≡ None) [
      | true ↦ λ e. absurd (none 0 (at_true line.initiator initiator e))
      | false ↦ λ e. none-found (suc number) lines tables initiator (λ place. none (suc place))
    ] refl

-- by the index
pub index-found : (lines : List Run) (tables : List RunTable) (index : List ℕ) → AreRuns 1 lines tables → IsIndexOf index lines → (initiator number : ℕ) → number ≡ slice_index index initiator → (number ≡ 0 → ⊥) → option_map (λ (row : RunRow). row.number) (find (is_at initiator) (rows_of lines tables)) ≡ Some number
index-found lines tables index are is initiator zero at some = absurd (some refl)
index-found lines tables index are is initiator (suc place) at some =
    only-found 1 lines tables are initiator place (is.on initiator place (sym at)) (λ other on. less (at ∙ is.all initiator other on)) ∙ ap Some (omega arith)
  where
    less : {other : ℕ} → suc place ≡ suc other → other ≡ place
    less {other} e = omega arith

pub index-none : (lines : List Run) (tables : List RunTable) (index : List ℕ) → IsIndexOf index lines → (initiator : ℕ) → slice_index index initiator ≡ 0 → option_map (λ (row : RunRow). row.number) (find (is_at initiator) (rows_of lines tables)) ≡ None
index-none lines tables index is initiator at =
    none-found 1 lines tables initiator (λ place on. zero-not-suc place (sym at ∙ is.all initiator place on))

-- the index of no runs
pub index-empty : (index : List ℕ) → length index ≡ 256 → ((initiator : ℕ) → slice_index index initiator ≡ 0) → IsIndexOf index []
index-empty index long none = record {
  long = long;
  on = λ initiator place e. absurd (zero-not-suc place (sym (none initiator) ∙ e));
  all = λ initiator place e. absurd (some-not-none _ (sym e));
}

-- ---- a run by its number

module _ (lines : List Run) (tables : List RunTable) (desk : TablesModel) (seen : rows_of lines tables ≡ desk.runs) where
  run_is : (job place : ℕ) → Some place ≡ place_of job → run_of desk job ≡ slice_get (rows_of lines tables) place
  run_is zero place at = absurd (some-not-none _ at)
  run_is (suc before) place at = ap (λ runs. slice_get runs before) (sym seen) ∙ ap (slice_get (rows_of lines tables)) (sym (same_Some place before at))

  pub facts-run : AreRuns 1 lines tables → (job place : ℕ) → Some place ≡ place_of job → option_map facts_of (slice_get tables place) ≡ option_map facts_in (run_of desk job)
  facts-run are job place at = facts-rows 1 lines tables are place ∙ ap (option_map facts_in) (sym (run_is job place at))

-- there is no run of number 0
pub no_run : (desk : TablesModel) (job : ℕ) → None ≡ place_of job → run_of desk job ≡ None
no_run desk zero at = refl
no_run desk (suc before) at = absurd (some-not-none before (sym at))

-- ---- one more run

pub rows-more : (lines : List Run) (tables : List RunTable) → length lines ≡ length tables → (line : Run) (table : RunTable) → rows_of (lines ++ line ∷ []) (tables ++ table ∷ []) ≡ rows_of lines tables ++ row_of line table ∷ []
rows-more [] [] same line table = refl
rows-more [] (one ∷ tables) same line table = absurd (omega (arith, same))
rows-more (first ∷ lines) [] same line table = absurd (omega (arith, same))
rows-more (first ∷ lines) (one ∷ tables) same line table = ap (λ rest. row_of first one ∷ rest) (rows-more lines tables (omega (arith, same)) line table)

pub runs-more : (number : ℕ) (lines : List Run) (tables : List RunTable) → AreRuns number lines tables → (line : Run) (table : RunTable) → IsRun (number + length tables) line table → AreRuns number (lines ++ line ∷ []) (tables ++ table ∷ [])
runs-more number [] [] are line table is = (subst (λ n. IsRun n line table) (omega arith) is, tt)
runs-more number [] (one ∷ tables) are line table is = absurd are
runs-more number (first ∷ lines) [] are line table is = absurd are
runs-more number (first ∷ lines) (one ∷ tables) are line table is =
    (are.0, runs-more (suc number) lines tables are.1 line table (subst (λ n. IsRun n line table) (omega arith) is))

initiator-more : (lines : List Run) (line : Run) → line.initiator ≡ None → (place : ℕ) → initiator_at (lines ++ line ∷ []) place ≡ initiator_at lines place
initiator-more [] line none zero = none
initiator-more [] line none (suc place) = refl
initiator-more (first ∷ lines) line none zero = refl
initiator-more (first ∷ lines) line none (suc place) = initiator-more lines line none place

-- a run on no initiator leaves the index as it is
pub index-more : (lines : List Run) (index : List ℕ) → IsIndexOf index lines → (line : Run) → line.initiator ≡ None → IsIndexOf index (lines ++ line ∷ [])
index-more lines index is line none = record {
  long = is.long;
  on = λ initiator place e. initiator-more lines line none place ∙ is.on initiator place e;
  all = λ initiator place e. is.all initiator place (sym (initiator-more lines line none place) ∙ e);
}
