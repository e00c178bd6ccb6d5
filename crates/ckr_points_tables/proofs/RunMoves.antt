-- A run of the tables as it is behind a change, with its data sets: what the tables are then, and what is kept.
use Rattle.std.proofs.Common.{◌≡◌, ℕ, suc, ◌+◌, ◌-◌, ◌<◌, ◌≤◌, zero, Bool, true, false, List, [], ◌∷◌, length, map, slice_get, slice_set, refl, ap, sym, ◌∙◌, subst, arith, Some, None, Option}
use Rattle.std.specs.Option.{option_map_or, option_and_then}
use Rattle.std.proofs.lemmas.Bool.{false≢true}
use Rattle.std.proofs.lemmas.Option.{same_Some, slice_get_within}
use Rattle.std.proofs.Math.ListN.{length-set}
use Rattle.ckr_base.specs.RoomyLists.{Roomy}
use Rattle.ckr_base.proofs.Numbers.{suc-same}
use Rattle.ckr_base.proofs.Options.{some-not-none}
use Rattle.ckr_entry.specs.declared.point.Mark.{Mark}
use Rattle.ckr_library.specs.Catalog.{Holding}
use Rattle.ckr_library.specs.NameMaps.{EachEntry, Named}
use Rattle.ckr_points.specs.declared.run.Run.{Run}
use Rattle.ckr_points.specs.Follows.{of_run}
use Rattle.ckr_points.specs.Rows.{RunRow, TableSet, TablesModel, run_of, with_row}
use Rattle.ckr_points_runs.specs.declared.run_table.RunTable.{RunTable}
use Rattle.ckr_points_tables.specs.declared.tables.Tables.TheInside.{Inside}
use Rattle.ckr_points_tables.specs.Parts.{tables_seen, IsKept}
use Rattle.ckr_points_runs.specs.declared.run_table.WrittenEntry.{WrittenEntry}
use Rattle.ckr_points_tables.specs.Invariant.{AreKept, IsIndexOf, IsRun, IsWide, initiator_at, is_queued, put_at}
use Rattle.ckr_points_runs.specs.PutBack.{IsFilled}
use Rattle.ckr_points_runs.specs.RunChange.{Going, desk_with, going}
use Rattle.ckr_points_runs.specs.RunJobs.{IsFitting, effective}
use Rattle.ckr_points_tables.specs.View.{RoomyTables, row_of, rows_of, seen_under, table_in}
use Rattle.ckr_points_runs.specs.View.{facts_of, row_with, written_of}
use Rattle.ckr_points_tables.proofs.Initiators.{index_changed}
use Rattle.ckr_points_tables.proofs.Runs.{length-rows, rows-at, rows-set, run-stays, runs-at, runs-set}

-- the run stays what it is, and one that is queued is on no initiator
pub record StaysRun (now after : Going Holding) : Type 0 where
  pub number : after.line.number ≡ now.line.number
  pub name : after.line.name ≡ now.line.name
  pub job : after.facts.job ≡ now.facts.job
  pub free : is_queued after.line.state ≡ true → after.line.initiator ≡ None

-- a test of a run's row is true of the run that is there
pub of_run-row : (tables : TablesModel) (job : ℕ) (test : RunRow → Bool) (row : RunRow) → run_of tables job ≡ Some row → of_run tables job test ≡ true → test row ≡ true
of_run-row tables job test row found e = ap (λ there. option_map_or test there false) (sym found) ∙ e

-- and there is one
pub of_run-placed : (tables : TablesModel) (job : ℕ) (test : RunRow → Bool) → of_run tables job test ≡ true → (1 ≤ job) × (job ≤ length tables.runs)
of_run-placed tables zero test e = absurd (false≢true e)
of_run-placed tables (suc place) test e = by (slice_get tables.runs place) refl e
  where
    by : (found : Option RunRow) → slice_get tables.runs place ≡ found → option_map_or test found false ≡ true → (1 ≤ suc place) × (suc place ≤ length tables.runs)
    by None is e = absurd (false≢true e)
    by (Some row) is e = (omega arith, slice_get_within tables.runs place row is)

-- the place of a run of which a test is true
pub record IsPlaced (job : ℕ) (lines : List Run) (tables : List RunTable) : Type 0 where
  pub first : 1 ≤ job
  pub next : job ≡ suc (job - 1)
  pub lined : job - 1 < length lines
  pub tabled : job - 1 < length tables

pub placed_so : (a : Inside) (self : RoomyTables) → tables_seen a ≡ self → IsKept a → (job : ℕ) (test : RunRow → Bool) → of_run self.desk job test ≡ true → IsPlaced job a.lines.items a.tables.items
placed_so a self view kept job test follows =
    let at = of_run-placed (tables_seen a).desk job test (ap (λ v. of_run v.desk job test) view ∙ follows) in
    let long = length-rows 1 a.lines.items a.tables.items kept.runs in
    record { first = at.0; next = omega (arith, at.0); lined = omega (arith, at.0, at.1, long.0, long.1); tabled = omega (arith, at.0, at.1, long.1) }

module _ (sets : Named Holding) (lines : List Run) (tables : List RunTable) (index : List ℕ) (marks : List Mark) (entered : List (Roomy WrittenEntry)) (kept : AreKept sets lines tables index marks entered) (place : ℕ) (line : Run) (table : RunTable) (lined : slice_get lines place ≡ Some line) (tabled : slice_get tables place ≡ Some table) where
  abbrev seen : Named Holding → Named TableSet
  seen all = seen_under (table_in (map written_of entered)) all

  abbrev pub desk : TablesModel
  desk = record { sets = seen sets; runs = rows_of lines tables }

  pub is_run : IsRun (1 + place) line table
  is_run = runs-at 1 lines tables kept.runs place line table lined tabled

  pub number_is : line.number ≡ suc place
  number_is = is_run.numbered ∙ omega arith

  -- its job is within the limits
  pub run_fits : IsFitting (effective line.number table.job)
  run_fits = subst (λ n. IsFitting (effective n table.job)) (sym is_run.numbered) is_run.fits

  -- the row of the run
  pub run_there : run_of desk (suc place) ≡ Some (row_with line (facts_of table))
  run_there = rows-at lines tables place line table lined tabled

  pub run_found : run_of desk line.number ≡ Some (row_with line (facts_of table))
  run_found = ap (run_of desk) number_is ∙ run_there

  -- no other run is on its initiator
  pub only-on : (i k : ℕ) → line.initiator ≡ Some i → initiator_at lines k ≡ Some i → k ≡ place
  only-on i k on there =
      suc-same k place (sym (kept.indexed.all i k there) ∙ kept.indexed.all i place (ap (λ (found : Option Run). option_and_then (λ (l : Run). l.initiator) found) lined ∙ on))

  -- another line and table of the run
  module _ (new : Run) (after : RunTable) (now_sets : Named Holding) (same : new.number ≡ line.number) (new_is : IsRun (1 + place) new after) where
    -- the tables as they are seen
    pub desk_replaced : record { sets = seen now_sets; runs = rows_of (slice_set lines place new) (slice_set tables place after) } ≡ desk_with (going new (facts_of after) (seen now_sets)) desk
    desk_replaced =
        ap (λ runs. let all : TablesModel = record { sets = seen now_sets; runs = runs } in all)
        (rows-set lines tables place new after ∙ ap (λ n. with_row (row_of new after) n (rows_of lines tables)) (sym (same ∙ number_is)))

    -- what is kept, with an index of the lines as they are then
    pub kept_replaced : (other : List ℕ) (spared : List Mark) → EachEntry IsWide now_sets → EachEntry IsFilled now_sets → IsIndexOf other (slice_set lines place new) → spared ≡ [] → AreKept now_sets (slice_set lines place new) (slice_set tables place after) other spared entered
    kept_replaced other spared wide filled indexed empty = record {
      wide = wide;
      filled = filled;
      runs = runs-set 1 lines tables kept.runs place new after new_is;
      few = subst (λ n. n ≤ 9999999) (sym (length-set tables place after)) kept.few;
      indexed = indexed;
      spare = empty;
      written = kept.written ∙ sym (length-set tables place after);
    }

  -- where the run keeps its number, its name and its job
  module _ (new : Run) (after : RunTable) (now_sets : Named Holding) (stays : StaysRun (going line (facts_of table) sets) (going new (facts_of after) now_sets)) where
    new_is : IsRun (1 + place) new after
    new_is = run-stays (1 + place) line new table after is_run stays.number stays.name stays.job stays.free

    pub desk_moved : record { sets = seen now_sets; runs = rows_of (slice_set lines place new) (slice_set tables place after) } ≡ desk_with (going new (facts_of after) (seen now_sets)) desk
    desk_moved = desk_replaced new after now_sets stays.number new_is

    pub kept_moved : (other : List ℕ) (spared : List Mark) → EachEntry IsWide now_sets → EachEntry IsFilled now_sets → IsIndexOf other (slice_set lines place new) → spared ≡ [] → AreKept now_sets (slice_set lines place new) (slice_set tables place after) other spared entered
    kept_moved = kept_replaced new after now_sets stays.number new_is

    -- the index of a run that is where it was
    initiator-same : new.initiator ≡ line.initiator → (k : ℕ) → initiator_at (slice_set lines place new) k ≡ initiator_at lines k
    initiator-same same k = each lines place lined k
      where
        each : (all : List Run) (at : ℕ) → slice_get all at ≡ Some line → (k : ℕ) → initiator_at (slice_set all at new) k ≡ initiator_at all k
        each [] at there k = absurd (some-not-none _ (sym there))
        each (one ∷ all) zero there zero = same ∙ ap (λ (l : Run). l.initiator) (sym (same_Some one line there))
        each (one ∷ all) zero there (suc k) = refl
        each (one ∷ all) (suc at) there zero = refl
        each (one ∷ all) (suc at) there (suc k) = each all at there k

    pub index_stays : new.initiator ≡ line.initiator → IsIndexOf index (slice_set lines place new)
    index_stays same = record {
      long = kept.indexed.long;
      on = λ i k e. initiator-same same k ∙ kept.indexed.on i k e;
      all = λ i k e. kept.indexed.all i k (sym (initiator-same same k) ∙ e);
    }

    -- the index with the run's old initiator free and its new one taken
    pub index_moved : ((i : ℕ) → new.initiator ≡ Some i → i < 256) → ((i k : ℕ) → new.initiator ≡ Some i → initiator_at lines k ≡ Some i → k ≡ place) → IsIndexOf (put_at new.initiator (suc place) (put_at line.initiator 0 index)) (slice_set lines place new)
    index_moved fits only = index_changed lines index kept.indexed place line lined new fits only
