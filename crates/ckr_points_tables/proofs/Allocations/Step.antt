-- The allocation of a step of a run, as the tables have it.
use Rattle.std.proofs.Common.{◌≡◌, ℕ, suc, ap, sym, ◌∙◌, subst, List, [], ◌∷◌, slice_get, Some, Result, arith}
use Rattle.std.proofs.lemmas.Option.{same_Some}
use Rattle.arrayvec.specs.ArrayVec.{ArrayVec}
use Rattle.ckr_points_library.specs.declared.cause.Refusal.{Refusal}
use Rattle.ckr_points_library.specs.Allocation.{Allocation, allocated_all}
use Rattle.ckr_points_library.specs.Holdings.{holding_ways, standing}
use Rattle.ckr_events.specs.declared.event.Made.{Made}
use Rattle.ckr_library.specs.Catalog.{Holding}
use Rattle.ckr_library.specs.NameMaps.{EachEntry, Named}
use Rattle.ckr_meaning.specs.EffectiveJob.{HasDistinctNames, OwnedStep, placed_in, stamp_of, step_at}
use Rattle.ckr_points_tables.proofs.MeaningViews.{viewed-placed_in}
use Rattle.ckr_points.specs.declared.run.Run.{Run}
use Rattle.ckr_points.specs.Rows.{RunRow, TableSet, TablesModel, holding_of, run_of, step_of_run, table_ways}
use Rattle.ckr_volumes.specs.declared.layout.Layout.{Layout}
use Rattle.ckr_volumes.specs.Layouts.{StandsIn}
use Rattle.ckr_points_runs.specs.declared.run_table.RunTable.{RunTable}
use Rattle.ckr_points_tables.specs.Allocation.{HasFitting, IsAllocation, MayAllocate, allocation_in}
use Rattle.ckr_points_tables.specs.Invariant.{AreRuns}
use Rattle.ckr_points_runs.specs.RunJobs.{effective}
use Rattle.ckr_points_tables.specs.View.{Writings, row_of, rows_of, seen_under, table_in}
use Rattle.ckr_points_runs.specs.View.{seen_by}
use Rattle.ckr_points_tables.proofs.RoomGrowth.{distinct_there, found_there, line_there, numbered_there}
use Rattle.ckr_points_tables.proofs.SetViews.{held-back, table_view}

stand_seen : (layout : Layout) (writings : Writings) (sets : Named Holding) → EachEntry (λ (table : TableSet). StandsIn layout table.set) (seen_under (table_in writings) sets) → EachEntry (λ (h : Holding). StandsIn layout h.set) sets
stand_seen layout writings [] all = tt
stand_seen layout writings (entry ∷ sets) all = (all.0, stand_seen layout writings sets all.1)

module _ (lines : List Run) (tables : List RunTable) (are : AreRuns 1 lines tables) (place : ℕ) (table : RunTable) (here : slice_get tables place ≡ Some table)
    (writings : Writings) (sets : Named Holding) (desk : TablesModel) (seen_sets : seen_under (table_in writings) sets ≡ desk.sets) (seen_runs : rows_of lines tables ≡ desk.runs) (job : ℕ) (at : job ≡ suc place) where
  row : RunRow
  row = row_of (line_there lines tables are place table table here).0 table

  numbered : (line_there lines tables are place table table here).0.number ≡ job
  numbered = numbered_there lines tables are place table table here ∙ omega (arith, at)

  found : run_of desk job ≡ Some row
  unfolding row
  found =
      ap (run_of desk) at
      ∙ ap (λ (runs : List RunRow). slice_get runs place) (sym seen_runs)
      ∙ found_there lines tables are place table table here

  -- the names of its steps differ
  pub distinct_in : HasDistinctNames (effective job table.job)
  distinct_in = subst (λ n. HasDistinctNames (effective n table.job)) (omega (arith, at)) (distinct_there lines tables are place table table here)

  -- each data set of the library stands in the layout
  pub stand_in : (layout : Layout) → EachEntry (λ (one : TableSet). StandsIn layout one.set) desk.sets → EachEntry (λ (h : Holding). StandsIn layout h.set) sets
  stand_in layout all = stand_seen layout writings sets (subst (EachEntry (λ (one : TableSet). StandsIn layout one.set)) (sym seen_sets) all)

  -- the DDs of its step are such as a deck gives
  pub fit_in : (number : ℕ) → MayAllocate job number desk → (own : OwnedStep) → step_at (effective job table.job) number ≡ Some own → HasFitting table.job.root own
  unfolding row
  fit_in number may own step =
      may row own found (ap (λ n. step_at (effective n table.job) number) numbered ∙ step)

  -- what its step makes
  pub allocated_in : (layout : Layout) (number : ℕ) (made : Result (ArrayVec Made) Refusal)
      → ((own : OwnedStep) → step_at (effective job table.job) number ≡ Some own → IsAllocation (allocated_all layout (stamp_of own number) (placed_in holding_ways (standing sets table.passed.items) table.job.root own) sets) made)
      → (other : RunRow) (own : OwnedStep) → run_of desk job ≡ Some other → step_of_run other number ≡ Some own → IsAllocation (allocation_in layout other own number desk) made
  unfolding row
  allocated_in layout number made each other own is step =
      let same : row ≡ other = same_Some _ _ (sym found ∙ is) in
      let here = each own (ap (λ n. step_at (effective n table.job) number) (sym numbered) ∙ ap (λ (r : RunRow). step_of_run r number) same ∙ step) in
      let Known : RunRow → Type 0 = λ r. IsAllocation (allocation_in layout r own number desk) made in
      let Is : Result Allocation Refusal → Type 0 = λ done. IsAllocation done made in
      subst Known same
      (subst Is
      (ap (λ placed. allocated_all layout (stamp_of own number) placed sets) (viewed-placed_in (table_in writings) holding_ways table_ways (table_view writings).through (standing sets table.passed.items) table.job.root own)
      ∙ ap (λ (all : Named TableSet). allocated_all layout (stamp_of own number) (placed_in table_ways (record { sets = all; passed = table.passed.items }) table.job.root own) sets) seen_sets
      ∙ ap (allocated_all layout (stamp_of own number) (placed_in table_ways (record { sets = desk.sets; passed = table.passed.items }) row.job.root own)) (sym (held-back writings sets) ∙ ap (seen_by holding_of) seen_sets))
      here)
