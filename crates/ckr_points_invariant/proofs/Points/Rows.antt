-- What holds of the points of each run, and of the entries of each data set, goes on to hold through what a run does to the tables.
use Rattle.std.proofs.Common.{◌≡◌, ℕ, zero, suc, Bool, true, false, List, [], ◌∷◌, ◌++◌, filter, refl, sym, Option, Some, None}
use Rattle.std.specs.Prelude.{slice_set}
use Rattle.std.specs.List.{AllByRecursion}
use Rattle.std.specs.Option.{option_map_or}
use Rattle.ckr_base.proofs.Options.{some-not-none}
use Rattle.ckr_base.proofs.Sequences.{each-get}
use Rattle.ckr_events.specs.declared.event.Ending.{Ending}
use Rattle.ckr_events.specs.declared.event.Ending.TheVariants.{Allocation, Coded, Completed}
use Rattle.ckr_library.specs.NameMaps.{Named}
use Rattle.ckr_meaning.specs.Dispositions.{Stock, passed_ended}
use Rattle.ckr_meaning.specs.EffectiveJob.{OwnedStep}
use Rattle.ckr_meaning.specs.declared.place.Place.{Place}
use Rattle.ckr_meaning.specs.declared.place.Place.TheVariants.{Before, Opened, Within}
use Rattle.ckr_points_library.specs.Commit.{output_names}
use Rattle.ckr_points.specs.declared.run.RunState.TheVariants.{Ended as EndedRun}
use Rattle.ckr_points.specs.Marks.{has_passed}
use Rattle.ckr_points.specs.Restart.{after_abnormal, after_ended, after_passed_ended, by_step, place_of}
use Rattle.ckr_points.specs.Rows.{KeptEntry, RunRow, StartPoint, TableSet, TablesModel, run_of, standing_of, step_of_run, with_row, with_run}
use Rattle.ckr_points.specs.Tables.{after_commit, after_dispositions, after_step_ended, committed, earlier_made, own_made, run_disposals}
use Rattle.ckr_points_invariant.specs.Invariant.{PointsHold, step_now}
use Rattle.ckr_points_invariant.proofs.Points.Sets as sets

pub all_set : {X : Type 0} (P : X → Type 0) (xs : List X) (place : ℕ) (x : X) → P x → AllByRecursion P xs → AllByRecursion P (slice_set xs place x)
all_set P [] zero x one each = tt
all_set P [] (suc place) x one each = tt
all_set P (first ∷ rest) zero x one each = (one, each.1)
all_set P (first ∷ rest) (suc place) x one each = (each.0, all_set P rest place x one each.1)

module _ (R : ℕ → ℕ → List StartPoint → Type 0) (E : List KeptEntry → Type 0) (none : E []) (fewer : (kept : KeptEntry → Bool) (entries : List KeptEntry) → E entries → E (filter kept entries)) where
  abbrev pub Hold : TablesModel → Type 0
  Hold tables = PointsHold R E tables

  abbrev pub RowHolds : RunRow → Type 0
  RowHolds row = R row.number row.count row.points

  abbrev pub SetsHold : Named TableSet → Type 0
  SetsHold all = sets.EachHolds E none fewer all

  with_row-holds : (row : RunRow) (number : ℕ) (runs : List RunRow) → RowHolds row → AllByRecursion RowHolds runs → AllByRecursion RowHolds (with_row row number runs)
  with_row-holds row zero runs one each = each
  with_row-holds row (suc before) runs one each = all_set RowHolds runs before row one each

  pub run-holds : (row : RunRow) (tables : TablesModel) → RowHolds row → Hold tables → Hold (with_run row tables)
  run-holds row tables one holds = record { rows = with_row-holds row row.number tables.runs one holds.rows; entries = holds.entries }

  pub row-holds : (tables : TablesModel) (number : ℕ) (row : RunRow) → Hold tables → run_of tables number ≡ Some row → RowHolds row
  row-holds tables zero row holds e = absurd (some-not-none row (sym e))
  row-holds tables (suc before) row holds e = each-get RowHolds tables.runs before row holds.rows e

  pub sets-hold : (tables : TablesModel) (all : Named TableSet) → SetsHold all → Hold tables → Hold (record tables { sets = all })
  sets-hold tables all each holds = record { rows = holds.rows; entries = each }

  -- ---- what a run does

  pub by : {A : Type 0} (tables : TablesModel) (change : A → TablesModel) (given : Option A) → ((its : A) → given ≡ Some its → Hold (change its)) → Hold tables → Hold (option_map_or change given tables)
  by tables change None each holds = holds
  by tables change (Some its) each holds = each its refl

  pub by-row : (tables : TablesModel) (job : ℕ) (change : RunRow → TablesModel) → Hold tables → ((row : RunRow) → RowHolds row → Hold (change row)) → Hold (option_map_or change (run_of tables job) tables)
  by-row tables job change holds each = by tables change (run_of tables job) (λ row e. each row (row-holds tables job row holds e)) holds

  pub by-step : (tables : TablesModel) (job : ℕ) (change : RunRow → OwnedStep → ℕ → TablesModel) → Hold tables → ((row : RunRow) (owned : OwnedStep) → RowHolds row → Hold (change row owned (step_now row))) → Hold (option_map_or (λ row. by_step (λ owned step. change row owned step) row tables) (run_of tables job) tables)
  by-step tables job change holds each =
      by-row tables job (λ row. by_step (λ owned step. change row owned step) row tables) holds
      (λ row mine. by tables (λ owned. change row owned (step_now row)) (step_of_run row (step_now row)) (λ owned found. each row owned mine) holds)

  pub commit-holds : (tables : TablesModel) (row : RunRow) (owned : OwnedStep) (step writes : ℕ) (lengths : List ℕ) → Hold tables → RowHolds row → Hold (after_commit row owned step writes lengths tables)
  commit-holds tables row owned step writes lengths holds mine =
      run-holds (record row { place = Some (Within step writes) }) (record tables { sets = committed (output_names row.job.root owned) lengths tables.sets }) mine
      (sets-hold tables (committed (output_names row.job.root owned) lengths tables.sets) (sets.committed-holds E none fewer (output_names row.job.root owned) lengths tables.sets holds.entries) holds)

  pub disposed-hold : (tables : TablesModel) (row : RunRow) (owned : OwnedStep) (step : ℕ) (abnormal : Bool) → Hold tables → SetsHold (after_dispositions row owned step abnormal tables).sets
  disposed-hold tables row owned step abnormal holds =
      sets.disposed_all-holds E none fewer (run_disposals row owned (own_made row owned step) (earlier_made tables row step) abnormal) (standing_of row tables) holds.entries

  pub step_ended-holds : (tables : TablesModel) (row : RunRow) (owned : OwnedStep) (step rc writes : ℕ) (lengths : List ℕ) → Hold tables → RowHolds row → Hold (after_step_ended row owned step rc writes lengths tables)
  step_ended-holds tables row owned step rc writes lengths holds mine =
      let done : TablesModel = after_commit row owned step writes lengths tables in
      let so : Hold done = commit-holds tables row owned step writes lengths holds mine in
      let standing : Stock TableSet = after_dispositions row owned step false done in
      run-holds (record row { place = Some (Before (suc step)); rcs = row.rcs ++ (step, rc) ∷ []; in_effect = None; passed = standing.passed }) (record done { sets = standing.sets }) mine
      (sets-hold done standing.sets (disposed-hold done row owned step false so) so)

  pub passed-holds : (tables : TablesModel) (row : RunRow) → Hold tables → RowHolds row → Hold (after_passed_ended row tables)
  passed-holds tables row holds mine =
      run-holds (record row { state = EndedRun; initiator = None; code = None; passed = []; lost = []; in_effect = None }) (record tables { sets = passed_ended (has_passed row) tables.sets }) mine
      (sets-hold tables (passed_ended (has_passed row) tables.sets) (sets.passed_ended-holds E none fewer (has_passed row) tables.sets holds.entries) holds)

  pub abnormal-holds : (row : RunRow) (place : Place) (tables : TablesModel) → Hold tables → RowHolds row → Hold (after_abnormal row place tables)
  abnormal-holds row (Before step) tables holds mine = passed-holds tables row holds mine
  abnormal-holds row (Opened step) tables holds mine = passed-holds tables row holds mine
  abnormal-holds row (Within step writes) tables holds mine =
      by tables (λ owned. let done = after_dispositions row owned step true tables in after_passed_ended (record row { passed = done.passed }) (record tables { sets = done.sets })) (step_of_run row step)
      (λ owned found.
      passed-holds (record tables { sets = (after_dispositions row owned step true tables).sets }) (record row { passed = (after_dispositions row owned step true tables).passed })
      (sets-hold tables (after_dispositions row owned step true tables).sets (disposed-hold tables row owned step true holds) holds) mine)
      holds

  pub ended-holds : (row : RunRow) (ending : Ending) (tables : TablesModel) → Hold tables → RowHolds row → Hold (after_ended row ending tables)
  ended-holds row Completed tables holds mine = passed-holds tables row holds mine
  ended-holds row (Coded code rule writes lengths) tables holds mine =
      by tables (λ owned. after_abnormal (record row { place = Some (Within (step_now row) writes) }) (Within (step_now row) writes) (after_commit row owned (step_now row) writes lengths.items tables)) (step_of_run row (step_now row))
      (λ owned found.
      abnormal-holds (record row { place = Some (Within (step_now row) writes) }) (Within (step_now row) writes) (after_commit row owned (step_now row) writes lengths.items tables)
      (commit-holds tables row owned (step_now row) writes lengths.items holds mine) mine)
      holds
  ended-holds row (Allocation dd cause first second) tables holds mine = abnormal-holds row (place_of row) tables holds mine
