-- The jobs of the runs, and what holds of each data set, stay through what a run does to the tables.
use Rattle.std.proofs.Common.{◌≡◌, ℕ, zero, suc, Bool, true, false, List, [], ◌∷◌, ◌++◌, map, refl, ap, sym, ◌∙◌, Option, Some, None}
use Rattle.std.specs.Prelude.{slice_set}
use Rattle.std.specs.Option.{option_map, option_map_or}
use Rattle.std.proofs.lemmas.Option.{slice_get-map}
use Rattle.ckr_base.proofs.Options.{some-not-none}
use Rattle.ckr_base.proofs.Sequences.{set-same}
use Rattle.ckr_events.specs.declared.event.Ending.{Ending}
use Rattle.ckr_events.specs.declared.event.Ending.TheVariants.{Allocation, Coded, Completed}
use Rattle.ckr_library.specs.NameMaps.{Named}
use Rattle.ckr_meaning.specs.Dispositions.{Stock, passed_ended}
use Rattle.ckr_meaning.specs.EffectiveJob.{Effective, OwnedStep}
use Rattle.ckr_meaning.specs.declared.place.Place.{Place}
use Rattle.ckr_meaning.specs.declared.place.Place.TheVariants.{Before, Opened, Within}
use Rattle.ckr_points_library.specs.Commit.{output_names}
use Rattle.ckr_points.specs.declared.run.RunState.TheVariants.{Ended as EndedRun}
use Rattle.ckr_points.specs.Marks.{point_at, put_back, removed_all, with_point, has_passed}
use Rattle.ckr_points.specs.Restart.{Back, after_abnormal, after_ended, after_passed_ended, after_put_back, after_restarted, back_to_entry, back_to_start, by_step, effect_restarted, kept_at, place_of, point_restarted, row_on}
use Rattle.ckr_points.specs.Rows.{RunRow, TableSet, TablesModel, run_of, standing_of, step_of_run, with_row, with_run}
use Rattle.ckr_points.specs.Tables.{after_commit, after_dispositions, after_step_ended, committed, earlier_made, own_made, run_disposals}
use Rattle.ckr_points_invariant.specs.Invariant.{step_now}
use Rattle.ckr_desk_refines.specs.Entries.{UnderEachName, job_at, jobs_of}
use Rattle.ckr_desk_refines.proofs.Entries.Sets as sets

map-set : {A B : Type 0} (f : A → B) (items : List A) (place : ℕ) (item : A) → map f (slice_set items place item) ≡ slice_set (map f items) place (f item)
map-set f [] place item = refl
map-set f (first ∷ items) zero item = refl
map-set f (first ∷ items) (suc place) item = ap (λ rest. f first ∷ rest) (map-set f items place item)

-- a run's row has its job
pub job-of : (tables : TablesModel) (number : ℕ) (row : RunRow) → run_of tables number ≡ Some row → job_at (jobs_of tables) number ≡ Some row.job
job-of tables zero row e = absurd (some-not-none row (sym e))
job-of tables (suc before) row e = slice_get-map (λ (row : RunRow). row.job) tables.runs before ∙ ap (option_map (λ (row : RunRow). row.job)) e

module _ (jobs : List Effective) (E : TableSet → Type 0) (stays : sets.Stays E) where
  -- the tables have these jobs, and it holds of each of their data sets
  pub record Hold (tables : TablesModel) : Type 0 where
    pub jobs_are : jobs_of tables ≡ jobs
    pub each : UnderEachName E tables.sets

  -- a row has the job of its number
  abbrev pub Fits : RunRow → Type 0
  Fits row = job_at jobs row.number ≡ Some row.job

  with_row-jobs : (row : RunRow) (number : ℕ) (runs : List RunRow) → job_at (map (λ row. row.job) runs) number ≡ Some row.job → map (λ row. row.job) (with_row row number runs) ≡ map (λ row. row.job) runs
  with_row-jobs row zero runs fits = refl
  with_row-jobs row (suc before) runs fits = map-set (λ (row : RunRow). row.job) runs before row ∙ set-same (map (λ row. row.job) runs) before row.job fits

  pub run-holds : (row : RunRow) (tables : TablesModel) → Fits row → Hold tables → Hold (with_run row tables)
  run-holds row tables fits holds = record {
    jobs_are = with_row-jobs row row.number tables.runs (ap (λ jobs. job_at jobs row.number) holds.jobs_are ∙ fits) ∙ holds.jobs_are;
    each = holds.each;
  }

  pub sets-hold : (tables : TablesModel) (all : Named TableSet) → UnderEachName E all → Hold tables → Hold (record tables { sets = all })
  sets-hold tables all each holds = record { jobs_are = holds.jobs_are; each = each }

  -- ---- what a run does

  pub by : {A : Type 0} (tables : TablesModel) (change : A → TablesModel) (given : Option A) → ((its : A) → given ≡ Some its → Hold (change its)) → Hold tables → Hold (option_map_or change given tables)
  by tables change None each holds = holds
  by tables change (Some its) each holds = each its refl

  module _ (tables : TablesModel) (numbered : (number : ℕ) (row : RunRow) → run_of tables number ≡ Some row → row.number ≡ number) (holds : Hold tables) where
    pub row-fits : (job : ℕ) (row : RunRow) → run_of tables job ≡ Some row → Fits row
    row-fits job row e = ap (job_at jobs) (numbered job row e) ∙ ap (λ jobs. job_at jobs job) (sym holds.jobs_are) ∙ job-of tables job row e

    pub by-row : (job : ℕ) (change : RunRow → TablesModel) → ((row : RunRow) → run_of tables job ≡ Some row → Fits row → Hold (change row)) → Hold (option_map_or change (run_of tables job) tables)
    by-row job change each = by tables change (run_of tables job) (λ row e. each row e (row-fits job row e)) holds

    pub by-step : (job : ℕ) (change : RunRow → OwnedStep → ℕ → TablesModel) → ((row : RunRow) (owned : OwnedStep) → run_of tables job ≡ Some row → step_of_run row (step_now row) ≡ Some owned → Fits row → Hold (change row owned (step_now row))) → Hold (option_map_or (λ row. by_step (λ owned step. change row owned step) row tables) (run_of tables job) tables)
    by-step job change each =
        by-row job (λ row. by_step (λ owned step. change row owned step) row tables)
        (λ row e mine. by tables (λ owned. change row owned (step_now row)) (step_of_run row (step_now row)) (λ owned found. each row owned e found mine) holds)

  pub commit-holds : (tables : TablesModel) (row : RunRow) (owned : OwnedStep) (step writes : ℕ) (lengths : List ℕ) → Hold tables → Fits row → Hold (after_commit row owned step writes lengths tables)
  commit-holds tables row owned step writes lengths holds mine =
      run-holds (record row { place = Some (Within step writes) }) (record tables { sets = committed (output_names row.job.root owned) lengths tables.sets }) mine
      (sets-hold tables (committed (output_names row.job.root owned) lengths tables.sets) (sets.committed-stays E stays (output_names row.job.root owned) lengths tables.sets holds.each) holds)

  disposed-hold : (tables : TablesModel) (row : RunRow) (owned : OwnedStep) (step : ℕ) (abnormal : Bool) → Hold tables → UnderEachName E (after_dispositions row owned step abnormal tables).sets
  disposed-hold tables row owned step abnormal holds =
      sets.disposed_all-stays E stays (run_disposals row owned (own_made row owned step) (earlier_made tables row step) abnormal) (standing_of row tables) holds.each

  pub step_ended-holds : (tables : TablesModel) (row : RunRow) (owned : OwnedStep) (step rc writes : ℕ) (lengths : List ℕ) → Hold tables → Fits row → Hold (after_step_ended row owned step rc writes lengths tables)
  step_ended-holds tables row owned step rc writes lengths holds mine =
      let done : TablesModel = after_commit row owned step writes lengths tables in
      let so : Hold done = commit-holds tables row owned step writes lengths holds mine in
      let standing : Stock TableSet = after_dispositions row owned step false done in
      run-holds (record row { place = Some (Before (suc step)); rcs = row.rcs ++ (step, rc) ∷ []; in_effect = None; passed = standing.passed }) (record done { sets = standing.sets }) mine
      (sets-hold done standing.sets (disposed-hold done row owned step false so) so)

  passed-holds : (tables : TablesModel) (row : RunRow) → Hold tables → Fits row → Hold (after_passed_ended row tables)
  passed-holds tables row holds mine =
      run-holds (record row { state = EndedRun; initiator = None; code = None; passed = []; lost = []; in_effect = None }) (record tables { sets = passed_ended (has_passed row) tables.sets }) mine
      (sets-hold tables (passed_ended (has_passed row) tables.sets) (sets.passed_ended-stays E stays (has_passed row) tables.sets holds.each) holds)

  abnormal-holds : (row : RunRow) (place : Place) (tables : TablesModel) → Hold tables → Fits row → Hold (after_abnormal row place tables)
  abnormal-holds row (Before step) tables holds mine = passed-holds tables row holds mine
  abnormal-holds row (Opened step) tables holds mine = passed-holds tables row holds mine
  abnormal-holds row (Within step writes) tables holds mine =
      by tables (λ owned. let done = after_dispositions row owned step true tables in after_passed_ended (record row { passed = done.passed }) (record tables { sets = done.sets })) (step_of_run row step)
      (λ owned found.
      passed-holds (record tables { sets = (after_dispositions row owned step true tables).sets }) (record row { passed = (after_dispositions row owned step true tables).passed })
      (sets-hold tables (after_dispositions row owned step true tables).sets (disposed-hold tables row owned step true holds) holds) mine)
      holds

  pub ended-holds : (row : RunRow) (ending : Ending) (tables : TablesModel) → Hold tables → Fits row → Hold (after_ended row ending tables)
  ended-holds row Completed tables holds mine = passed-holds tables row holds mine
  ended-holds row (Coded code rule writes lengths) tables holds mine =
      by tables (λ owned. after_abnormal (record row { place = Some (Within (step_now row) writes) }) (Within (step_now row) writes) (after_commit row owned (step_now row) writes lengths.items tables)) (step_of_run row (step_now row))
      (λ owned found.
      abnormal-holds (record row { place = Some (Within (step_now row) writes) }) (Within (step_now row) writes) (after_commit row owned (step_now row) writes lengths.items tables)
      (commit-holds tables row owned (step_now row) writes lengths.items holds mine) mine)
      holds
  ended-holds row (Allocation dd cause first second) tables holds mine = abnormal-holds row (place_of row) tables holds mine

  -- ---- a run goes back

  put_back-holds : (tables : TablesModel) (row : RunRow) (owned : OwnedStep) (back : Back) → Hold tables → Fits row → Hold (after_put_back row owned back tables)
  put_back-holds tables row owned back holds mine =
      let left : Named TableSet = removed_all back.removed tables.sets in
      let there : Named TableSet = put_back back.marks (output_names row.job.root owned) back.needed left in
      run-holds (record row { place = Some back.place; count = back.count; passed = back.passed }) (record tables { sets = there }) mine
      (sets-hold tables there
      (sets.put_back-stays E stays back.marks (output_names row.job.root owned) back.needed left (sets.removed_all-stays E stays back.removed tables.sets holds.each)) holds)

  pub restarted-holds : (tables : TablesModel) (row : RunRow) (owned : OwnedStep) (step initiator : ℕ) (checkpoint : Bool) → Hold tables → Fits row → Hold (after_restarted row owned step initiator checkpoint tables)
  restarted-holds tables row owned step initiator false holds mine =
      by tables
      (λ point. after_put_back (record (row_on initiator row) { points = with_point (point_restarted point) row.points; in_effect = None }) owned (back_to_start row owned step point) tables)
      (point_at row.points step)
      (λ point got.
      put_back-holds tables (record (row_on initiator row) { points = with_point (point_restarted point) row.points; in_effect = None }) owned (back_to_start row owned step point) holds mine)
      holds
  restarted-holds tables row owned step initiator true holds mine =
      by tables
      (λ effect.
      option_map_or (λ entry. after_put_back (record (row_on initiator row) { in_effect = Some (effect_restarted effect) }) owned (back_to_entry row owned step entry.point) tables)
      (kept_at tables.sets effect.set effect.kept.id) tables)
      row.in_effect
      (λ effect got.
      by tables (λ entry. after_put_back (record (row_on initiator row) { in_effect = Some (effect_restarted effect) }) owned (back_to_entry row owned step entry.point) tables)
      (kept_at tables.sets effect.set effect.kept.id)
      (λ entry there. put_back-holds tables (record (row_on initiator row) { in_effect = Some (effect_restarted effect) }) owned (back_to_entry row owned step entry.point) holds mine)
      holds)
      holds
