-- A run as the jobs in memory have it, by its number, its line and what the tables keep of it.
use Rattle.std.proofs.Common.{◌≡◌, ◌==◌, ◌≤◌, ◌+◌, option_and_then, ℕ, zero, suc, Bool, true, false, cond, refl, ap, sym, ◌∙◌, subst, List, [], ◌∷◌, map, find, length, slice_get, Option, None, Some, IfSome, arith}
use Rattle.std.specs.List.{AllByRecursion}
use Rattle.std.specs.Option.{option_map, option_map_or}
use Rattle.std.proofs.lemmas.Option.{same_Some, slice_get_within}
use Rattle.ckr_base.proofs.Options.{some-not-none}
use Rattle.ckr_library.specs.Catalog.{Holding}
use Rattle.ckr_library.specs.NameMaps.{Name, Named, entry_at}
use Rattle.ckr_library.proofs.Named.{at-viewed}
use Rattle.ckr_meaning.specs.EffectiveJob.{Effective, OwnedStep, step_at}
use Rattle.ckr_desk_plans.specs.Model.Commit.{output_names}
use Rattle.ckr_points.specs.declared.run.Run.{Run}
use Rattle.ckr_points.specs.declared.run.RunState.TheVariants.{On}
use Rattle.ckr_points.specs.Payload.{lengths_kept, writes_in}
use Rattle.ckr_points.specs.Restart.{place_of, step_in}
use Rattle.ckr_points.specs.Rows.{RunRow, TableSet, TablesModel, run_of, step_of_run, holding_of}
use Rattle.ckr_points_tables.specs.Model.RunTable.{RunTable}
use Rattle.ckr_points_tables.specs.RunRows.{IsRunRow}
use Rattle.ckr_points_tables.specs.RunJobs.{IsFitting, effective}
use Rattle.ckr_points_tables.specs.View.{RunTableView, facts_in, facts_of, job_in, line_of, row_with, seen_by}
use Rattle.ckr_desk_turn.specs.Codes.{CodePlaceModel, kept_reached, reached_by, running_reached}
use Rattle.ckr_desk_turn.specs.Jobs.{TurnStep, as_stopped, running_in}
use Rattle.ckr_desk_turn.specs.Queue.{AreNumbered}
use Rattle.ckr_desk_turn.proofs.RunningSteps.{stopped-run, stopped-reached}
use Rattle.ckr_points_tables.specs.Checkpoint.{checkpoint_name}
use Rattle.ckr_desk_plans.specs.Entries.{row_of_line}
use Rattle.ckr_desk_memory.specs.EventChanges.{check_name, check_name_in}
use Rattle.ckr_desk_memory.specs.Plans.{row_for, IsKnown}
use Rattle.ckr_desk_memory.specs.View.{JobsView, RunningStepView, jobs_of, lengths_in, lengths_of_row, length_in, running_of}
use Rattle.ckr_base.specs.declared.code.Code.{Code}
use Rattle.ckr_desk_plans.specs.Model.Units.{due_of, taken_of}

-- ---- lists

pub find-map : {A B : Type 0} (f : A → B) (p : A → Bool) (q : B → Bool) → ((x : A) → q (f x) ≡ p x) → (xs : List A) → find q (map f xs) ≡ option_map f (find p xs)
find-map f p q same [] = refl
find-map {A = A} f p q same (x ∷ xs) =
    ap (λ b. cond b (Some (f x)) (find q (map f xs))) (same x)
    ∙ elim (p x) as (λ b. cond b (Some (f x)) (find q (map f xs)) ≡ option_map f (cond b (Some x) (find p xs))) [
      | true ↦ refl
      | false ↦ find-map f p q same xs
    ]

-- what is found is one of the items, and passes the test
pub record IsFoundIn {A : Type 0} (P : A → Type 0) (p : A → Bool) (x : A) : Type 0 where
  pub holds : P x
  pub passes : p x ≡ true

pub find-is : {A : Type 0} (P : A → Type 0) (p : A → Bool) (xs : List A) (x : A) → AllByRecursion P xs → find p xs ≡ Some x → IsFoundIn P p x
find-is P p [] x all found = absurd (some-not-none x (sym found))
find-is P p (first ∷ xs) x all found =
    elim (p first) as (λ b. p first ≡ b → cond b (Some first) (find p xs) ≡ Some x → IsFoundIn P p x) [
      | true ↦ λ e is. subst (IsFoundIn P p) (same_Some _ _ is) (record { holds = all.0; passes = e })
      | false ↦ λ e is. find-is P p xs x all.1 is
    ] refl found

-- ---- a run by its number

pub few-there : (tables : TablesModel) (job : ℕ) (row : RunRow) (most : ℕ) → length tables.runs ≤ most → run_of tables job ≡ Some row → job ≤ most
few-there tables zero row most few at = omega arith
few-there tables (suc place) row most few at = omega (arith, slice_get_within tables.runs place row at, few)

-- a run that is found among the runs stands at its number
pub found-run : (tables : TablesModel) (p : RunRow → Bool) (row : RunRow) → AreNumbered 1 tables.runs → find p tables.runs ≡ Some row → run_of tables row.number ≡ Some row
found-run tables p row numbered found =
    let at = place tables.runs 1 numbered found in
    let more : 1 + at.0 ≡ suc at.0 = omega arith in
    ap (run_of tables) (at.1 ∙ more) ∙ at.2
  where
    place : (rows : List RunRow) (from : ℕ) → AreNumbered from rows → find p rows ≡ Some row → (k : ℕ) × (row.number ≡ from + k) × (slice_get rows k ≡ Some row)
    place [] from numbered found = absurd (some-not-none row (sym found))
    place (first ∷ rows) from numbered found =
        elim (p first) as (λ b. cond b (Some first) (find p rows) ≡ Some row → (k : ℕ) × (row.number ≡ from + k) × (slice_get (first ∷ rows) k ≡ Some row)) [
          | true ↦ λ is. (0, ap (λ (r : RunRow). r.number) (sym (same_Some _ _ is)) ∙ numbered.0 ∙ omega arith, is)
          | false ↦ λ is. later (place rows (suc from) numbered.1 is)
        ] found
      where
        later : (k : ℕ) × (row.number ≡ suc from + k) × (slice_get rows k ≡ Some row) → (k : ℕ) × (row.number ≡ from + k) × (slice_get (first ∷ rows) k ≡ Some row)
        later at = (suc at.0, at.1 ∙ omega arith, at.2)

-- ---- a run that is known

abbrev line_for : ℕ → Run
line_for number = record { number = number; name = []; state = On; initiator = None }

-- a run by its number, its job and its facts
abbrev as_kept : RunRow → RunRow
as_kept row = record (row_with (line_for row.number) (facts_in row)) { job = row.job }

module _ (tables : TablesModel) (number : ℕ) (table : RunTable) (known : IsKnown tables number table) where
  -- what asks no more of a run's line says of it what the tables keep
  pub known-is : {A : Type 0} (F : RunRow → A) → F known.row ≡ F (as_kept known.row) → F known.row ≡ F (row_for number table)
  known-is F same =
      same
      ∙ ap (λ n. F (record (row_with (line_for n) (facts_in known.row)) { job = known.row.job })) known.numbered
      ∙ ap (λ (job : Effective). F (record (row_with (line_for number) (facts_in known.row)) { job = job })) known.job
      ∙ ap (λ (facts : RunTableView). F (record (row_with (line_for number) facts) { job = effective number table.job })) known.facts

  pub known-row : (row : RunRow) → run_of tables number ≡ Some row → known.row ≡ row
  known-row row at = same_Some _ _ (sym known.found ∙ at)

  pub known-by : {A : Type 0} (F : RunRow → A) → F known.row ≡ F (as_kept known.row) → (row : RunRow) → run_of tables number ≡ Some row → F row ≡ F (row_for number table)
  known-by F same row at = ap F (sym (known-row row at)) ∙ known-is F same

  -- the lengths of its running step
  pub lengths-known : (on : RunningStepView) → on.run ≡ number → option_map_or (lengths_of_row on.sets.sets) (run_of tables on.run) [] ≡ lengths_of_row on.sets.sets (row_for number table)
  lengths-known on is =
      ap (λ n. option_map_or (lengths_of_row on.sets.sets) (run_of tables n) []) is
      ∙ ap (λ (found : Option RunRow). option_map_or (lengths_of_row on.sets.sets) found []) known.found
      ∙ known-is (lengths_of_row on.sets.sets) refl

  -- the name of its data set for checkpoints
  pub check-known : check_name_in tables number ≡ option_and_then (checkpoint_name table.job.root) (step_at (effective number table.job) (step_in (place_of (row_for number table))))
  check-known = ap (option_and_then check_name) known.found ∙ known-is check_name refl

-- a run is told by its line and by what the tables keep of it
pub told-row : (tables : TablesModel) (run : ℕ) (table : RunTable) (known : IsKnown tables run table) (row : RunRow) → run_of tables run ≡ Some row → row ≡ row_with (line_of row) (facts_in row) → row ≡ row_of_line run (line_of row) table
told-row tables run table known row at told =
    let same = known-row tables run table known row at in
    told
    ∙ ap (λ n. row_with (record (line_of row) { number = n }) (facts_in row)) (ap (λ (r : RunRow). r.number) (sym same) ∙ known.numbered)
    ∙ ap (λ (facts : RunTableView). row_with (record (line_of row) { number = run }) facts) (ap facts_in (sym same) ∙ known.facts)

-- each run of the tables is within the limits
abbrev pub AreRunRows : TablesModel → Type 0
AreRunRows tables = (job : ℕ) (row : RunRow) → run_of tables job ≡ Some row → IsRunRow job row

-- a run that the tables keep is known
pub known-of : (tables : TablesModel) → AreRunRows tables → (job : ℕ) (table : RunTable) → option_map facts_of (Some table) ≡ option_map facts_in (run_of tables job) → IsKnown tables job table
known-of tables plain job table seen = by (run_of tables job) refl seen
  where
    by : (found : Option RunRow) → run_of tables job ≡ found → option_map facts_of (Some table) ≡ option_map facts_in found → IsKnown tables job table
    by None at seen = absurd (some-not-none _ seen)
    by (Some row) at seen =
        let its = plain job row at in
        let facts : facts_of table ≡ facts_in row = same_Some _ _ seen in
        let kept : table.job ≡ job_in row = ap (λ (f : RunTableView). f.job) facts in
        let same : row.job ≡ effective job table.job = ap (λ (r : RunRow). r.job) its.told ∙ ap (λ n. effective n (job_in row)) its.numbered ∙ ap (effective job) (sym kept) in
        record {
          row = row;
          found = at;
          numbered = its.numbered;
          facts = sym facts;
          job = same;
          few = its.few;
          fits = subst IsFitting same its.fits;
        }

-- one that they don't keep isn't there
pub unknown-of : (tables : TablesModel) (job : ℕ) → option_map facts_of None ≡ option_map facts_in (run_of tables job) → run_of tables job ≡ None
unknown-of tables job seen = by (run_of tables job) seen
  where
    by : (found : Option RunRow) → option_map facts_of None ≡ option_map facts_in found → found ≡ None
    by None seen = refl
    by (Some row) seen = absurd (some-not-none _ (sym seen))

pub known-some : (tables : TablesModel) → AreRunRows tables → (job : ℕ) (found : Option RunTable) → option_map facts_of found ≡ option_map facts_in (run_of tables job) → IfSome found (IsKnown tables job)
known-some tables plain job None seen = tt
known-some tables plain job (Some table) seen = known-of tables plain job table seen

-- ---- how far it has come

-- the lengths of the tables are those of their library
kept-names : (tables : Named TableSet) (names : List Name) → map (length_in (seen_by holding_of tables)) names ≡ map (λ name. option_map_or (λ (one : TableSet). one.set.length) (entry_at tables name) 0) names
kept-names tables [] = refl
kept-names tables (name ∷ names) = ap (λ n. n ∷ map (length_in (seen_by holding_of tables)) names) one ∙ ap (λ ns. option_map_or (λ (one : TableSet). one.set.length) (entry_at tables name) 0 ∷ ns) (kept-names tables names)
  where
    by : (found : Option TableSet) → option_map_or (λ (holding : Holding). holding.set.length) (option_map holding_of found) 0 ≡ option_map_or (λ (one : TableSet). one.set.length) found 0
    by None = refl
    by (Some table) = refl

    one : length_in (seen_by holding_of tables) name ≡ option_map_or (λ (one : TableSet). one.set.length) (entry_at tables name) 0
    one = ap (λ (found : Option Holding). option_map_or (λ (holding : Holding). holding.set.length) found 0) (at-viewed holding_of tables name) ∙ by (entry_at tables name)

pub kept-lengths : (tables : Named TableSet) (row : RunRow)
    → lengths_of_row (seen_by holding_of tables) row ≡ option_map_or (λ owned. lengths_kept row.job.root owned tables) (step_of_run row (step_in (place_of row))) []
kept-lengths tables row = by (step_of_run row (step_in (place_of row)))
  where
    by : (found : Option OwnedStep) → option_map_or (lengths_in (seen_by holding_of tables) row.job.root) found [] ≡ option_map_or (λ owned. lengths_kept row.job.root owned tables) found []
    by None = refl
    by (Some owned) = kept-names tables (output_names row.job.root owned)

-- the running step as a turn sees it, where its run waits with no code
abbrev pub working_of : TablesModel → RunningStepView → TurnStep
working_of tables on = record {
  run = on.run;
  taken = taken_of on.step.state;
  writes = on.step.writes;
  due = due_of on.step.parm on.step.state;
  lengths = option_map_or (lengths_of_row on.sets.sets) (run_of tables on.run) [];
  code = None;
}

pub working-is : (tables : TablesModel) (on : RunningStepView) → on.code ≡ None → running_of tables on ≡ working_of tables on
working-is tables on uncoded = ap (λ (code : Option Code). as_stopped code (working_of tables on)) uncoded

-- the running step as a turn sees it
pub running-found : (jobs : JobsView) (run : ℕ) (found : Option RunningStepView) → found ≡ find (λ (on : RunningStepView). on.run == run) jobs.running → running_in (jobs_of jobs) run ≡ option_map (running_of jobs.tables.desk) found
unfolding jobs_of
running-found jobs run found is =
    find-map (running_of jobs.tables.desk) (λ (on : RunningStepView). on.run == run) (λ (step : TurnStep). step.run == run) (λ on. ap (λ n. n == run) (stopped-run on.code (working_of jobs.tables.desk on))) jobs.running
    ∙ ap (option_map (running_of jobs.tables.desk)) (sym is)

module _ (jobs : JobsView) (run : ℕ) (table : RunTable) (known : IsKnown jobs.tables.desk run table) where
  pub reached-running : (on : RunningStepView) → on.run ≡ run → Some on ≡ find (λ (step : RunningStepView). step.run == run) jobs.running → (reached : CodePlaceModel)
      → reached.writes ≡ on.step.writes → reached.lengths ≡ lengths_of_row on.sets.sets (row_for run table) → reached ≡ reached_by (jobs_of jobs) (row_for run table)
  reached-running on is found reached writes lengths =
      ap (λ (n : ℕ). let one : CodePlaceModel = record { writes = n; lengths = reached.lengths } in one) writes
      ∙ ap (λ (ls : List ℕ). let one : CodePlaceModel = record { writes = on.step.writes; lengths = ls } in one) (lengths ∙ sym (lengths-known jobs.tables.desk run table known on is))
      ∙ sym (stopped-reached on.code (working_of jobs.tables.desk on))
      ∙ ap (λ (step : Option TurnStep). option_map_or running_reached step (kept_reached (jobs_of jobs) (row_for run table))) (sym (running-found jobs run (Some on) found))

  pub reached-kept : (sets : Named Holding) → sets ≡ seen_by holding_of jobs.tables.desk.sets → None ≡ find (λ (step : RunningStepView). step.run == run) jobs.running → (reached : CodePlaceModel)
      → reached.writes ≡ writes_in (place_of (row_for run table)) → reached.lengths ≡ lengths_of_row sets (row_for run table) → reached ≡ reached_by (jobs_of jobs) (row_for run table)
  unfolding jobs_of
  reached-kept sets seen found reached writes lengths =
      ap (λ (n : ℕ). let one : CodePlaceModel = record { writes = n; lengths = reached.lengths } in one) writes
      ∙ ap (λ (ls : List ℕ). let one : CodePlaceModel = record { writes = writes_in (place_of (row_for run table)); lengths = ls } in one)
      (lengths ∙ ap (λ all. lengths_of_row all (row_for run table)) seen ∙ kept-lengths jobs.tables.desk.sets (row_for run table))
      ∙ ap (λ (step : Option TurnStep). option_map_or running_reached step (kept_reached (jobs_of jobs) (row_for run table))) (sym (running-found jobs run None found))
