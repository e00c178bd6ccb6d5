-- More room for a run changes nothing of the tables.
use Rattle.std.proofs.Common.{◌≡◌, ℕ, zero, suc, ◌+◌, ◌<◌, ◌≤◌, Bool, true, IsSome, IsSomeAnd, IsTrue, List, [], ◌∷◌, length, map, slice_get, slice_set, refl, ap, sym, ◌∙◌, subst, arith, Option, None, Some}
use Rattle.std.specs.Option.{option_map}
use Rattle.std.proofs.lemmas.Option.{same_Some, slice_get-map, slice_get_within}
use Rattle.std.proofs.lemmas.Bool.{false≢true}
use Rattle.std.proofs.Math.ListN.{length-set}
use Rattle.ckr_base.proofs.Options.{some-not-none}
use Rattle.ckr_base.proofs.Sequences.{get-set-same, set-same}
use Rattle.ckr_entry.specs.declared.point.Mark.{Mark}
use Rattle.ckr_library.specs.Catalog.{Catalog, HasSet, Holding}
use Rattle.ckr_library.specs.NameMaps.{Name, Named, entry_at}
use Rattle.ckr_meaning.specs.EffectiveJob.{HasDistinctNames, OwnedStep, names_of_job, step_at}
use Rattle.ckr_points.specs.declared.run.Run.{Run}
use Rattle.ckr_base.specs.RoomyLists.{Roomy}
use Rattle.ckr_points_runs.specs.declared.run_table.RunTable.{RunTable}
use Rattle.ckr_points_runs.specs.declared.run_table.WrittenEntry.{WrittenEntry}
use Rattle.ckr_points_runs.specs.declared.spare.Spare.{Spare}
use Rattle.ckr_points_runs.specs.RunChange.{place_now}
use Rattle.ckr_points_runs.specs.StepEnd.{HasPassedRoom}
use Rattle.ckr_points_tables.specs.Invariant.{AreKept, AreRuns, HasEndRoom, HasEntryRoom, HasKeptRoom, HasRestartRoom, HasRoomUnder, HasStartRoom, IsRun, entries_at, room_at}
use Rattle.ckr_points.specs.Restart.{step_in}
use Rattle.ckr_points_tables.specs.Restart.{HasPassedFor, passed_for}
use Rattle.ckr_points_tables.specs.Rooms.{EndsFit, EntryFits, FitsPoint, HasNoLess, HasNoPlace, HasRoomFor, KeepsFit, StartsFit}
use Rattle.ckr_points_runs.specs.Checkpoint.{checkpoint_name}
use Rattle.ckr_points_runs.specs.Needs.{step_now}
use Rattle.ckr_points_tables.proofs.NamedViews.{at-viewed, viewed}
use Rattle.ckr_points.specs.Rows.{RunRow, TablesModel, run_of}
use Rattle.ckr_points.specs.Syschk.{names_its_set}
use Rattle.ckr_points_runs.specs.RunJobs.{IsFitting, effective}
use Rattle.ckr_points_runs.specs.RunJobs.{is_within_limits}
use Rattle.ckr_points_tables.specs.View.{RoomyTables, TablesRoom, RunRoom, Writings, kept_room, table_in, room_of, row_of, rows_of}
use Rattle.ckr_points_runs.specs.View.{RunTableView, facts_of, row_with}
use Rattle.ckr_points_tables.proofs.Restarts.Views.{passed-there}
use Rattle.ckr_points_tables.proofs.Runs.{rows-at, run-stays, runs-at, runs-set}

-- a run has a line
lined-at : (number : ℕ) (lines : List Run) (tables : List RunTable) → AreRuns number lines tables → (place : ℕ) (table : RunTable) → slice_get tables place ≡ Some table → (line : Run) × (slice_get lines place ≡ Some line)
lined-at number [] [] are place table here = absurd (some-not-none _ (sym here))
lined-at number [] (one ∷ tables) are place table here = absurd are
lined-at number (line ∷ lines) [] are place table here = absurd are
lined-at number (line ∷ lines) (one ∷ tables) are zero table here = (line, refl)
lined-at number (line ∷ lines) (one ∷ tables) are (suc place) table here = lined-at (suc number) lines tables are.1 place table here

rows-same : (lines : List Run) (tables : List RunTable) (place : ℕ) (old new : RunTable) → slice_get tables place ≡ Some old → facts_of new ≡ facts_of old → rows_of lines (slice_set tables place new) ≡ rows_of lines tables
rows-same lines [] place old new here same = absurd (some-not-none _ (sym here))
rows-same [] (one ∷ tables) zero old new here same = refl
rows-same [] (one ∷ tables) (suc place) old new here same = refl
rows-same (line ∷ lines) (one ∷ tables) zero old new here same =
    ap (λ facts. row_with line facts ∷ rows_of lines tables) (same ∙ ap facts_of (sym (same_Some one old here)))
rows-same (line ∷ lines) (one ∷ tables) (suc place) old new here same = ap (λ rest. row_of line one ∷ rest) (rows-same lines tables place old new here same)

module _ (lines : List Run) (tables : List RunTable) (are : AreRuns 1 lines tables) (place : ℕ) (old new : RunTable) (here : slice_get tables place ≡ Some old) where
  pub line_there : (line : Run) × (slice_get lines place ≡ Some line)
  line_there = lined-at 1 lines tables are place old here

  is : IsRun (1 + place) line_there.0 old
  is = runs-at 1 lines tables are place line_there.0 old line_there.1 here

  pub fits_there : (job : ℕ) → job ≡ suc place → IsFitting (effective job old.job)
  fits_there job at = subst (λ n. IsFitting (effective n old.job)) (omega (arith, at)) is.fits

  pub limits_there : IsTrue (is_within_limits old.job.deck)
  limits_there = is.limits

  pub syschk_there : names_its_set old.job.deck.syschk ≡ true
  syschk_there = is.syschk

  pub distinct_there : HasDistinctNames (effective (1 + place) old.job)
  distinct_there = is.distinct

  pub numbered_there : line_there.0.number ≡ 1 + place
  numbered_there = is.numbered

  pub found_there : slice_get (rows_of lines tables) place ≡ Some (row_of line_there.0 old)
  found_there = rows-at lines tables place line_there.0 old line_there.1 here

  module _ (same : facts_of new ≡ facts_of old) where
    pub rows_there : rows_of lines (slice_set tables place new) ≡ rows_of lines tables
    rows_there = rows-same lines tables place old new here same

    pub runs_there : AreRuns 1 lines (slice_set tables place new)
    runs_there =
        let job : new.job ≡ old.job = ap (λ (facts : RunTableView). facts.job) same in
        subst (λ all. AreRuns 1 all (slice_set tables place new)) (set-same lines place line_there.0 line_there.1)
        (runs-set 1 lines tables are place line_there.0 new (run-stays (1 + place) line_there.0 line_there.0 old new is refl refl job is.free))

    -- what is kept
    pub kept_there : (sets : Named Holding) (index : List ℕ) (marks : List Mark) (writings : List (Roomy WrittenEntry)) → AreKept sets lines tables index marks writings → AreKept sets lines (slice_set tables place new) index marks writings
    kept_there sets index marks writings kept = record {
      wide = kept.wide;
      filled = kept.filled;
      runs = runs_there;
      few = subst (λ n. n ≤ 9999999) (sym (length-set tables place new)) kept.few;
      indexed = kept.indexed;
      spare = kept.spare;
      written = kept.written ∙ sym (length-set tables place new);
    }

    row_there : (row : RunRow) → slice_get (rows_of lines (slice_set tables place new)) place ≡ Some row → row ≡ row_of line_there.0 new
    row_there row found = same_Some row (row_of line_there.0 new) (sym found ∙ rows-at lines (slice_set tables place new) place line_there.0 new line_there.1 (get-set-same tables place new old here))

    room_there : (one : RunRoom) → slice_get (map room_of (slice_set tables place new)) place ≡ Some one → one ≡ room_of new
    room_there one found = same_Some one (room_of new) (sym found ∙ slice_get-map room_of (slice_set tables place new) place ∙ ap (option_map room_of) (get-set-same tables place new old here))

    -- room for a start
    pub start_there : (room : TablesRoom) (library : Catalog) (spare : Spare) (job : ℕ) → job ≡ suc place → StartsFit job new library spare → room.sets ≡ library.room → room.sorted ≡ spare.sorted.room → room.marks ≡ spare.marks.room → room.passed ≡ spare.passed.room
        → (row : RunRow) (one : RunRoom) → slice_get (rows_of lines (slice_set tables place new)) place ≡ Some row → slice_get (map room_of (slice_set tables place new)) place ≡ Some one → HasStartRoom room row one
    start_there room library spare job at fits sets sorted marks passed row one row_found one_found =
        subst (λ r. HasStartRoom room r one) (sym (row_there row row_found)) (subst (HasStartRoom room (row_of line_there.0 new)) (sym (room_there one one_found))
        (let number : job ≡ line_there.0.number = omega (arith, at, is.numbered) in
        let point = subst (λ n. FitsPoint n new.job new.passed.items spare) number fits.room in
        record {
          sorted = subst (λ n. length (names_of_job (effective line_there.0.number new.job)) ≤ n) (sym sorted) point.sorted;
          marks = subst (λ n. length (names_of_job (effective line_there.0.number new.job)) ≤ n) (sym marks) point.marks;
          passed = subst (λ n. length new.passed.items ≤ n) (sym passed) point.passed;
          points = fits.points;
          sets = subst (λ n. 16 ≤ n) (sym sets) fits.sets;
        }))

    -- room for an end
    pub end_there : (job : ℕ) → job ≡ suc place → EndsFit job old new → (row : RunRow) (one : RunRoom) → slice_get (rows_of lines (slice_set tables place new)) place ≡ Some row → slice_get (map room_of (slice_set tables place new)) place ≡ Some one → HasEndRoom row one
    end_there job at fits row one row_found one_found =
        subst (λ r. HasEndRoom r one) (sym (row_there row row_found)) (subst (HasEndRoom (row_of line_there.0 new)) (sym (room_there one one_found))
        (record {
          passed = subst (λ (facts : RunTableView). HasPassedRoom new.passed.room (step_at (effective line_there.0.number facts.job) (step_in (place_now facts)))) (sym same) (subst (λ n. HasPassedRoom new.passed.room (step_at (effective n old.job) (step_now old))) (omega (arith, at, is.numbered)) fits.passed);
          codes = fits.codes;
        }))

    -- room for a restart
    pub restart_there : (checkpoint : Bool) (writings : Writings) (sets : Named Holding) → HasPassedFor new.passed.room (passed_for checkpoint writings sets (facts_of old))
        → (row : RunRow) (one : RunRoom) → slice_get (rows_of lines (slice_set tables place new)) place ≡ Some row → slice_get (map room_of (slice_set tables place new)) place ≡ Some one → HasRestartRoom checkpoint (viewed (table_in writings) sets) row one
    restart_there checkpoint writings sets fits row one row_found one_found =
        subst (λ r. HasRestartRoom checkpoint (viewed (table_in writings) sets) r one) (sym (row_there row row_found))
        (subst (HasRestartRoom checkpoint (viewed (table_in writings) sets) (row_of line_there.0 new)) (sym (room_there one one_found))
        (subst (HasPassedFor new.passed.room) (ap (passed_for checkpoint writings sets) (sym same) ∙ sym (passed-there writings line_there.0 (facts_of new) sets checkpoint)) fits))

  -- each run has no less room
  pub each_there : HasNoLess (room_of old) (room_of new) → (k : ℕ) (one two : RunRoom) → slice_get (map room_of tables) k ≡ Some one → slice_get (map room_of (slice_set tables place new)) k ≡ Some two → HasNoLess one two
  each_there more k one two first second = each tables place k here first second
    where
      as_much : (room other : RunRoom) → room ≡ other → HasNoLess room other
      as_much room other same = subst (HasNoLess room) same (record { points = omega arith; codes = omega arith; passed = omega arith })

      each : (all : List RunTable) (place k : ℕ) → slice_get all place ≡ Some old → slice_get (map room_of all) k ≡ Some one → slice_get (map room_of (slice_set all place new)) k ≡ Some two → HasNoLess one two
      each [] place k here first second = absurd (some-not-none _ (sym here))
      each (table ∷ all) zero zero here first second =
          subst (λ r. HasNoLess r two) (ap room_of (sym (same_Some table old here)) ∙ same_Some (room_of table) one first) (subst (HasNoLess (room_of old)) (same_Some (room_of new) two second) more)
      each (table ∷ all) zero (suc k) here first second = as_much one two (same_Some one two (sym first ∙ second))
      each (table ∷ all) (suc place) zero here first second = as_much one two (same_Some one two (sym first ∙ second))
      each (table ∷ all) (suc place) (suc k) here first second = each all place k here first second

  -- by the number of a run
  pub each_by : HasNoLess (room_of old) (room_of new) → (before after : TablesRoom) → before.each ≡ map room_of tables → after.each ≡ map room_of (slice_set tables place new) → (job : ℕ) (one two : RunRoom) → room_at before job ≡ Some one → room_at after job ≡ Some two → HasNoLess one two
  each_by more before after is_before is_after zero one two first second = absurd (some-not-none _ (sym first))
  each_by more before after is_before is_after (suc k) one two first second =
      each_there more k one two (ap (λ all. slice_get all k) (sym is_before) ∙ first) (ap (λ all. slice_get all k) (sym is_after) ∙ second)

pub no-less : {one two : ℕ} → one ≡ two → one ≤ two
no-less same = omega (arith, same)

pub entries-stay : (before after : TablesRoom) → before.entries ≡ after.entries → (job one two : ℕ) → entries_at before job ≡ Some one → entries_at after job ≡ Some two → one ≤ two
entries-stay before after same zero one two first second = absurd (some-not-none _ (sym first))
entries-stay before after same (suc place) one two first second = no-less (same_Some one two (sym first ∙ ap (λ rooms. slice_get rooms place) same ∙ second))

as-much : (one two : RunRoom) → one ≡ two → HasNoLess one two
as-much one two same = subst (HasNoLess one) same (record { points = omega arith; codes = omega arith; passed = omega arith })

pub each-stays : (before after : TablesRoom) → before.each ≡ after.each → (job : ℕ) (one two : RunRoom) → room_at before job ≡ Some one → room_at after job ≡ Some two → HasNoLess one two
each-stays before after same zero one two first second = absurd (some-not-none _ (sym first))
each-stays before after same (suc place) one two first second = as-much one two (same_Some one two (sym first ∙ ap (λ rooms. slice_get rooms place) same ∙ second))

-- no run is beyond the last one
pub none_beyond : (tables : TablesModel) (job : ℕ) (row : RunRow) → HasNoPlace job (length tables.runs) → run_of tables job ≡ Some row → ⊥
none_beyond tables zero row none found = some-not-none _ (sym found)
none_beyond tables (suc place) row none found = omega (arith, slice_get_within tables.runs place row found, none)

-- each run has no less room for entries
entries-grow : (all : List (Roomy WrittenEntry)) (place k one two : ℕ) (old new : Roomy WrittenEntry) → slice_get all place ≡ Some old → old.room ≤ new.room
    → slice_get (map (λ (written : Roomy WrittenEntry). written.room) all) k ≡ Some one → slice_get (map (λ (written : Roomy WrittenEntry). written.room) (slice_set all place new)) k ≡ Some two → one ≤ two
entries-grow [] place k one two old new here more first second = absurd (some-not-none _ (sym here))
entries-grow (written ∷ all) zero zero one two old new here more first second =
    omega (arith, more, ap (λ (w : Roomy WrittenEntry). w.room) (same_Some written old here), same_Some written.room one first, same_Some new.room two second)
entries-grow (written ∷ all) zero (suc k) one two old new here more first second = no-less (same_Some one two (sym first ∙ second))
entries-grow (written ∷ all) (suc place) zero one two old new here more first second = no-less (same_Some one two (sym first ∙ second))
entries-grow (written ∷ all) (suc place) (suc k) one two old new here more first second = entries-grow all place k one two old new here more first second

pub entries_by : (all : List (Roomy WrittenEntry)) (place : ℕ) (old new : Roomy WrittenEntry) → slice_get all place ≡ Some old → old.room ≤ new.room → (before after : TablesRoom)
    → before.entries ≡ map (λ (written : Roomy WrittenEntry). written.room) all → after.entries ≡ map (λ (written : Roomy WrittenEntry). written.room) (slice_set all place new)
    → (job one two : ℕ) → entries_at before job ≡ Some one → entries_at after job ≡ Some two → one ≤ two
entries_by all place old new here more before after is_before is_after zero one two first second = absurd (some-not-none _ (sym first))
entries_by all place old new here more before after is_before is_after (suc k) one two first second =
    entries-grow all place k one two old new here more (ap (λ rooms. slice_get rooms k) (sym is_before) ∙ first) (ap (λ rooms. slice_get rooms k) (sym is_after) ∙ second)

-- what the tables have is in the library
pub has-seen : (writings : Writings) (library : Catalog) (name : Name) → IsSome (entry_at (viewed (table_in writings) library.sets) name) → HasSet library name (λ _. Unit {0})
has-seen writings library name there = by (entry_at library.sets name) (subst IsSome (at-viewed (table_in writings) library.sets name) there)
  where
    by : (found : Option Holding) → IsSome (option_map (table_in writings name) found) → IsSomeAnd (option_map (λ (h : Holding). h.set) found) (λ _. Unit {0})
    by None e = absurd (false≢true e)
    by (Some holding) e = tt

-- room for a checkpoint
pub checkpoint_there : (line : Run) (table : RunTable) (now : RoomyTables) (library : Catalog) (spare : Spare) (written : Roomy WrittenEntry) → EntryFits line.number table written library spare
    → now.room.sorted ≡ spare.sorted.room → now.room.marks ≡ spare.marks.room → now.room.passed ≡ spare.passed.room → now.room.kept ≡ library.entry_rooms
    → ((name : Name) → IsSome (entry_at now.desk.sets name) → HasSet library name (λ _. Unit {0})) → ((more : ℕ) → entries_at now.room line.number ≡ Some more → 0 < more)
    → HasEntryRoom now (row_of line table)
checkpoint_there line table now library spare written fits sorted marks passed kept has entries = record {
  sorted = subst (λ n. length (names_of_job (effective line.number table.job)) ≤ n) (sym sorted) fits.point.sorted;
  marks = subst (λ n. length (names_of_job (effective line.number table.job)) ≤ n) (sym marks) fits.point.marks;
  passed = subst (λ n. length table.passed.items ≤ n) (sym passed) fits.point.passed;
  entries = entries;
  few = fits.few;
  kept = by (step_at (effective line.number table.job) (step_now table)) fits.kept;
}
  where
    under : (found : Option Name) → HasRoomFor library found → HasRoomUnder now found
    under None fit = tt
    under (Some name) fit = λ there. subst (λ rooms. 0 < kept_room rooms name) (sym kept) (fit (has name there))

    by : (found : Option OwnedStep) → KeepsFit library table.job.root found → HasKeptRoom now table.job.root found
    by None fit = tt
    by (Some own) fit = under (checkpoint_name table.job.root own) fit
