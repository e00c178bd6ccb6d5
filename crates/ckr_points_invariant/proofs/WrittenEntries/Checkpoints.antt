-- A checkpoint that is taken is written so, and its data set has grown.
use Rattle.std.proofs.Common.{◌≡◌, ◌≤◌, ℕ, ◌+◌, Bool, true, false, cond, not, ◌&&◌, List, [], ◌∷◌, length, refl, ap, sym, ◌∙◌, subst, Option, Some, None, arith}
use Rattle.std.specs.Prelude.{◌==◌, nat_le}
use Rattle.std.specs.List.{list_all}
use Rattle.std.specs.Option.{is_none, is_some, option_map, option_map_or}
use Rattle.std.proofs.lemmas.Bool.{and_from, false≢true, or_left, or_right}
use Rattle.std.proofs.lemmas.List.Folds.{list_all-append}
use Rattle.std.proofs.lemmas.Nat.{le-div}
use Rattle.std.proofs.lemmas.Option.{same_Some}
use Rattle.ckr_base.proofs.Bools.{and-first, and-second, bool-cases}
use Rattle.ckr_base.proofs.Numbers.{equal-true, nat_le-beyond, nat_le-from, nat_le-true}
use Rattle.ckr_base.proofs.Options.{is_some-true, option-cases, option_map-some, some-one}
use Rattle.ckr_base.proofs.Sequences.{each-append}
use Rattle.ckr_entry.specs.declared.point.Present.{Present}
use Rattle.ckr_library.specs.Catalog.{ends_within, records_of}
use Rattle.ckr_library.specs.declared.sets.Kept.{Kept}
use Rattle.ckr_library.specs.NameMaps.{Name, Named, entry_at, same_name}
use Rattle.ckr_library.proofs.Named.{at-with_changed, at-with_changed-other, name-itself, name-same}
use Rattle.ckr_meaning.specs.EffectiveJob.{Effective, OwnedStep, is_among, names_of, step_at}
use Rattle.ckr_meaning.specs.LibrarySet.{LibrarySet}
use Rattle.ckr_meaning.specs.StepRun.{StepStart, opened_at, work_at}
use Rattle.ckr_meaning.specs.declared.place.Place.{Place}
use Rattle.ckr_meaning.specs.declared.place.Place.TheVariants.{Before, Opened, Within}
use Rattle.ckr_volumes.specs.declared.layout.Layout.{Layout}
use Rattle.ckr_points_library.specs.Commit.{output_names}
use Rattle.ckr_points.specs.Follows.{are_lengths, is_checkpoint, is_length_of, is_within, own_step}
use Rattle.ckr_points.specs.Marks.{is_marked_absent, made_names, point_at, present_at}
use Rattle.ckr_points.specs.Office.{Leg, Office, leg_of}
use Rattle.ckr_points.specs.Payload.{carries_lengths, carries_taken, commits, rewrites_nothing, writes_in}
use Rattle.ckr_points.specs.Restart.{kept_at, place_of}
use Rattle.ckr_points.specs.Rows.{EffectPoint, KeptEntry, RunRow, StartPoint, TableSet, run_of}
use Rattle.ckr_points.specs.Tables.{committed, fresh_effect, with_kept_entry}
use Rattle.ckr_points_invariant.specs.Invariant.{IsAgreed, IsAtPlace, IsUnderWay, step_now, IsMarkOf}
use Rattle.ckr_points_invariant.specs.Readiness.{IsReady, KeepsEntry}
use Rattle.ckr_points_invariant.specs.WrittenEntries.{HasGrown, HasWrittenEntries, IsBehindPoint, IsEntryOf, IsWrittenEntry, check_set, is_behind_mark, is_no_shorter}
use Rattle.ckr_points_invariant.proofs.Holders.Places.{outputs-among}
use Rattle.ckr_points_invariant.proofs.Marks.Points.{among-filter}
use Rattle.ckr_points_invariant.proofs.Readiness.Checkpoints as checks
use Rattle.ckr_points_invariant.proofs.Readiness.Runs.{kept-entry}
use Rattle.ckr_points_invariant.proofs.Start.Openings.{opened-none}
use Rattle.ckr_points_invariant.proofs.Steps.Commits.{found_leg, place_so, under_way}
use Rattle.ckr_points_invariant.proofs.Steps.Walks.{at-opened, start_at-of}
use Rattle.ckr_points_invariant.proofs.WrittenEntries.Growth.{long-changed, long-committed}
use Rattle.ckr_points_invariant.proofs.WrittenEntries.Offices.{IsGrown}
use Rattle.ckr_points_invariant.proofs.WrittenEntries.Sets.{EachHas}
use Rattle.ckr_points_invariant.specs.Restorability.{HasPoint}
use Rattle.ckr_points_invariant.specs.RunningSteps.{IsRunning, its_start}

-- an entry of some bytes takes room
pub takes-room : (bytes : ℕ) → 1 ≤ bytes → 1 ≤ records_of bytes
takes-room bytes some = le-div 1 (bytes + 255) 256 (omega arith) (omega (arith, some))

module _ (layout : Layout) (now : Office) (job : ℕ) (row : RunRow) (leg : Leg) (owned : OwnedStep) (writes taken place bytes : ℕ) (id : Name) (lengths : List ℕ) (kept : IsAgreed layout now) (some : 1 ≤ bytes)
    (running : IsRunning now job row leg owned (step_now row) (writes_in (place_of row)))
    (carried : commits now.tables.sets row writes lengths (its_start leg owned (step_now row)) ≡ true)
    (told : carries_taken taken writes (its_start leg owned (step_now row)) ≡ true)
    (are : are_lengths now.tables.sets (output_names row.job.root owned) lengths ≡ true)
    (check : is_checkpoint now.tables id lengths place bytes row owned ≡ true)
    (pointed : (point : StartPoint) → point_at row.points (step_now row) ≡ Some point → HasPoint leg (Opened (step_now row)) point.marks point.passed)
    (ready : IsReady now.tables.sets row leg)
    (grown : IsGrown now.tables.sets row) where
  abbrev step : ℕ
  step = step_now row

  abbrev set : Name
  set = check_set row owned

  abbrev outputs : List Name
  outputs = output_names row.job.root owned

  abbrev kept_now : Kept
  kept_now = record { id = id; run = job; place = place; bytes = bytes }

  abbrev start : StepStart
  start = its_start leg owned step

  abbrev new_entry : KeptEntry
  new_entry = checks.entry layout now job row leg owned writes taken place bytes id lengths kept running carried told are check ready

  abbrev sets_then : Named TableSet
  sets_then = checks.checked_sets layout now job row leg owned writes taken place bytes id lengths kept running carried told are check ready

  abbrev row_then : RunRow
  row_then = checks.checked_row layout now job row leg owned writes taken place bytes id lengths kept running carried told are check ready

  abbrev done_sets : Named TableSet
  done_sets = committed outputs lengths now.tables.sets

  within : is_within (place_of row) ≡ true
  within = ap is_within running.stands

  its_place : IsAtPlace now.tables row leg
  its_place = place_so layout now job row leg owned step (writes_in (place_of row)) kept running

  leg_step : step_at leg.job step ≡ Some owned
  leg_step = found_leg layout now job row leg owned step (writes_in (place_of row)) kept running

  listed : is_among outputs set ≡ true
  listed = checks.listed_set layout now job row leg owned writes taken place bytes id lengths kept running carried told are check ready

  back : (present : Present) → present_at new_entry.point.marks set ≡ Some present → ends_within present.length kept_now ≡ true
  back = checks.back_so layout now job row leg owned writes taken place bytes id lengths kept running carried told are check ready

  keeps_new : KeepsEntry sets_then set id new_entry
  keeps_new = checks.keeps_entry layout now job row leg owned writes taken place bytes id lengths kept running carried told are check ready

  among_names : is_among (names_of row.job.root owned) set ≡ true
  among_names = outputs-among row.job.root owned set listed

  same_names : is_among (names_of leg.job.root owned) set ≡ true
  same_names = ap (λ (effective : Effective). is_among (names_of effective.root owned) set) its_place.job ∙ among_names

  -- the data set ends where the entry stands
  table_now : (table : TableSet) × (entry_at now.tables.sets set ≡ Some table) × (table.set.length ≡ place)
  table_now =
      option-cases (entry_at now.tables.sets set)
      (λ none. absurd (false≢true (sym (ap test none) ∙ tested)))
      (λ table e. (table, e, sym (equal-true place table.set.length (and-first (place == table.set.length) _ (sym (ap test e) ∙ tested)))))
    where
      test : Option TableSet → Bool
      test entry = option_map_or (λ (table : TableSet). place == table.set.length && is_none (kept_at now.tables.sets set id)) entry false

      tested : test (entry_at now.tables.sets set) ≡ true
      tested = and-first (test (entry_at now.tables.sets set)) (is_length_of set (place + records_of bytes) outputs lengths) check

  -- ---- by the point of the step

  module _ (point : StartPoint) (got : point_at row.points step ≡ Some point) where
    long_so : (present : Present) → present_at point.marks set ≡ Some present → present.length ≤ place
    long_so present marked =
        subst (λ n. present.length ≤ n) table_now.2 ((grown within owned point running.found got).since present table_now.0 listed marked table_now.1)

    -- what isn't marked present is marked absent
    absent_so : present_at point.marks set ≡ None → is_marked_absent point.marks set ≡ true
    absent_so none =
        and-first (is_marked_absent point.marks set) (is_among (names_of row.job.root owned) set)
        (sym (among-filter (is_marked_absent point.marks) (names_of row.job.root owned) set)
        ∙ sym (ap (λ (o : Option StartPoint). is_among (option_map_or (λ (point : StartPoint). made_names point.marks (names_of row.job.root owned)) o []) set) got)
        ∙ way.made set same_names
        ∙ sym (opened-none start set)
        ∙ ap is_none (gone (entry_at (opened_at start) set) (subst (λ o. IsMarkOf o (entry_at (opened_at start) set)) none marked)))
      where
        way : IsUnderWay row start (writes_in (place_of row))
        way = under_way layout now job row leg owned step (writes_in (place_of row)) kept running

        marked : IsMarkOf (present_at point.marks set) (entry_at (opened_at start) set)
        marked = subst (λ library. IsMarkOf (present_at point.marks set) (entry_at library set)) (at-opened leg.job leg.start step owned leg_step) ((pointed point got).marked owned set leg_step same_names)

        gone : (entry : Option LibrarySet) → IsMarkOf None entry → entry ≡ None
        gone None is = refl
        gone (Some there) is = absurd is

    behind_so : is_behind_mark point.marks set kept_now ≡ true
    behind_so =
        option-cases (present_at point.marks set)
        (λ none. or_left (is_marked_absent point.marks set) _ (absent_so none))
        (λ present marked.
        or_right (is_marked_absent point.marks set) _
        (ap (λ (o : Option Present). option_map_or (λ (present : Present). not (ends_within present.length kept_now)) o false) marked
        ∙ ap not (nat_le-beyond (place + records_of bytes) present.length (let long : present.length ≤ place = long_so present marked in let room : 1 ≤ records_of bytes = takes-room bytes some in omega (arith, long, room)))))

    point_so : IsBehindPoint row leg owned set new_entry point
    point_so = record {
      behind = behind_so;
      unwritten = λ none. (checks.step_since layout now job row leg owned writes taken place bytes id lengths kept running carried told are check ready point got none).unwritten start (start_at-of leg.job leg.start step owned leg_step);
      entered = λ holds. (omega arith, λ e. within);
    }

    -- the entry marks the data set no shorter
    longer_so : is_no_shorter point.marks new_entry.point.marks set ≡ true
    longer_so =
        option-cases (present_at point.marks set)
        (λ none. ap (λ (o : Option Present). option_map_or (λ (present : Present). option_map_or (λ (other : Present). nat_le present.length other.length) (present_at new_entry.point.marks set) true) o true) none)
        (λ present marked.
        ap (λ (o : Option Present). option_map_or (λ (present : Present). option_map_or (λ (other : Present). nat_le present.length other.length) (present_at new_entry.point.marks set) true) o true) marked
        ∙ option-cases (present_at new_entry.point.marks set)
        (λ none. ap (λ (o : Option Present). option_map_or (λ (other : Present). nat_le present.length other.length) o true) none)
        (λ other later.
        ap (λ (o : Option Present). option_map_or (λ (other : Present). nat_le present.length other.length) o true) later
        ∙ nat_le-from present.length other.length
        (let long : present.length ≤ place = long_so present marked in
        let ends : place + records_of bytes ≤ other.length = nat_le-true (place + records_of bytes) other.length (back other later) in
        omega (arith, long, ends))))

  -- ---- the entry

  some_writes : writes ≤ length (work_at start).writes
  some_writes =
      nat_le-true writes (length (work_at start).writes)
      (and-first (nat_le writes (length (work_at start).writes)) _
      (and-second (nat_le (writes_in (place_of row)) writes && rewrites_nothing start (writes_in (place_of row)) writes) (carries_lengths now.tables.sets writes lengths start) carried))

  -- a run within a step was selected
  selected-so : (place : Option Place) → option_map_or (λ (place : Place). place) place (Before 1) ≡ Within step (writes_in (place_of row)) → is_some place ≡ true
  selected-so None at = absurd (false≢true (ap is_within at))
  selected-so (Some place) at = refl

  entry_so : IsEntryOf row leg set new_entry
  entry_so = is_some-true (point_at row.points step) (ready.begun within) (λ point got. record {
    owned = owned;
    found = running.found;
    selected = selected-so row.place running.stands;
    job_name = refl;
    step_name = refl;
    executed = its_place.past;
    named = refl;
    output = listed;
    back = back;
    taken = told;
    done = some_writes;
    point = point;
    has = got;
    room = some;
    stands = point_so point got;
  })

  numbered : row.number ≡ job
  numbered = kept.numbered job row running.holder.row_at

  pub entry-written : IsWrittenEntry now set new_entry
  entry-written = record {
    run = sym numbered;
    row = row;
    row_at = ap (run_of now.tables) numbered ∙ running.holder.row_at;
    leg = leg;
    leg_at = ap (leg_of now) numbered ∙ running.holder.leg_at;
    of_run = entry_so;
  }

  -- a data set with the entry, which ends within it
  with-entry : (table : TableSet) → HasWrittenEntries now set table → ends_within table.set.length kept_now ≡ true → HasWrittenEntries now set (with_kept_entry new_entry table)
  with-entry table its ends = record {
    ends =
        list_all-append (λ (entry : KeptEntry). ends_within table.set.length entry.kept) table.entries (new_entry ∷ [])
        ∙ and_from (list_all (λ (entry : KeptEntry). ends_within table.set.length entry.kept) table.entries) _ its.ends (and_from (ends_within table.set.length kept_now) true ends refl);
    written = each-append (IsWrittenEntry now set) table.entries (new_entry ∷ []) its.written (entry-written, tt);
  }

  -- each data set has its entries so
  pub checked-has : EachHas (HasWrittenEntries now) done_sets → EachHas (HasWrittenEntries now) sets_then
  checked-has each name table there =
      bool-cases (same_name name set)
      (λ same. subst (λ n. HasWrittenEntries now n table) (sym (name-same name set same)) (own (ap (entry_at sets_then) (sym (name-same name set same)) ∙ there)))
      (λ apart. each name table (sym (at-with_changed-other set name (with_kept_entry new_entry) done_sets apart) ∙ there))
    where
      own : entry_at sets_then set ≡ Some table → HasWrittenEntries now set table
      own here =
          let old = option_map-some (with_kept_entry new_entry) (entry_at done_sets set) table
          (sym (at-with_changed set set (with_kept_entry new_entry) done_sets ∙ ap (λ b. cond b (option_map (with_kept_entry new_entry) (entry_at done_sets set)) (entry_at done_sets set)) (name-itself set)) ∙ here) in
          let same : with_kept_entry new_entry old.0 ≡ keeps_new.table = old.2 ∙ some-one table keeps_new.table (entry_at sets_then set) here keeps_new.at in
          subst (HasWrittenEntries now set) old.2
          (with-entry old.0 (each set old.0 old.1) (ap (λ (one : TableSet). ends_within one.set.length kept_now) same ∙ keeps_new.ends))

  -- the run has grown so
  pub checked-grown : IsGrown sets_then row_then
  checked-grown inside other point found got =
      subst (λ its. HasGrown sets_then row_then its point.marks) (some-one owned other (own_step row) running.found found)
      (record {
        since =
            long-changed row_then owned point.marks set (with_kept_entry new_entry) done_sets (λ table. refl)
            (long-committed row_then owned point.marks now.tables.sets lengths are (grown within owned point running.found got).since);
        effect = λ effect entry in_effect there.
            subst (λ (its : EffectPoint). kept_at sets_then its.set its.kept.id ≡ Some entry → (its.set ≡ set) × (is_no_shorter point.marks entry.point.marks its.set ≡ true)) (same_Some (fresh_effect set kept_now) effect in_effect)
            (λ its.
            subst (λ (one : KeptEntry). (set ≡ set) × (is_no_shorter point.marks one.point.marks set ≡ true)) (some-one new_entry entry (kept_at sets_then set id) (kept-entry sets_then set id new_entry keeps_new) its)
            (refl, longer_so point got))
            there;
      })
