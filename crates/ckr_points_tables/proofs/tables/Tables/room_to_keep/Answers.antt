use Rattle.std.proofs.Common.{◌≡◌, ◌-◌, ◌<◌, vec_len, vec_capacity, ap, sym, ◌∙◌, subst, arith, length, map, refl, slice_get, slice_set, Some}
use Rattle.std.proofs.lemmas.List.{map-set}
use Rattle.std.proofs.lemmas.Option.{same_Some, slice_get-map}
use Rattle.std.specs.Option.{option_map}
use Rattle.std.proofs.lemmas.Result.{on_ok_weaker}
use Rattle.std.proofs.Math.ListN.{length-set}
use Rattle.ckr_base.specs.RoomyLists.{Roomy}
use Rattle.ckr_base.proofs.Sequences.{get-from, get-set-same, set-same}
use Rattle.ckr_library.specs.NameMaps.{EachEntry}
use Rattle.ckr_points.specs.Rows.{TablesModel, run_of}
use Rattle.ckr_points_tables.specs.Parts.{tables_seen}
use Rattle.ckr_points_tables.specs.Invariant.{HasEntryRoom, IsWide, entries_at}
use Rattle.ckr_points_runs.specs.PutBack.{IsFilled}
use Rattle.ckr_points_tables.specs.Rooms.{EntryFits, HasNoPlace, IsRoomier}
use Rattle.ckr_points_tables.specs.View.{RoomyTables, TablesRoom, room_of, row_of, rows_of, seen_under, table_in, next_of}
use Rattle.ckr_points_runs.specs.View.{writing_of, written_of}
use Rattle.ckr_points_runs.specs.declared.run_table.WrittenEntry.{WrittenEntry}
use Rattle.ckr_points_tables.proofs.RoomGrowth.{checkpoint_there, each-stays, entries_by, found_there, has-seen, fits_there, line_there, none_beyond, numbered_there}
use Rattle.ckr_points_tables.proofs.Runs.{length-rows}
use Rattle.ckr_points_tables.proofs.tables.Tables.room_to_keep.Goals as goal

pub index-requires : goal.index-requires
index-requires c =
    omega (arith, (c.in-Some.ensures.some c.in-Some.place refl).1, ap length c.as_slice.ensures.value, c.self.inside.tables.ok.0)

pub index_mut-requires : goal.index_mut-requires
index_mut-requires c =
    omega (arith, (c.in-Some.ensures.some c.in-Some.place refl).1, ap length c.as_slice.ensures.value, c.self.invariant.kept.written, c.self.inside.writings.ok.0)

pub reserve_checkpoint-requires : goal.reserve_checkpoint-requires
reserve_checkpoint-requires c =
    let tables = c.self.inside.tables.items in
    let place = c.in-Some.place in
    let table = c.index.result.now in
    let at = c.in-Some.ensures.some place refl in
    let inside : place < length tables = omega (arith, at.1, ap length c.as_slice.ensures.value) in
    let here : slice_get tables place ≡ Some table = get-from tables place table inside c.index.ensures in
    record { fits = fits_there c.self.inside.lines.items tables c.self.invariant.kept.runs place table table here c.args.job at.0 }

pub invariant_of-self : goal.invariant_of-self
invariant_of-self c = record {
  kept = record {
    wide = subst (EachEntry IsWide) (sym c.reserve_checkpoint.ensures.sets) c.self.invariant.kept.wide;
    filled = subst (EachEntry IsFilled) (sym c.reserve_checkpoint.ensures.sets) c.self.invariant.kept.filled;
    runs = c.self.invariant.kept.runs;
    few = c.self.invariant.kept.few;
    indexed = c.self.invariant.kept.indexed;
    spare = c.reserve_checkpoint.ensures.marks ∙ c.self.invariant.kept.spare;
    written = length-set c.self.inside.writings.items c.in-Some.place c.reserve_checkpoint.new.entries ∙ c.self.invariant.kept.written;
  };
  ended = c.self.invariant.ended;
  waits = c.self.invariant.waits;
}

pub returns-in-Some-clause-desk : goal.returns-in-Some-clause-desk
returns-in-Some-clause-desk c =
    let writings = c.self.inside.writings.items in
    let place = c.in-Some.place in
    let old = c.index_mut.result.now in
    let new = c.reserve_checkpoint.new.entries in
    let inside : place < length writings = omega (arith, (c.in-Some.ensures.some place refl).1, ap length c.as_slice.ensures.value, c.self.invariant.kept.written) in
    let here : slice_get writings place ≡ Some old = get-from writings place old inside c.index_mut.ensures.value in
    let same : map written_of (slice_set writings place new) ≡ map written_of writings =
    map-set written_of writings place new ∙ ap (λ items. slice_set (map written_of writings) place (map writing_of items)) c.reserve_checkpoint.ensures.entries
    ∙ set-same (map written_of writings) place (written_of old) (slice_get-map written_of writings place ∙ ap (option_map written_of) here) in
    ap (λ written. let all : TablesModel = record { sets = seen_under (table_in written) c.reserve_checkpoint.new.library.sets; runs = rows_of c.self.inside.lines.items c.self.inside.tables.items } in all) same
    ∙ ap (λ sets. let all : TablesModel = record { sets = seen_under (table_in (map written_of writings)) sets; runs = rows_of c.self.inside.lines.items c.self.inside.tables.items } in all) c.reserve_checkpoint.ensures.sets
    ∙ ap (λ v. v.desk) c.self.view_is

pub returns-in-Some-clause-ok : goal.returns-in-Some-clause-ok
returns-in-Some-clause-ok c =
    let lines = c.self.inside.lines.items in
    let tables = c.self.inside.tables.items in
    let writings = c.self.inside.writings.items in
    let place = c.in-Some.place in
    let table = c.index.result.now in
    let old = c.index_mut.result.now in
    let new = c.reserve_checkpoint.new.entries in
    let at = c.in-Some.ensures.some place refl in
    let inside : place < length tables = omega (arith, at.1, ap length c.as_slice.ensures.value) in
    let here : slice_get tables place ≡ Some table = get-from tables place table inside c.index.ensures in
    let room : TablesRoom = record {
      sets = c.reserve_checkpoint.new.library.room;
      kept = c.reserve_checkpoint.new.library.entry_rooms;
      runs = vec_capacity c.self.inside.tables - vec_len c.self.inside.tables;
      lines = vec_capacity c.self.inside.lines - vec_len c.self.inside.lines;
      sorted = c.reserve_checkpoint.new.spare.sorted.room;
      marks = c.reserve_checkpoint.new.spare.marks.room;
      passed = c.reserve_checkpoint.new.spare.passed.room;
      next = option_map next_of c.reserve_checkpoint.new.spare.next;
      each = map room_of tables;
      writings = vec_capacity c.self.inside.writings - vec_len c.self.inside.writings;
      entries = map (λ (written : Roomy WrittenEntry). written.room) (slice_set writings place new);
    } in
    let seen = map written_of (slice_set writings place new) in
    let desk : TablesModel = record { sets = seen_under (table_in seen) c.reserve_checkpoint.new.library.sets; runs = rows_of lines tables } in
    let now : RoomyTables = record { desk = desk; room = room } in
    let line = (line_there lines tables c.self.invariant.kept.runs place table table here).0 in
    let number : line.number ≡ c.args.job = numbered_there lines tables c.self.invariant.kept.runs place table table here ∙ omega (arith, at.0) in
    on_ok_weaker c.reserve_checkpoint.result
    (λ fits row found.
    let same : row ≡ row_of line table =
    same_Some row (row_of line table) (sym found ∙ ap (run_of desk) at.0 ∙ found_there lines tables c.self.invariant.kept.runs place table table here) in
    subst (HasEntryRoom now) (sym same)
    (checkpoint_there line table now c.reserve_checkpoint.new.library c.reserve_checkpoint.new.spare new
    (subst (λ n. EntryFits n table new c.reserve_checkpoint.new.library c.reserve_checkpoint.new.spare) (sym number) fits) refl refl refl refl
    (has-seen seen c.reserve_checkpoint.new.library)
    (λ more is.
    let there : slice_get writings place ≡ Some old = get-from writings place old (omega (arith, inside, c.self.invariant.kept.written)) c.index_mut.ensures.value in
    let back : Some more ≡ Some new.room =
    sym is ∙ ap (entries_at room) (number ∙ at.0) ∙ slice_get-map (λ (written : Roomy WrittenEntry). written.room) (slice_set writings place new) place
    ∙ ap (option_map (λ (written : Roomy WrittenEntry). written.room)) (get-set-same writings place new old there) in
    subst (λ n. 0 < n) (sym (same_Some more new.room back)) fits.entries)))
    c.reserve_checkpoint.ensures.ok

pub returns-in-Some-clause-room : goal.returns-in-Some-clause-room
returns-in-Some-clause-room c =
    let writings = c.self.inside.writings.items in
    let place = c.in-Some.place in
    let old = c.index_mut.result.now in
    let new = c.reserve_checkpoint.new.entries in
    let inside : place < length writings = omega (arith, (c.in-Some.ensures.some place refl).1, ap length c.as_slice.ensures.value, c.self.invariant.kept.written) in
    let here : slice_get writings place ≡ Some old = get-from writings place old inside c.index_mut.ensures.value in
    let room : TablesRoom = record {
      sets = c.reserve_checkpoint.new.library.room;
      kept = c.reserve_checkpoint.new.library.entry_rooms;
      runs = vec_capacity c.self.inside.tables - vec_len c.self.inside.tables;
      lines = vec_capacity c.self.inside.lines - vec_len c.self.inside.lines;
      sorted = c.reserve_checkpoint.new.spare.sorted.room;
      marks = c.reserve_checkpoint.new.spare.marks.room;
      passed = c.reserve_checkpoint.new.spare.passed.room;
      next = option_map next_of c.reserve_checkpoint.new.spare.next;
      each = map room_of c.self.inside.tables.items;
      writings = vec_capacity c.self.inside.writings - vec_len c.self.inside.writings;
      entries = map (λ (written : Roomy WrittenEntry). written.room) (slice_set writings place new);
    } in
    subst (λ v. IsRoomier v.room room) c.self.view_is
    (record {
      sets = c.reserve_checkpoint.ensures.more.sets;
      kept = c.reserve_checkpoint.ensures.more.kept;
      runs = omega arith;
      lines = omega arith;
      sorted = c.reserve_checkpoint.ensures.more.sorted;
      marks = c.reserve_checkpoint.ensures.more.marks;
      passed = c.reserve_checkpoint.ensures.more.passed;
      each = each-stays (tables_seen c.self.inside).room room refl;
      writings = omega arith;
      entries = λ job one two first second. entries_by writings place old new here c.reserve_checkpoint.ensures.room (tables_seen c.self.inside).room room refl refl job one two first second;
    })

pub returns-in-None-clause-ok : goal.returns-in-None-clause-ok
returns-in-None-clause-ok c = λ row found.
    absurd (none_beyond c.args.self.now.desk c.args.job row
    (subst (HasNoPlace c.args.job) (ap length c.as_slice.ensures.value ∙ sym (length-rows 1 c.self.inside.lines.items c.self.inside.tables.items c.self.invariant.kept.runs).1 ∙ ap (λ v. length v.desk.runs) c.self.view_is) (c.in-None.ensures.none refl)) found)
