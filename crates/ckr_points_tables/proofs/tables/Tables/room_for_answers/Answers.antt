use Rattle.std.proofs.Common.{◌≡◌, ◌-◌, ◌<◌, vec_len, vec_capacity, ap, sym, ◌∙◌, subst, arith, length, map, refl, slice_get, slice_set, Some}
use Rattle.std.specs.Option.{option_map}
use Rattle.std.proofs.lemmas.Result.{on_ok_weaker}
use Rattle.ckr_base.proofs.Sequences.{get-from}
use Rattle.ckr_base.specs.RoomyLists.{Roomy}
use Rattle.ckr_points_runs.specs.declared.run_table.WrittenEntry.{WrittenEntry}
use Rattle.ckr_points_tables.specs.Parts.{tables_seen}
use Rattle.ckr_points_tables.specs.Invariant.{room_at}
use Rattle.ckr_points_tables.specs.Rooms.{HasNoPlace, IsRoomier}
use Rattle.ckr_points.specs.Rows.{TablesModel, run_of}
use Rattle.ckr_points_tables.specs.Restart.{HasPassedFor, passed_for}
use Rattle.ckr_points_tables.specs.View.{TablesRoom, room_of, rows_of, seen_under, table_in, next_of}
use Rattle.ckr_points_runs.specs.View.{facts_of, written_of}
use Rattle.ckr_points_tables.proofs.RoomGrowth.{fits_there, rows_there, kept_there, end_there, restart_there, each_by, entries-stay, none_beyond}
use Rattle.ckr_points_tables.proofs.Runs.{length-rows}
use Rattle.ckr_points_tables.proofs.tables.Tables.room_for_answers.Goals as goal

pub reserve_answers-requires : goal.reserve_answers-requires
reserve_answers-requires c =
    let tables = c.self.inside.tables.items in
    let place = c.in-Some.place in
    let old = c.index_mut.result.now in
    let inside : place < length tables = omega (arith, (c.in-Some.ensures.some place refl).1, ap length c.as_slice.ensures.value) in
    let here : slice_get tables place ≡ Some old = get-from tables place old inside c.index_mut.ensures.value in
    record { fits = fits_there c.self.inside.lines.items tables c.self.invariant.kept.runs place old old here c.args.job (c.in-Some.ensures.some place refl).0 }

pub invariant_of-self : goal.invariant_of-self
invariant_of-self c = record {
  kept =
      let tables = c.self.inside.tables.items in
      let place = c.in-Some.place in
      let old = c.index_mut.result.now in
      let inside : place < length tables = omega (arith, (c.in-Some.ensures.some place refl).1, ap length c.as_slice.ensures.value) in
      let here : slice_get tables place ≡ Some old = get-from tables place old inside c.index_mut.ensures.value in
      kept_there c.self.inside.lines.items tables c.self.invariant.kept.runs place old c.reserve_answers.new.table here c.reserve_answers.ensures.facts c.self.inside.library.sets c.self.inside.index c.self.inside.spare.marks.items c.self.inside.writings.items c.self.invariant.kept;
  ended = c.self.invariant.ended;
  waits = c.self.invariant.waits;
}

pub returns-in-Some-clause-desk : goal.returns-in-Some-clause-desk
returns-in-Some-clause-desk c =
    let tables = c.self.inside.tables.items in
    let place = c.in-Some.place in
    let old = c.index_mut.result.now in
    let inside : place < length tables = omega (arith, (c.in-Some.ensures.some place refl).1, ap length c.as_slice.ensures.value) in
    let here : slice_get tables place ≡ Some old = get-from tables place old inside c.index_mut.ensures.value in
    ap (λ runs. let all : TablesModel = record { sets = seen_under (table_in (map written_of c.self.inside.writings.items)) c.self.inside.library.sets; runs = runs } in all) (rows_there c.self.inside.lines.items tables c.self.invariant.kept.runs place old c.reserve_answers.new.table here c.reserve_answers.ensures.facts)
    ∙ ap (λ v. v.desk) c.self.view_is

pub returns-in-Some-clause-restart : goal.returns-in-Some-clause-restart
returns-in-Some-clause-restart c =
    let tables = c.self.inside.tables.items in
    let place = c.in-Some.place in
    let old = c.index_mut.result.now in
    let inside : place < length tables = omega (arith, (c.in-Some.ensures.some place refl).1, ap length c.as_slice.ensures.value) in
    let here : slice_get tables place ≡ Some old = get-from tables place old inside c.index_mut.ensures.value in
    let room : TablesRoom = record {
      sets = c.self.inside.library.room;
      kept = c.self.inside.library.entry_rooms;
      runs = vec_capacity c.self.inside.tables - vec_len c.self.inside.tables;
      lines = vec_capacity c.self.inside.lines - vec_len c.self.inside.lines;
      sorted = c.self.inside.spare.sorted.room;
      marks = c.self.inside.spare.marks.room;
      passed = c.self.inside.spare.passed.room;
      next = option_map next_of c.self.inside.spare.next;
      each = map room_of (slice_set tables place c.reserve_answers.new.table);
      writings = vec_capacity c.self.inside.writings - vec_len c.self.inside.writings;
      entries = map (λ (entries : Roomy WrittenEntry). entries.room) c.self.inside.writings.items;
    } in
    let desk : TablesModel = record { sets = seen_under (table_in (map written_of c.self.inside.writings.items)) c.self.inside.library.sets; runs = rows_of c.self.inside.lines.items (slice_set tables place c.reserve_answers.new.table) } in
    let job = (c.in-Some.ensures.some place refl).0 in
    on_ok_weaker c.reserve_answers.result
    (λ fits row one found roomed.
    restart_there c.self.inside.lines.items tables c.self.invariant.kept.runs place old c.reserve_answers.new.table here c.reserve_answers.ensures.facts c.args.checkpoint (map written_of c.self.inside.writings.items) c.self.inside.library.sets
    (subst (λ all. HasPassedFor c.reserve_answers.new.table.passed.room (passed_for c.args.checkpoint (map written_of all) c.self.inside.library.sets (facts_of old))) c.as_slice-in-Some.ensures.value fits)
    row one (ap (run_of desk) (sym job) ∙ found) (ap (room_at room) (sym job) ∙ roomed))
    c.reserve_answers.ensures.restart

pub returns-in-Some-clause-end : goal.returns-in-Some-clause-end
returns-in-Some-clause-end c =
    let tables = c.self.inside.tables.items in
    let place = c.in-Some.place in
    let old = c.index_mut.result.now in
    let inside : place < length tables = omega (arith, (c.in-Some.ensures.some place refl).1, ap length c.as_slice.ensures.value) in
    let here : slice_get tables place ≡ Some old = get-from tables place old inside c.index_mut.ensures.value in
    let room : TablesRoom = record {
      sets = c.self.inside.library.room;
      kept = c.self.inside.library.entry_rooms;
      runs = vec_capacity c.self.inside.tables - vec_len c.self.inside.tables;
      lines = vec_capacity c.self.inside.lines - vec_len c.self.inside.lines;
      sorted = c.self.inside.spare.sorted.room;
      marks = c.self.inside.spare.marks.room;
      passed = c.self.inside.spare.passed.room;
      next = option_map next_of c.self.inside.spare.next;
      each = map room_of (slice_set tables place c.reserve_answers.new.table);
      writings = vec_capacity c.self.inside.writings - vec_len c.self.inside.writings;
      entries = map (λ (entries : Roomy WrittenEntry). entries.room) c.self.inside.writings.items;
    } in
    let desk : TablesModel = record { sets = seen_under (table_in (map written_of c.self.inside.writings.items)) c.self.inside.library.sets; runs = rows_of c.self.inside.lines.items (slice_set tables place c.reserve_answers.new.table) } in
    let job = (c.in-Some.ensures.some place refl).0 in
    on_ok_weaker c.reserve_answers.result
    (λ fits row one found roomed.
    end_there c.self.inside.lines.items tables c.self.invariant.kept.runs place old c.reserve_answers.new.table here c.reserve_answers.ensures.facts c.args.job job fits
    row one (ap (run_of desk) (sym job) ∙ found) (ap (room_at room) (sym job) ∙ roomed))
    c.reserve_answers.ensures.end

pub returns-in-Some-clause-room : goal.returns-in-Some-clause-room
returns-in-Some-clause-room c =
    let tables = c.self.inside.tables.items in
    let place = c.in-Some.place in
    let old = c.index_mut.result.now in
    let inside : place < length tables = omega (arith, (c.in-Some.ensures.some place refl).1, ap length c.as_slice.ensures.value) in
    let here : slice_get tables place ≡ Some old = get-from tables place old inside c.index_mut.ensures.value in
    let room : TablesRoom = record {
      sets = c.self.inside.library.room;
      kept = c.self.inside.library.entry_rooms;
      runs = vec_capacity c.self.inside.tables - vec_len c.self.inside.tables;
      lines = vec_capacity c.self.inside.lines - vec_len c.self.inside.lines;
      sorted = c.self.inside.spare.sorted.room;
      marks = c.self.inside.spare.marks.room;
      passed = c.self.inside.spare.passed.room;
      next = option_map next_of c.self.inside.spare.next;
      each = map room_of (slice_set tables place c.reserve_answers.new.table);
      writings = vec_capacity c.self.inside.writings - vec_len c.self.inside.writings;
      entries = map (λ (entries : Roomy WrittenEntry). entries.room) c.self.inside.writings.items;
    } in
    let more = c.reserve_answers.ensures.run in
    subst (λ v. IsRoomier v.room room) c.self.view_is
    (record {
      sets = omega arith;
      kept = λ name. omega arith;
      runs = omega arith;
      lines = omega arith;
      sorted = omega arith;
      marks = omega arith;
      passed = omega arith;
      each = λ job one two first second. each_by c.self.inside.lines.items tables c.self.invariant.kept.runs place old c.reserve_answers.new.table here more (tables_seen c.self.inside).room room refl refl job one two first second;
      writings = omega arith;
      entries = entries-stay (tables_seen c.self.inside).room room refl;
    })

pub returns-in-None-clause-restart : goal.returns-in-None-clause-restart
returns-in-None-clause-restart c = λ row one found roomed.
    absurd (none_beyond c.args.self.now.desk c.args.job row
    (subst (HasNoPlace c.args.job) (ap length c.as_slice.ensures.value ∙ sym (length-rows 1 c.self.inside.lines.items c.self.inside.tables.items c.self.invariant.kept.runs).1 ∙ ap (λ v. length v.desk.runs) c.self.view_is) (c.in-None.ensures.none refl)) found)

pub returns-in-None-clause-end : goal.returns-in-None-clause-end
returns-in-None-clause-end c = λ row one found roomed.
    absurd (none_beyond c.args.self.now.desk c.args.job row
    (subst (HasNoPlace c.args.job) (ap length c.as_slice.ensures.value ∙ sym (length-rows 1 c.self.inside.lines.items c.self.inside.tables.items c.self.invariant.kept.runs).1 ∙ ap (λ v. length v.desk.runs) c.self.view_is) (c.in-None.ensures.none refl)) found)
