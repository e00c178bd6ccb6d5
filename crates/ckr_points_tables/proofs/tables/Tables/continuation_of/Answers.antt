use Rattle.std.proofs.Common.{◌≡◌, ℕ, Option, ◌<◌, length, map, slice_get, refl, ap, sym, ◌∙◌, subst, arith, Some}
use Rattle.std.specs.Option.{option_and_then}
use Rattle.std.proofs.lemmas.Option.{same_Some}
use Rattle.std.proofs.lemmas.Result.{IfOk-weaker}
use Rattle.ckr_base.proofs.Sequences.{get-from}
use Rattle.ckr_points.specs.Marks.{mark_now}
use Rattle.ckr_points.specs.Restart.{kept_at}
use Rattle.ckr_points.specs.Rows.{RunRow, run_of}
use Rattle.ckr_points_tables.specs.Rooms.{HasNoPlace}
use Rattle.ckr_points_tables.specs.Parts.{tables_seen}
use Rattle.ckr_points_runs.specs.RunJobs.{effective}
use Rattle.ckr_points_tables.specs.Selection.{entries_in, prepared, prepared_for, prepared_of}
use Rattle.ckr_points_runs.specs.View.{facts_of, seen_by, table_of, written_of}
use Rattle.ckr_points_tables.specs.View.{row_of}
use Rattle.ckr_points_tables.proofs.RoomGrowth.{fits_there, found_there, line_there, limits_there, none_beyond, numbered_there, syschk_there}
use Rattle.ckr_points_tables.proofs.Runs.{length-rows}
use Rattle.ckr_points_tables.proofs.SelectionRooms.{prepared-beyond, prepared-seen}
use Rattle.ckr_points_tables.proofs.tables.Tables.continuation_of.Goals as goal

pub index-requires : goal.index-requires
index-requires c = omega (arith, (c.in-Some.ensures.some c.in-Some.place refl).1, ap length c.as_slice.ensures.value, c.self.inside.tables.ok.0)

pub index-requires-2 : goal.index-requires-2
index-requires-2 c = omega (arith, (c.in-Some-place_in.ensures.some c.in-Some-place_in.other refl).1, ap length c.as_slice-2.ensures.value, c.self.inside.tables.ok.0)

pub continuation-requires-clause-run : goal.continuation-requires-clause-run
continuation-requires-clause-run c =
    let inside : c.in-Some.place < length c.self.inside.tables.items = omega (arith, (c.in-Some.ensures.some c.in-Some.place refl).1, ap length c.as_slice.ensures.value) in
    omega (arith, inside, (c.in-Some.ensures.some c.in-Some.place refl).0, c.self.invariant.kept.few)

pub continuation-requires-clause-limits : goal.continuation-requires-clause-limits
continuation-requires-clause-limits c =
    let tables = c.self.inside.tables.items in
    let place = c.in-Some.place in
    let own = c.index.result.now in
    let inside : place < length tables = omega (arith, (c.in-Some.ensures.some place refl).1, ap length c.as_slice.ensures.value) in
    limits_there c.self.inside.lines.items tables c.self.invariant.kept.runs place own own (get-from tables place own inside c.index.ensures)

pub continuation-requires-clause-fits : goal.continuation-requires-clause-fits
continuation-requires-clause-fits c =
    let tables = c.self.inside.tables.items in
    let place = c.in-Some-place_in.other in
    let earlier = c.index-2.result.now in
    let inside : place < length tables = omega (arith, (c.in-Some-place_in.ensures.some place refl).1, ap length c.as_slice-2.ensures.value) in
    fits_there c.self.inside.lines.items tables c.self.invariant.kept.runs place earlier earlier (get-from tables place earlier inside c.index-2.ensures) c.args.earlier (c.in-Some-place_in.ensures.some place refl).0

pub continuation-requires-clause-syschk : goal.continuation-requires-clause-syschk
continuation-requires-clause-syschk c =
    let tables = c.self.inside.tables.items in
    let place = c.in-Some.place in
    let own = c.index.result.now in
    let inside : place < length tables = omega (arith, (c.in-Some.ensures.some place refl).1, ap length c.as_slice.ensures.value) in
    syschk_there c.self.inside.lines.items tables c.self.invariant.kept.runs place own own (get-from tables place own inside c.index.ensures)

pub returns-in_default-clause-facts : goal.returns-in_default-clause-facts
returns-in_default-clause-facts c = λ row found.
    absurd (none_beyond c.args.self.now.desk c.args.job row
    (subst (HasNoPlace c.args.job) (ap length c.as_slice.ensures.value ∙ sym (length-rows 1 c.self.inside.lines.items c.self.inside.tables.items c.self.invariant.kept.runs).1 ∙ ap (λ v. length v.desk.runs) c.self.view_is) (c.place_in.ensures.none c.in_default.is)) found)

pub returns-in_default-place_in-clause-facts : goal.returns-in_default-place_in-clause-facts
returns-in_default-place_in-clause-facts c = λ row found.
    prepared-beyond c.args.self.now.desk row c.args.earlier c.args.step c.args.id.now
    (subst (HasNoPlace c.args.earlier) (ap length c.as_slice-2.ensures.value ∙ sym (length-rows 1 c.self.inside.lines.items c.self.inside.tables.items c.self.invariant.kept.runs).1 ∙ ap (λ v. length v.desk.runs) c.self.view_is) (c.place_in-2.ensures.none c.in_default-place_in.is))

pub returns-clause-facts : goal.returns-clause-facts
returns-clause-facts c =
    let lines = c.self.inside.lines.items in
    let tables = c.self.inside.tables.items in
    let writings = map written_of c.self.inside.writings.items in
    let sets = c.self.inside.library.sets in
    let place = c.in-Some.place in
    let other = c.in-Some-place_in.other in
    let own = c.index.result.now in
    let earlier = c.index-2.result.now in
    let first = c.in-Some.ensures.some place refl in
    let second = c.in-Some-place_in.ensures.some other refl in
    let here : slice_get tables place ≡ Some own = get-from tables place own (omega (arith, first.1, ap length c.as_slice.ensures.value)) c.index.ensures in
    let there : slice_get tables other ≡ Some earlier = get-from tables other earlier (omega (arith, second.1, ap length c.as_slice-2.ensures.value)) c.index-2.ensures in
    let row = row_of (line_there lines tables c.self.invariant.kept.runs place own own here).0 own in
    let before = row_of (line_there lines tables c.self.invariant.kept.runs other earlier earlier there).0 earlier in
    let desk = (tables_seen c.self.inside).desk in
    let deck = own.job.deck in
    let all = facts_of earlier in
    let number : c.args.job ≡ row.number = omega (arith, first.0, numbered_there lines tables c.self.invariant.kept.runs place own own here) in
    let number_before : c.args.earlier ≡ before.number = omega (arith, second.0, numbered_there lines tables c.self.invariant.kept.runs other earlier earlier there) in
    let found_here : run_of desk c.args.job ≡ Some row = ap (run_of desk) first.0 ∙ found_there lines tables c.self.invariant.kept.runs place own own here in
    let found_before : run_of desk c.args.earlier ≡ Some before = ap (run_of desk) second.0 ∙ found_there lines tables c.self.invariant.kept.runs other earlier earlier there in
    let made = λ (run : ℕ) (one : ℕ). prepared_of (mark_now desk.sets) (kept_at desk.sets) run one deck (effective one earlier.job) all.rcs all.points c.args.step c.args.id.now in
    IfOk-weaker c.continuation.result _ _
    (λ next is one found.
    is
    ∙ ap (λ items. prepared (mark_now (seen_by table_of sets)) (entries_in (map written_of items) sets) c.args.job c.args.earlier deck all c.args.step c.args.id.now) c.as_slice-3.ensures.value
    ∙ prepared-seen writings sets c.args.job c.args.earlier deck all c.args.step c.args.id.now
    ∙ ap (λ n. made n c.args.earlier) number
    ∙ ap (made row.number) number_before
    ∙ sym (ap (λ (there : Option RunRow). option_and_then (λ (run : RunRow). prepared_of (mark_now desk.sets) (kept_at desk.sets) row.number run.number row.deck run.job run.rcs run.points c.args.step c.args.id.now) there) found_before)
    ∙ ap (λ (run : RunRow). prepared_for desk run c.args.earlier c.args.step c.args.id.now) (same_Some row one (sym found_here ∙ ap (λ v. run_of v.desk c.args.job) c.self.view_is ∙ found))
    ∙ ap (λ v. prepared_for v.desk one c.args.earlier c.args.step c.args.id.now) c.self.view_is)
    c.continuation.ensures.facts
