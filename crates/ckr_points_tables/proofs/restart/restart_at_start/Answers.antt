use Rattle.std.proofs.Common.{◌≤◌, ap, ◌∙◌, length, sym, subst}
use Rattle.std.specs.Option.{option_map}
use Rattle.ckr_library.specs.NameMaps.{EachEntry}
use Rattle.ckr_meaning.specs.EffectiveJob.{names_of}
use Rattle.ckr_points.specs.Rows.{StartPoint}
use Rattle.ckr_points_library.specs.Commit.{output_names}
use Rattle.ckr_points_runs.specs.PutBack.{IsFilled}
use Rattle.ckr_points_tables.specs.Restart.{HasPassedFor}
use Rattle.ckr_points_runs.specs.RunChange.{going}
use Rattle.ckr_points_runs.specs.PutBack.{all_made_gone, sets_back}
use Rattle.ckr_points_runs.specs.RunJobs.{own_of}
use Rattle.ckr_points_runs.specs.View.{facts_of, point_of}
use Rattle.ckr_points_runs.proofs.PutBack.{cut-back-filled}
use Rattle.ckr_points_tables.proofs.PutBack.{gone-each}
use Rattle.ckr_points_tables.proofs.Restarts.Pieces.{point-found, point-lost, start-built, start-without-point}
use Rattle.ckr_points_tables.proofs.restart.restart_at_start.Goals as goal

pub returns-in_default-point_at : goal.returns-in_default-point_at
returns-in_default-point_at c =
    start-without-point (going c.args.line.now (facts_of c.args.table.now) c.args.library.now.sets) c.args.step c.args.initiator (own_of c.in-Some.own)
    (sym c.in-Some.ensures.step)
    (point-lost c.args.table.now.points.items c.as_slice.result.now c.as_slice.ensures c.args.step c.in_default-point_at.ensures)

pub put_back_sets-requires-clause-filled : goal.put_back_sets-requires-clause-filled
put_back_sets-requires-clause-filled c =
    subst (EachEntry IsFilled) (sym c.delete_all_made.ensures)
    (gone-each IsFilled cut-back-filled (λ on holding is. is) c.as_slice-marks.result.now (names_of c.root-root.result (own_of c.in-Some.own)) c.args.library.now.sets c.requires.filled)

pub put_back_passed-requires : goal.put_back_passed-requires
put_back_passed-requires c =
    let point = c.in-Some-point_at.point.now in
    subst (λ all. length all ≤ c.args.table.now.passed.room) (sym c.as_slice-2.ensures)
    (subst (λ found. HasPassedFor c.args.table.now.passed.room (option_map (λ (one : StartPoint). one.passed) found))
    (point-found c.args.table.now.points.items c.as_slice.result.now c.as_slice.ensures c.args.step point c.in-Some-point_at.ensures) c.requires.room)

pub returns : goal.returns
returns c =
    let point = c.in-Some-point_at.point.now in
    start-built c.args.line.now (facts_of c.args.table.now) c.args.library.now.sets c.args.step c.args.initiator (own_of c.in-Some.own) (sym c.in-Some.ensures.step)
    (point_of point) (point-found c.args.table.now.points.items c.as_slice.result.now c.as_slice.ensures c.args.step point c.in-Some-point_at.ensures)
    c.go_on.new.line c.go_on.ensures
    c.delete_all_made.new.library.sets c.put_back_sets.new.library.sets c.as_slice-marks.result.now c.as_slice-marks.ensures
    (c.delete_all_made.ensures ∙ ap (λ root. all_made_gone c.as_slice-marks.result.now (names_of root (own_of c.in-Some.own)) c.args.library.now.sets) c.root-root.ensures)
    (c.put_back_sets.ensures ∙ ap (λ root. sets_back c.as_slice-marks.result.now (output_names root (own_of c.in-Some.own)) (names_of root (own_of c.in-Some.own)) c.delete_all_made.new.library.sets) c.root-root.ensures)
    c.put_back_passed.new.passed.items (c.put_back_passed.ensures ∙ c.as_slice-2.ensures)
    (facts_of c.go_back.new.table) (facts_of c.count_at_start.new.table) c.go_back.ensures.facts c.count_at_start.ensures
