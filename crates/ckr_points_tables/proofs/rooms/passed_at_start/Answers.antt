use Rattle.std.proofs.Common.{length, map, ap, sym, ◌∙◌}
use Rattle.std.specs.Option.{option_map, option_map_or}
use Rattle.ckr_points.specs.Rows.{StartPoint}
use Rattle.ckr_points_tables.specs.Restart.{passed_at_start}
use Rattle.ckr_points_runs.specs.View.{point_of}
use Rattle.ckr_points_tables.proofs.Restarts.Pieces.{point-found, point-lost}
use Rattle.ckr_points_tables.proofs.rooms.passed_at_start.Goals as goal

pub returns-in-Some : goal.returns-in-Some
returns-in-Some c =
    let points = c.args.table.now.points.items in
    ap length c.as_slice-in-Some.ensures
    ∙ sym (ap (λ found. option_map_or length (option_map (λ (point : StartPoint). point.passed) found) 0) (point-found points c.as_slice.result.now c.as_slice.ensures c.step_now.result c.in-Some.point.now c.in-Some.ensures))
    ∙ ap (λ step. option_map_or length (passed_at_start (map point_of points) step) 0) c.step_now.ensures

pub returns-in-None : goal.returns-in-None
returns-in-None c =
    let points = c.args.table.now.points.items in
    sym (ap (λ found. option_map_or length (option_map (λ (point : StartPoint). point.passed) found) 0) (point-lost points c.as_slice.result.now c.as_slice.ensures c.step_now.result c.in-None.ensures))
    ∙ ap (λ step. option_map_or length (passed_at_start (map point_of points) step) 0) c.step_now.ensures
