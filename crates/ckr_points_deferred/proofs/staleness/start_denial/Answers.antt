use Rattle.std.proofs.Common.{◌≡◌, ap, sym, ◌∙◌, true, None, Some}
use Rattle.std.specs.Option.{option_map_or}
use Rattle.ckr_points.specs.Freshness.{fresh}
use Rattle.ckr_points.specs.Marks.{point_at, sysout_names}
use Rattle.ckr_points.specs.Needed.{needed_at}
use Rattle.ckr_points.specs.Restart.{needed_names, spliced, without_names}
use Rattle.ckr_points.specs.Rows.{StartPoint}
use Rattle.ckr_points_tables.specs.RunJobs.{own_of}
use Rattle.ckr_points_tables.specs.View.{point_of}
use Rattle.ckr_points_tables.proofs.Restarts.Pieces.{point-found, point-lost}
use Rattle.ckr_points_deferred.specs.Runs.{row_now}
use Rattle.ckr_points_deferred.proofs.staleness.start_denial.Goals as goal

pub returns-in_default : goal.returns-in_default
returns-in_default c =
    let row = row_now c.args.run.now in
    let own = own_of c.args.own.now in
    let sets = c.args.tables.now.desk.sets in
    let job = spliced (row_now c.args.earlier.now).job c.args.number row.number row.deck in
    let lost : point_at (row_now c.args.earlier.now).points c.args.number ≡ None = point-lost c.args.earlier.now.table.now.points.items c.as_slice.result.now c.as_slice.ensures c.args.number c.in_default.ensures in
    sym (ap (λ found. option_map_or (λ (point : StartPoint). fresh job.root own point.marks (without_names (sysout_names job.root own) (needed_names job c.args.number point.marks)) sets) found None) lost)

pub returns : goal.returns
returns c =
    let row = row_now c.args.run.now in
    let own = own_of c.args.own.now in
    let sets = c.args.tables.now.desk.sets in
    let job = spliced (row_now c.args.earlier.now).job c.args.number row.number row.deck in
    let point = c.in-Some.point.now in
    let found : point_at (row_now c.args.earlier.now).points c.args.number ≡ Some (point_of point) = point-found c.args.earlier.now.table.now.points.items c.as_slice.result.now c.as_slice.ensures c.args.number point c.in-Some.ensures in
    c.fresh.ensures.fresh job c.args.number own row.deck sets c.needed_at-needed.ensures.needed c.library.ensures.sets
    ∙ ap (λ b. fresh job.root own c.as_slice-2.result.now (needed_at b job c.args.number own c.as_slice-2.result.now) sets) c.needed_at-needed.ensures.at_start
    ∙ ap (λ marks. fresh job.root own marks (needed_at true job c.args.number own marks) sets) c.as_slice-2.ensures
    ∙ sym (ap (λ found. option_map_or (λ (point : StartPoint). fresh job.root own point.marks (without_names (sysout_names job.root own) (needed_names job c.args.number point.marks)) sets) found None) found)
