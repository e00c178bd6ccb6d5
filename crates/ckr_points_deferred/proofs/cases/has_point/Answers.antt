use Rattle.std.proofs.Common.{ap, sym}
use Rattle.std.specs.Option.{is_some}
use Rattle.ckr_points_tables.proofs.Restarts.Pieces.{point-found, point-lost}
use Rattle.ckr_points_deferred.proofs.cases.has_point.Goals as goal

pub returns-in-Some : goal.returns-in-Some
returns-in-Some c = sym (ap is_some (point-found c.args.run.now.table.now.points.items c.as_slice.result.now c.as_slice.ensures c.args.step _ c.in-Some.ensures))

pub returns-in-None : goal.returns-in-None
returns-in-None c = sym (ap is_some (point-lost c.args.run.now.table.now.points.items c.as_slice.result.now c.as_slice.ensures c.args.step c.in-None.ensures))
