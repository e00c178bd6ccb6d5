use Rattle.std.proofs.Common.{arith, subst}
use Rattle.ckr_points_tables.specs.Rooms.{FitsPoint}
use Rattle.ckr_points_tables.proofs.rooms.reserve_start.Goals as goal

pub returns-clause-ok : goal.returns-clause-ok
returns-clause-ok c = record {
  room = subst (λ passed. FitsPoint c.args.run c.args.table.now.job passed c.reserve_point.new.spare) c.as_slice.ensures c.in_ok-reserve_point.ensures.ok;
  points = omega (arith, c.in_ok-reserve.ensures.ok);
  sets = c.in_ok-reserve-2.ensures.ok;
}
