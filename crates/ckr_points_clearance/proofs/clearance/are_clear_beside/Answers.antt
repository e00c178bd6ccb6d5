use Rattle.std.proofs.Common.{sym, ◌∙◌}
use Rattle.ckr_points_clearance.proofs.Starts.DdOrder.{beside-next}
use Rattle.ckr_points_clearance.proofs.clearance.are_clear_beside.Goals as goal

pub loop-place-preserved : goal.loop-place-preserved
loop-place-preserved c =
    beside-next c.args.layout.now c.args.items.now c.args.tables.now.desk.sets c.args.placed.now c.loop-place.place c.index-placed-place.result c.loop-place-test.true c.index-placed-place.is
    (sym c.is_clear_beside.ensures ∙ c.if-not-is_clear_beside.false)
    ∙ c.loop-place.invariant
