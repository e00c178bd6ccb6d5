use Rattle.ckr_queue.specs.Units.{UnitTable}
use Rattle.ckr_queue.proofs.UnitChanges.{units-fewer}
use Rattle.ckr_queue.proofs.units.Units.end_use.Goals as goal

pub invariant_of-self : goal.invariant_of-self
invariant_of-self c =
    let inside = c.self.inside in
    let table : UnitTable = record { count = inside.count; carried = inside.carried; uses = inside.uses; pinned = inside.pinned } in
    units-fewer table c.args.self.now c.self.view_is c.self.invariant c.args.volumes.now c.with_fewer-uses.result c.with_fewer-uses.ensures
