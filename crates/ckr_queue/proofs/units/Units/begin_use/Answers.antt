use Rattle.ckr_queue.specs.Units.{UnitTable}
use Rattle.ckr_queue.proofs.UnitChanges.{units-more}
use Rattle.ckr_queue.proofs.units.Units.begin_use.Goals as goal

pub invariant_of-self : goal.invariant_of-self
invariant_of-self c =
    let inside = c.self.inside in
    let table : UnitTable = record { count = inside.count; carried = inside.carried; uses = inside.uses; pinned = inside.pinned } in
    units-more table c.args.self.now c.self.view_is c.self.invariant c.args.volumes.now c.with_more-uses.result c.requires.mounted c.with_more-uses.ensures
