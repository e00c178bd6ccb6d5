use Rattle.ckr_queue.proofs.UnitChanges.{units-empty}
use Rattle.ckr_queue.proofs.units.Units.new.Goals as goal

pub invariant_of-result : goal.invariant_of-result
invariant_of-result c = units-empty c.args.count c.requires
