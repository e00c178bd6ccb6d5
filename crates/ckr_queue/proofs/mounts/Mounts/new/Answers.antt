use Rattle.std.proofs.Common.{None, replicate, subst, sym}
use Rattle.ckr_queue.specs.Mounts.{IsCounted}
use Rattle.ckr_queue.specs.Units.{UnitTable}
use Rattle.ckr_queue.proofs.MountChanges.{stored-empty}
use Rattle.ckr_queue.proofs.mounts.Mounts.new.Goals as goal

pub invariant_of-result : goal.invariant_of-result
invariant_of-result c = subst (λ (units : UnitTable). IsCounted units (replicate 8 None)) (sym c.new.ensures) (stored-empty c.args.count c.requires)
