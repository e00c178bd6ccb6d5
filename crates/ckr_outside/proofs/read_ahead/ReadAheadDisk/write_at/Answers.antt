use Rattle.ckr_outside.proofs.Blocks.{block_beside}
use Rattle.ckr_outside.proofs.read_ahead.ReadAheadDisk.write_at.Goals as goal

pub invariant_of-self : goal.invariant_of-self
invariant_of-self g c =
    rw c.write_at.ensures.size (rw c.give_up.ensures.bytes (rw c.give_up.ensures.base
    (block_beside _ _ _ _ _ _ _ _ _ _ _ _ c.self.invariant c.give_up.ensures.from c.give_up.ensures.to c.give_up.ensures.apart c.write_at.ensures.changes.reads)))
