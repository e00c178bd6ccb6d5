use Rattle.std.proofs.Common.{◌∙◌}
use Rattle.ckr_queue.proofs.MountChanges.{counted-stored, stored-need}
use Rattle.ckr_queue.proofs.mounts.Mounts.need.Goals as goal

pub returns-clause-need : goal.returns-clause-need
returns-clause-need c = c.need.ensures.need ∙ stored-need (counted-stored c.self.invariant c.self.view_is) c.args.volumes.now
