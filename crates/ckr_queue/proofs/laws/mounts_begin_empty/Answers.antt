use Rattle.ckr_queue.proofs.MountChanges.{sound-empty}
use Rattle.ckr_queue.proofs.laws.mounts_begin_empty.Goals as goal

pub returns : goal.returns
returns c = sound-empty
