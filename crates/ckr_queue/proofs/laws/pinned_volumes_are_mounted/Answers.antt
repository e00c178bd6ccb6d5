use Rattle.ckr_queue.proofs.Assignments.{all-mounted}
use Rattle.ckr_queue.proofs.laws.pinned_volumes_are_mounted.Goals as goal

pub returns : goal.returns
returns c = all-mounted
