use Rattle.ckr_queue.proofs.Assignments.{given-unit}
use Rattle.ckr_queue.proofs.laws.pinned_volume_gets_unit.Goals as goal

pub returns : goal.returns
returns c = λ t volumes volume units fit among. given-unit t units volumes fit volume among
