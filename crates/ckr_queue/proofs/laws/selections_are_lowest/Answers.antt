use Rattle.ckr_queue.proofs.Select.{selection-lowest}
use Rattle.ckr_queue.proofs.laws.selections_are_lowest.Goals as goal

pub returns : goal.returns
returns c = selection-lowest
