use Rattle.ckr_uses.proofs.SharedNames.{shared-holds}
use Rattle.ckr_uses.proofs.laws.shared_names_do_not_hold.Goals as goal

pub returns : goal.returns
returns c = shared-holds
