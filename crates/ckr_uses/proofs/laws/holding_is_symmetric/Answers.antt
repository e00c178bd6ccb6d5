use Rattle.ckr_uses.proofs.Conflicts.{holds-symm}
use Rattle.ckr_uses.proofs.laws.holding_is_symmetric.Goals as goal

pub returns : goal.returns
returns c = holds-symm
