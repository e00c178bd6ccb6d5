use Rattle.ckr_uses.proofs.SharedNames.{holds-names}
use Rattle.ckr_uses.proofs.laws.holding_is_at_a_name.Goals as goal

pub returns : goal.returns
returns c = holds-names
