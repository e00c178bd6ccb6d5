use Rattle.ckr_uses.proofs.Conflicts.{holds-merged}
use Rattle.ckr_uses.proofs.laws.one_use_for_each_name_holds_as_all.Goals as goal

pub returns : goal.returns
returns c = holds-merged
