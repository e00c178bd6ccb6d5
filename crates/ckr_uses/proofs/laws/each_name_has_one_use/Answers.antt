use Rattle.ckr_uses.proofs.MergedUses.{merged-is}
use Rattle.ckr_uses.proofs.laws.each_name_has_one_use.Goals as goal

pub returns : goal.returns
returns c = merged-is
