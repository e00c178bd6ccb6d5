use Rattle.ckr_meaning.proofs.FittingWrites.{fitting-append}
use Rattle.ckr_meaning.proofs.laws.more_writes_fit_behind_the_first.Goals as goal

pub returns : goal.returns
returns c = fitting-append
