use Rattle.ckr_meaning.proofs.Walks.{walked-append}
use Rattle.ckr_meaning.proofs.laws.walks_go_on.Goals as goal

pub returns : goal.returns
returns c = walked-append
