use Rattle.ckr_meaning.proofs.Remainders.{same_rest}
use Rattle.ckr_meaning.proofs.laws.same_states_have_the_same_rest.Goals as goal

pub returns : goal.returns
returns c = same_rest
