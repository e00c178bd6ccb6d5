use Rattle.ckr_match.proofs.AllUnits.{same_rest}
use Rattle.ckr_match.proofs.laws.same_states_have_the_same_rest.Goals as goal

pub returns : goal.returns
returns c = same_rest
