use Rattle.ckr_programs.proofs.AllUnits.{same_rest}
use Rattle.ckr_programs.proofs.laws.same_states_have_the_same_rest.Goals as goal

pub returns : goal.returns
returns c = same_rest
