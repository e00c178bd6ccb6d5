use Rattle.ckr_match.proofs.AllUnits.{first_stands}
use Rattle.ckr_match.proofs.laws.first_state_stands_for_no_records.Goals as goal

pub returns : goal.returns
returns c = first_stands
