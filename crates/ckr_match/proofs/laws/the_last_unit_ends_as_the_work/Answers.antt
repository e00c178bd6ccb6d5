use Rattle.ckr_match.proofs.AllUnits.{last_ends, others_go_on}
use Rattle.ckr_match.proofs.laws.the_last_unit_ends_as_the_work.Goals as goal

pub returns : goal.returns
returns c = record { end = last_ends; others = others_go_on }
