use Rattle.ckr_match.proofs.AllUnits.{units_write_all}
use Rattle.ckr_match.proofs.laws.units_write_the_work.Goals as goal

pub returns : goal.returns
returns c = units_write_all
