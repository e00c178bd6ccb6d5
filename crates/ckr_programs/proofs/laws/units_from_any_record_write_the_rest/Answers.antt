use Rattle.ckr_programs.proofs.AllUnits.{units_write_the_rest}
use Rattle.ckr_programs.proofs.laws.units_from_any_record_write_the_rest.Goals as goal

pub returns : goal.returns
returns c = units_write_the_rest
