use Rattle.ckr_meaning.proofs.Units.{write_all, write_the_rest, end_as_the_work}
use Rattle.ckr_meaning.proofs.laws.units_write_the_work.Goals as goal

pub returns : goal.returns
returns c = record { all = write_all; rest = write_the_rest; end = end_as_the_work }
