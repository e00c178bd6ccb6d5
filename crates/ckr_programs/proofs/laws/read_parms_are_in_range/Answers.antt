use Rattle.ckr_programs.proofs.Ranges.{read_parm_ranges}
use Rattle.ckr_programs.proofs.laws.read_parms_are_in_range.Goals as goal

pub returns : goal.returns
returns c = read_parm_ranges
