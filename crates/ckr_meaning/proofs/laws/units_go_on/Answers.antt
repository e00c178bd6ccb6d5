use Rattle.std.proofs.Common.{refl}
use Rattle.ckr_meaning.specs.Program.{records_taken}
use Rattle.ckr_meaning.proofs.Prefixes.{takes_one, ends_work, work_in_parts}
use Rattle.ckr_meaning.proofs.laws.units_go_on.Goals as goal

pub returns-clause-work : goal.returns-clause-work
returns-clause-work c = work_in_parts

pub returns-clause-more : goal.returns-clause-more
returns-clause-more c = λ case taken within. (takes_one case taken within).more

pub returns-clause-all : goal.returns-clause-all
returns-clause-all c = λ case. (ends_work case (records_taken case) refl).all
