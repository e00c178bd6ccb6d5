use Rattle.ckr_desk_refines.proofs.Units.AnyReply.{told-unit}
use Rattle.ckr_desk_refines.proofs.unit_laws.turns_that_work_tell_what_the_unit_came_to.Goals as goal

pub returns : goal.returns
returns c = told-unit
