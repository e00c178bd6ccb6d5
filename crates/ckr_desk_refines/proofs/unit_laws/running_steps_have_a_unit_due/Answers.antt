use Rattle.ckr_desk_refines.proofs.Units.Turns.{due-so, there-so, within-so}
use Rattle.ckr_desk_refines.proofs.unit_laws.running_steps_have_a_unit_due.Goals as goal

pub returns-clause-due : goal.returns-clause-due
returns-clause-due c = due-so

pub returns-clause-there : goal.returns-clause-there
returns-clause-there c = there-so

pub returns-clause-within : goal.returns-clause-within
returns-clause-within c = within-so
