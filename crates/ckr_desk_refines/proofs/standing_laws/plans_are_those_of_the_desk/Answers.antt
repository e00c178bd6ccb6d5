use Rattle.ckr_desk_refines.proofs.Standing.Plans.{plans-so}
use Rattle.ckr_desk_refines.proofs.standing_laws.plans_are_those_of_the_desk.Goals as goal

pub returns : goal.returns
returns c = plans-so
