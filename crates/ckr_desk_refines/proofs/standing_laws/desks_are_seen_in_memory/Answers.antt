use Rattle.ckr_desk_refines.proofs.Standing.DeskView.{desk-so}
use Rattle.ckr_desk_refines.proofs.standing_laws.desks_are_seen_in_memory.Goals as goal

pub returns : goal.returns
returns c = desk-so
