use Rattle.ckr_desk_refines.proofs.Events.Turns.{held-stands}
use Rattle.ckr_desk_refines.proofs.event_laws.desks_behind_holds_stand.Goals as goal

pub returns : goal.returns
returns c = held-stands
