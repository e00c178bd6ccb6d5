use Rattle.ckr_desk_refines.proofs.Events.Turns.{restarted-stands}
use Rattle.ckr_desk_refines.proofs.event_laws.desks_behind_restarts_stand.Goals as goal

pub returns : goal.returns
returns c = restarted-stands
