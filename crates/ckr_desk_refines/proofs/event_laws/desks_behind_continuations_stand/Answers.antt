use Rattle.ckr_desk_refines.proofs.Events.Continuation.{continued-stands}
use Rattle.ckr_desk_refines.proofs.event_laws.desks_behind_continuations_stand.Goals as goal

pub returns : goal.returns
returns c = continued-stands
