use Rattle.ckr_desk_refines.proofs.Events.Deny.{denied-stands}
use Rattle.ckr_desk_refines.proofs.event_laws.desks_behind_denials_stand.Goals as goal

pub returns : goal.returns
returns c = denied-stands
