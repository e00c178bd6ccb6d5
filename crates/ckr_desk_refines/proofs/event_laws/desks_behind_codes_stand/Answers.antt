use Rattle.ckr_desk_refines.proofs.Events.Turns.{code-stands}
use Rattle.ckr_desk_refines.proofs.event_laws.desks_behind_codes_stand.Goals as goal

pub returns : goal.returns
returns c = code-stands
