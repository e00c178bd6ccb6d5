use Rattle.ckr_desk_refines.proofs.Events.Turns.{purged-stands, release-stands, submitted-stands}
use Rattle.ckr_desk_refines.proofs.event_laws.desks_behind_calls_stand.Goals as goal

pub returns : goal.returns
returns c = record { submitted = submitted-stands; purged = purged-stands; released = release-stands }
