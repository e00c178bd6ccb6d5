use Rattle.ckr_desk_refines.proofs.Events.Turns.{told-stands, turn-waits}
use Rattle.ckr_desk_refines.proofs.event_laws.desks_behind_turns_that_tell_stand.Goals as goal

pub returns : goal.returns
returns c = record { told = told-stands; waits = turn-waits }
