use Rattle.ckr_desk_refines.proofs.Events.Continuation.{continued-committed}
use Rattle.ckr_desk_refines.proofs.Events.Deny.{denied-committed}
use Rattle.ckr_desk_refines.proofs.Events.Turns.{code-committed, hold-committed, purged-committed, released-committed, restart-committed, submitted-committed, told-committed}
use Rattle.ckr_desk_refines.proofs.event_laws.events_are_committed.Goals as goal

pub returns : goal.returns
returns c = record {
  told = told-committed;
  submitted = submitted-committed;
  purged = purged-committed;
  released = released-committed;
  held = hold-committed;
  coded = code-committed;
  restarted = restart-committed;
  denied = denied-committed;
  continued = continued-committed;
}
