use Rattle.ckr_desk_refines.proofs.Durable.Continuation.{continued-stays}
use Rattle.ckr_desk_refines.proofs.Durable.Events.{completed-stays, quiet-stays, refused-stays}
use Rattle.ckr_desk_refines.proofs.Durable.Restart.{restarted-stays}
use Rattle.ckr_desk_refines.proofs.Durable.Start.{selected-stays, started-stays}
use Rattle.ckr_desk_refines.proofs.durable_laws.events_leave_what_is_committed.Goals as goal

pub returns-clause-quiet : goal.returns-clause-quiet
returns-clause-quiet c = quiet-stays

pub returns-clause-selected : goal.returns-clause-selected
returns-clause-selected c = selected-stays

pub returns-clause-continued : goal.returns-clause-continued
returns-clause-continued c = continued-stays

pub returns-clause-started : goal.returns-clause-started
returns-clause-started c = started-stays

pub returns-clause-restarted : goal.returns-clause-restarted
returns-clause-restarted c = restarted-stays

pub returns-clause-completed : goal.returns-clause-completed
returns-clause-completed c = completed-stays

pub returns-clause-refused : goal.returns-clause-refused
returns-clause-refused c = refused-stays
