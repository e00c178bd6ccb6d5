use Rattle.ckr_desk_turn.proofs.NextEvents.BetweenSteps.{selected_comes, completed_comes, refused_comes}
use Rattle.ckr_desk_turn.proofs.event_laws.events_between_steps_may_come.Goals as goal

pub returns-clause-selected : goal.returns-clause-selected
returns-clause-selected c = selected_comes

pub returns-clause-completed : goal.returns-clause-completed
returns-clause-completed c = completed_comes

pub returns-clause-refused : goal.returns-clause-refused
returns-clause-refused c = refused_comes
