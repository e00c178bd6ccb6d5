use Rattle.ckr_desk_turn.proofs.NextEvents.BetweenSteps.{submitted_comes, purged_comes, released_comes}
use Rattle.ckr_desk_turn.proofs.event_laws.events_of_calls_may_come.Goals as goal

pub returns-clause-submitted : goal.returns-clause-submitted
returns-clause-submitted c = submitted_comes

pub returns-clause-purged : goal.returns-clause-purged
returns-clause-purged c = purged_comes

pub returns-clause-released : goal.returns-clause-released
returns-clause-released c = released_comes
