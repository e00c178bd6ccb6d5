use Rattle.ckr_events.proofs.Events.{event_again}
use Rattle.ckr_events.proofs.laws.what_is_spelled_is_read.Goals as goal

pub returns : goal.returns
returns c = event_again
