use Rattle.ckr_events.proofs.Events.{event_takes}
use Rattle.ckr_events.proofs.laws.what_is_read_is_spelled.Goals as goal

pub returns : goal.returns
returns c = event_takes
