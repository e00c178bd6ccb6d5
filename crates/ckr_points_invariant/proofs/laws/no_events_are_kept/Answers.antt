use Rattle.ckr_points_invariant.proofs.EventLaws.{no_events}
use Rattle.ckr_points_invariant.proofs.laws.no_events_are_kept.Goals as goal

pub returns : goal.returns
returns c = no_events
