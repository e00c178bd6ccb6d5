use Rattle.ckr_points_invariant.proofs.EventLaws.{sound}
use Rattle.ckr_points_invariant.proofs.laws.kept_events_are_sound.Goals as goal

pub returns : goal.returns
returns c = sound
