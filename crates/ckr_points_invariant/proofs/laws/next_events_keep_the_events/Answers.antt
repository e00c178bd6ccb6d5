use Rattle.ckr_points_invariant.proofs.SoundEvents.{kept-next}
use Rattle.ckr_points_invariant.proofs.laws.next_events_keep_the_events.Goals as goal

pub returns : goal.returns
returns c = kept-next
