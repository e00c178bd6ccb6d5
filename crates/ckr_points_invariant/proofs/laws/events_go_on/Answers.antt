use Rattle.ckr_points_invariant.proofs.EventList.{office-more, sound-front, sound-more}
use Rattle.ckr_points_invariant.proofs.laws.events_go_on.Goals as goal

pub returns : goal.returns
returns c = record { office = office-more; sound = sound-more; front = sound-front }
