use Rattle.ckr_points_invariant.proofs.Counts.Events.{sound-counted}
use Rattle.ckr_points_invariant.proofs.laws.entries_are_counted.Goals as goal

pub returns : goal.returns
returns c = sound-counted
