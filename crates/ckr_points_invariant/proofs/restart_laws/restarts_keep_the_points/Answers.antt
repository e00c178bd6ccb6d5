use Rattle.ckr_points_invariant.proofs.Restart.Event.{entry-pointed, start-pointed}
use Rattle.ckr_points_invariant.proofs.restart_laws.restarts_keep_the_points.Goals as goal

pub returns : goal.returns
returns c = record { step = start-pointed; checkpoint = entry-pointed }
