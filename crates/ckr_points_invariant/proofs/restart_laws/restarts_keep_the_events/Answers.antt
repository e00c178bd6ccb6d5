use Rattle.ckr_points_invariant.proofs.Restart.Event.{entry-keeps, start-keeps}
use Rattle.ckr_points_invariant.proofs.restart_laws.restarts_keep_the_events.Goals as goal

pub returns : goal.returns
returns c = record { step = start-keeps; checkpoint = entry-keeps }
