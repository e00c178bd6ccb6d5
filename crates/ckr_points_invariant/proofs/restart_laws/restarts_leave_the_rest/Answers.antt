use Rattle.ckr_points_invariant.proofs.Restart.Event.{entry-leaves, start-leaves}
use Rattle.ckr_points_invariant.proofs.restart_laws.restarts_leave_the_rest.Goals as goal

pub returns : goal.returns
returns c = record { step = start-leaves; checkpoint = entry-leaves }
