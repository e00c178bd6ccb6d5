use Rattle.ckr_points_invariant.proofs.Restart.Event.{entry-stands, start-stands}
use Rattle.ckr_points_invariant.proofs.restart_laws.restarts_go_back.Goals as goal

pub returns : goal.returns
returns c = record { step = start-stands; checkpoint = entry-stands }
