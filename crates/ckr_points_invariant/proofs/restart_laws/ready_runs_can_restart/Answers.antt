use Rattle.ckr_points_invariant.proofs.Readiness.Office.{entries-restorable, steps-restorable}
use Rattle.ckr_points_invariant.proofs.restart_laws.ready_runs_can_restart.Goals as goal

pub returns : goal.returns
returns c = record { step = steps-restorable; checkpoint = entries-restorable }
