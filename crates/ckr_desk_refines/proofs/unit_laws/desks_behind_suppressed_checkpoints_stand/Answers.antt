use Rattle.ckr_desk_refines.proofs.Units.Checkpoints.{passed-stands}
use Rattle.ckr_desk_refines.proofs.unit_laws.desks_behind_suppressed_checkpoints_stand.Goals as goal

pub returns : goal.returns
returns c = λ layout old new image desk turn run reply stands its planned passed. passed-stands layout old new image desk turn run reply stands planned its passed
