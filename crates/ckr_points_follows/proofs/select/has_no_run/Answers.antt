use Rattle.ckr_points_follows.proofs.Selects.Initiators.{no-run-by}
use Rattle.ckr_points_follows.proofs.select.has_no_run.Goals as goal

pub returns : goal.returns
returns c = no-run-by c.args.tables.now.desk c.args.initiator c.on_initiator.result c.is_none.result c.is_none.ensures c.on_initiator.ensures
