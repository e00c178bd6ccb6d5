use Rattle.ckr_uses.proofs.RunNames.{run_name-same}
use Rattle.ckr_uses.proofs.laws.names_tell_runs_apart.Goals as goal

pub returns : goal.returns
returns c = run_name-same
