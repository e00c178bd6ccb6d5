use Rattle.ckr_desk_refines.proofs.Durable.SharedSets.{shared-long, shared-read, shared-same}
use Rattle.ckr_desk_refines.proofs.shared_sets.shared_data_sets_do_not_grow.Goals as goal

pub returns-clause-read : goal.returns-clause-read
returns-clause-read c = shared-read

pub returns-clause-same : goal.returns-clause-same
returns-clause-same c = shared-same

pub returns-clause-long : goal.returns-clause-long
returns-clause-long c = shared-long
