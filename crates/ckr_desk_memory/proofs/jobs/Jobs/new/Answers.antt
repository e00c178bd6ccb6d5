use Rattle.std.proofs.Common.{map, ap}
use Rattle.ckr_desk_memory.specs.Parts.{step_seen}
use Rattle.ckr_desk_memory.proofs.Holders.OwnSteps.{own-none}
use Rattle.ckr_desk_memory.proofs.jobs.Jobs.new.Goals as goal

pub returns-clause-own : goal.returns-clause-own
returns-clause-own c = own-none _ c.new.ensures (ap (map step_seen) c.new-3.ensures.items)
