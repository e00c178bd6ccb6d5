use Rattle.ckr_desk_memory.proofs.Holders.OwnSets.{running-served}
use Rattle.ckr_desk_memory.proofs.Holders.Rooms.{stored-fit, unit-fits}
use Rattle.ckr_desk_memory.proofs.Holders.RunningSteps.{running-stay}
use Rattle.ckr_desk_memory.proofs.Holders.Units.{running-unit}
use Rattle.ckr_desk_memory.proofs.holder_laws.running_steps_stay_theirs.Goals as goal

pub returns : goal.returns
returns c = record { event = running-stay; unit = running-unit; served = running-served; stored = stored-fit; fit = unit-fits }
