use Rattle.ckr_desk_memory.proofs.Holders.LeftRuns.{left-alike}
use Rattle.ckr_desk_memory.proofs.Holders.OwnSteps.{own-alike, own-opened}
use Rattle.ckr_desk_memory.proofs.holder_laws.jobs_hold_their_own.Goals as goal

pub returns : goal.returns
returns c = record { none = own-opened; alike = own-alike; left = left-alike }
