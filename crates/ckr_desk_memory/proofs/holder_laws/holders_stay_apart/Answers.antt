use Rattle.ckr_desk_memory.proofs.Holders.Events.{holders-none, holders-stay}
use Rattle.ckr_desk_memory.proofs.holder_laws.holders_stay_apart.Goals as goal

pub returns : goal.returns
returns c = record { none = holders-none; kept = holders-stay }
