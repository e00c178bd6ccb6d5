use Rattle.ckr_desk_memory.proofs.Holders.OwnEvents.{left-follows, left-held, own-committed, own-follows}
use Rattle.ckr_desk_memory.proofs.Holders.OwnUnits.{others-commit}
use Rattle.ckr_desk_memory.proofs.Holders.Rewrites.{nothing-before}
use Rattle.ckr_desk_memory.proofs.holder_laws.own_events_follow.Goals as goal

pub returns : goal.returns
returns c = record { follows = own-follows; commits = own-committed; others = others-commit; left = left-follows; held = left-held; before = nothing-before }
