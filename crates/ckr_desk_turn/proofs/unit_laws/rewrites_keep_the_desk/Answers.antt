use Rattle.ckr_desk_turn.proofs.Turns.Units.{work-rewrote}
use Rattle.ckr_desk_turn.proofs.unit_laws.rewrites_keep_the_desk.Goals as goal

pub returns : goal.returns
returns c = λ answer desk on going at is known opened below fit first. work-rewrote answer desk is on going known at opened below fit first
