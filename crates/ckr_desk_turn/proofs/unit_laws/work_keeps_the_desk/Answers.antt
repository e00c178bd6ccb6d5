use Rattle.ckr_desk_turn.proofs.Units.AnyUnit.{work-keeps}
use Rattle.ckr_desk_turn.proofs.unit_laws.work_keeps_the_desk.Goals as goal

pub returns : goal.returns
returns c = λ answer desk run progress is known unclosed. work-keeps answer desk is run progress known unclosed
