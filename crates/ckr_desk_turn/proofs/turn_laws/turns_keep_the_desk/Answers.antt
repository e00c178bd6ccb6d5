use Rattle.ckr_desk_turn.proofs.Turns.Initiator.{turn-keeps}
use Rattle.ckr_desk_turn.proofs.turn_laws.turns_keep_the_desk.Goals as goal

pub returns : goal.returns
returns c = λ desk one answer is its. turn-keeps desk one answer is its.above its.below
