use Rattle.ckr_desk_turn.proofs.Turns.WithinStep.{step-keeps}
use Rattle.ckr_desk_turn.proofs.step_laws.turns_within_a_step_keep_the_desk.Goals as goal

pub returns : goal.returns
returns c = λ desk row number committed start fail answer is within. step-keeps desk is row number committed start within answer fail
