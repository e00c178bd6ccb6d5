use Rattle.ckr_desk_turn.proofs.Turns.Initiator.{between-keeps, started-keeps}
use Rattle.ckr_desk_turn.proofs.turn_laws.desks_behind_steps_that_start.Goals as goal

pub returns : goal.returns
returns c = record {
  started = λ desk i row owned items answer is found out there got. started-keeps answer desk is i row found out owned items there got;
  between = λ desk i row fail answer is found out. between-keeps answer desk is i row found out fail;
}
