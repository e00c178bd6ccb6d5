use Rattle.ckr_desk_turn.proofs.Turns.Initiator.{completed-keeps, free_plan-keeps, refused-keeps}
use Rattle.ckr_desk_turn.proofs.turn_laws.desks_behind_turns_between_steps.Goals as goal

pub returns : goal.returns
returns c = record {
  selected = λ desk i fail answer is above below free. free_plan-keeps answer desk is i above below free fail;
  completed = λ desk i row answer is found out none. completed-keeps answer desk is i row found out none;
  refused = λ desk i row owned refusal answer is found out there failed. refused-keeps answer desk is i row found out owned refusal there failed;
}
