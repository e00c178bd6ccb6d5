use Rattle.ckr_desk_turn.proofs.Turns.Operator.{held-rests, refused-rests, restarted-rests, unasked-same, waits-rests}
use Rattle.ckr_desk_turn.proofs.restart_laws.turns_rest_on_the_operators_answer.Goals as goal

pub returns : goal.returns
returns c = record {
  restarted = λ desk one answer job initiator code checkpoint. restarted-rests desk one answer job initiator code checkpoint;
  held = λ desk one answer job writes code lengths. held-rests desk one answer job writes code lengths;
  refused = λ desk one answer job writes code lengths is above below. refused-rests desk one answer is job writes code lengths;
  waits = λ desk one answer. waits-rests desk one answer;
  unasked = λ desk one answer other. unasked-same desk one answer other;
}
