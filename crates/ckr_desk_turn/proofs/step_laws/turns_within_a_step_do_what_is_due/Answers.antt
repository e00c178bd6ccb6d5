use Rattle.ckr_desk_turn.proofs.Turns.Due.{plan-due}
use Rattle.ckr_desk_turn.proofs.step_laws.turns_within_a_step_do_what_is_due.Goals as goal

pub returns : goal.returns
returns c = plan-due
