use Rattle.ckr_desk_turn.proofs.Checkpoints.Plans.{names-step, plan-taken, turn-taken}
use Rattle.ckr_desk_turn.proofs.checkpoint_laws.checkpoints_that_are_due_are_taken.Goals as goal

pub returns : goal.returns
returns c = record { turn = turn-taken; planned = λ desk on going answer is. plan-taken desk on going is answer; named = names-step }
