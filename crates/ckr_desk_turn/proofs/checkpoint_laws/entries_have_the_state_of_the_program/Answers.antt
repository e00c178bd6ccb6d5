use Rattle.ckr_desk_turn.proofs.Checkpoints.States.{state-so}
use Rattle.ckr_desk_turn.proofs.checkpoint_laws.entries_have_the_state_of_the_program.Goals as goal

pub returns : goal.returns
returns c = state-so
