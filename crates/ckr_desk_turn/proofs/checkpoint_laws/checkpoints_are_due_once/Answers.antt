use Rattle.ckr_desk_turn.proofs.Checkpoints.Due.{checkpoint-due, checkpoint-once, checkpoint-only}
use Rattle.ckr_desk_turn.proofs.checkpoint_laws.checkpoints_are_due_once.Goals as goal

pub returns : goal.returns
returns c = record { due = checkpoint-due; only = λ start progress e. (checkpoint-only start progress e).count; once = checkpoint-once }
