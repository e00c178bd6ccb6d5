use Rattle.ckr_desk_turn.proofs.Queue.Select.{selection_is_next}
use Rattle.ckr_desk_turn.proofs.queue_law.the_queue_selects_the_next_run.Goals as goal

pub returns : goal.returns
returns c = selection_is_next
