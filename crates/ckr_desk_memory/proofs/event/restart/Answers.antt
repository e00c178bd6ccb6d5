use Rattle.std.proofs.Common.{map, ap, ◌∙◌}
use Rattle.ckr_desk_memory.specs.Parts.{step_seen}
use Rattle.ckr_desk_memory.proofs.Invariant.{seen-without}
use Rattle.ckr_desk_memory.proofs.event.restart.Goals as goal

pub returns-else-checkpoint-clause-start : goal.returns-else-checkpoint-clause-start
returns-else-checkpoint-clause-start c = λ is. ap (map step_seen) c.leave.ensures.items ∙ seen-without c.args.job c.args.running.now.items
