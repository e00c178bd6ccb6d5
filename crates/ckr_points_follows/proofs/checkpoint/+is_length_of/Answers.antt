use Rattle.std.proofs.Common.{[], arith}
use Rattle.std.proofs.lemmas.Grind.{common_steps}
use Rattle.ckr_points_follows.proofs.checkpoint.+is_length_of.Goals as goal

pub returns-in-None : goal.returns-in-None
returns-in-None t c = grind (arith, common_steps, c.output_name.ensures [])

pub returns-in-empty-lengths : goal.returns-in-empty-lengths
returns-in-empty-lengths t c = grind (arith, common_steps, c.output_name.ensures [])

pub returns-then-is_same : goal.returns-then-is_same
returns-then-is_same t c = grind (arith, common_steps, c.output_name.ensures [], c.is_same.ensures, c.if-is_same.true)

pub returns-else-is_same : goal.returns-else-is_same
returns-else-is_same t c = grind (arith, common_steps, c.output_name.ensures [], c.is_same.ensures, c.if-is_same.false)
