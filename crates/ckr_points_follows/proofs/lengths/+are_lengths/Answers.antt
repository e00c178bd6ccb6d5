use Rattle.std.proofs.Common.{[], arith}
use Rattle.std.proofs.lemmas.Grind.{common_steps}
use Rattle.ckr_points_follows.proofs.lengths.+are_lengths.Goals as goal

pub returns-in-None : goal.returns-in-None
returns-in-None t c = grind (arith, common_steps, c.output_name.ensures [])

pub returns-in-empty-lengths : goal.returns-in-empty-lengths
returns-in-empty-lengths t c = grind (arith, common_steps, c.output_name.ensures [])

pub returns-then-fits : goal.returns-then-fits
returns-then-fits t c = grind (arith, common_steps, c.output_name.ensures [])

pub returns-else-fits : goal.returns-else-fits
returns-else-fits t c = grind (arith, common_steps, c.output_name.ensures [])
