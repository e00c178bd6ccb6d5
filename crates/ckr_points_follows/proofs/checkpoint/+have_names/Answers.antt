use Rattle.std.proofs.Common.{[], arith}
use Rattle.std.proofs.lemmas.Grind.{common_steps}
use Rattle.ckr_points_follows.proofs.checkpoint.+have_names.Goals as goal

pub returns-in-None : goal.returns-in-None
returns-in-None t c = grind (arith, common_steps, c.output_name.ensures [])

pub returns-in-Some : goal.returns-in-Some
returns-in-Some t c = grind (arith, common_steps, c.output_name.ensures [], c.has_text.ensures)
