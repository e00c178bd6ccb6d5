use Rattle.std.proofs.Common.{sym, ◌∙◌}
use Rattle.ckr_points_runs.proofs.PutBack.{cut-back-fits, cut-back-short}
use Rattle.ckr_points_runs.proofs.put_back.cut_back.Goals as goal

pub set_length-requires : goal.set_length-requires
set_length-requires c = cut-back-fits c.args.most c.args.name.now c.args.library.now.sets c.requires.filled (sym c.is_as_long.ensures.value ∙ c.if-is_as_long.true)

pub returns-else-is_as_long : goal.returns-else-is_as_long
returns-else-is_as_long c = cut-back-short c.args.most c.args.name.now c.args.library.now.sets c.is_as_long.ensures.order (sym c.is_as_long.ensures.value ∙ c.if-is_as_long.false)
