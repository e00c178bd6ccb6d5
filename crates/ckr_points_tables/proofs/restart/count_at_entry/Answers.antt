use Rattle.std.proofs.Common.{ap, arith}
use Rattle.std.specs.Option.{option_map}
use Rattle.ckr_points_runs.specs.View.{effect_of}
use Rattle.ckr_points_tables.proofs.restart.count_at_entry.Goals as goal

pub overflow_add-effect : goal.overflow_add-effect
overflow_add-effect c = let few = c.requires.few (effect_of c.in-Some.effect) (ap (option_map effect_of) c.in-Some.is) in omega (arith, few)
