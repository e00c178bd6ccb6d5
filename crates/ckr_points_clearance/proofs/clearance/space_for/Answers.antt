use Rattle.std.proofs.Common.{arith}
use Rattle.ckr_points_clearance.proofs.Starts.Stretches.{few-times}
use Rattle.ckr_points_clearance.proofs.clearance.space_for.Goals as goal

pub overflow_mul-result : goal.overflow_mul-result
overflow_mul-result c = omega (arith, few-times c.from.result c.parts_for.result c.parts_for.ensures.few)
