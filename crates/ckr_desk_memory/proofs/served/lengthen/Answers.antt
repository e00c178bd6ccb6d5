use Rattle.std.proofs.Common.{arith}
use Rattle.ckr_desk_memory.proofs.served.lengthen.Goals as goal

pub overflow_cast-length : goal.overflow_cast-length
overflow_cast-length c = omega (arith, c.if-length-from.true, c.from.ensures, c.space_of-space.type_inv)
