use Rattle.std.proofs.Common.{◌≡◌, ◌++◌, take, drop}
use Rattle.ckr_jcl_faults.specs.Faults.{known_front}
use Rattle.ckr_jcl_faults.proofs.operand_faults.known_length.Given as goal

abbrev pub invariant-loop-operand : goal.invariant-loop-operand
invariant-loop-operand l = (l.count ≡ l.operand-index) × (known_front l.kind l.first_room l.operands ≡ take l.operand-index l.operands ++ known_front l.kind l.room (drop l.operand-index l.operands))
