use Rattle.std.proofs.Common.{◌≡◌, drop}
use Rattle.ckr_jcl_faults.specs.Faults.{unknown_from}
use Rattle.ckr_jcl_operands.specs.Keywords.{positional_room}
use Rattle.ckr_jcl_faults.proofs.operand_faults.unknown_operand.Given as goal

abbrev pub invariant-loop-operand : goal.invariant-loop-operand
invariant-loop-operand l = unknown_from l.statement.kind (positional_room l.statement.kind) l.statement.operands ≡ unknown_from l.statement.kind l.room (drop l.operand-index l.statement.operands)
