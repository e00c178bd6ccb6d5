use Rattle.std.proofs.Common.{◌≡◌, [], take, drop}
use Rattle.ckr_jcl_faults.specs.Faults.{clash_from}
use Rattle.ckr_jcl_faults.proofs.operand_faults.clash_in.Given as goal

abbrev pub invariant-loop-operand : goal.invariant-loop-operand
invariant-loop-operand l = (l.count ≡ l.operand-index) × (clash_from [] l.operands ≡ clash_from (take l.operand-index l.operands) (drop l.operand-index l.operands))
