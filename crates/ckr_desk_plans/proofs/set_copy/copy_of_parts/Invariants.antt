use Rattle.std.proofs.Common.{◌≡◌, take}
use Rattle.ckr_desk_plans.proofs.set_copy.copy_of_parts.Given as goal

abbrev pub invariant-loop-part : goal.invariant-loop-part
invariant-loop-part l = l.copy.items ≡ take l.part-index l.parts
