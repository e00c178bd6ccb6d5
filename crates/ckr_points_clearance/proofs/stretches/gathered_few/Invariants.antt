use Rattle.std.proofs.Common.{◌≡◌, ◌++◌, drop}
use Rattle.ckr_points_clearance.specs.Stretches.{gathered}
use Rattle.ckr_points_clearance.proofs.stretches.gathered_few.Given as goal

abbrev pub invariant-loop-item : goal.invariant-loop-item
invariant-loop-item l = l.stretches.items ++ gathered l.number (drop l.item-index l.items) ≡ gathered l.number l.items
