use Rattle.std.proofs.Common.{◌≡◌, ◌+◌, ◌*◌, ◌≤◌, ◌++◌, length, drop}
use Rattle.ckr_points_clearance.specs.Stretches.{gathered}
use Rattle.ckr_points_clearance.proofs.stretches.gathered.Given as goal

abbrev pub invariant-loop-item : goal.invariant-loop-item
invariant-loop-item l = record {
  all : l.stretches.items ++ gathered l.number (drop l.item-index l.items) ≡ gathered l.number l.items;
  few : length l.stretches.items + 5 * length (drop l.item-index l.items) ≤ 400;
}
