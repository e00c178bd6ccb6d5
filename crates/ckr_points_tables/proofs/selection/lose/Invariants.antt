use Rattle.std.proofs.Common.{◌≡◌, ◌≤◌, ◌+◌, length, take, drop, vec_len, vec_capacity}
use Rattle.ckr_points_tables.specs.Selection.{lost_by}
use Rattle.ckr_points_tables.proofs.selection.lose.Given as goal

abbrev pub invariant-loop-one : goal.invariant-loop-one
invariant-loop-one l = record {
  items : l.lost.items ≡ lost_by l.run l.job l.marks (take l.one-index l.passed) l.library.sets;
  room : vec_len l.lost + length (drop l.one-index l.passed) ≤ vec_capacity l.lost;
}
