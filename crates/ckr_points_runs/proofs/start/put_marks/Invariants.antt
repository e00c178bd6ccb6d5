use Rattle.std.proofs.Common.{◌≡◌, ◌≤◌, ◌++◌, length, take, drop}
use Rattle.ckr_points_runs.proofs.start.put_marks.Given as goal

abbrev pub invariant-loop-mark : goal.invariant-loop-mark
invariant-loop-mark l = record {
  items : l.marks.items ≡ l.initial.marks.items ++ take l.mark-index l.items;
  room : length (drop l.mark-index l.items) ≤ l.marks.room;
}
