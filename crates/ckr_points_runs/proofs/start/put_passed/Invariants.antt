use Rattle.std.proofs.Common.{◌≡◌, ◌≤◌, ◌++◌, length, take, drop}
use Rattle.ckr_points_runs.proofs.start.put_passed.Given as goal

abbrev pub invariant-loop-one : goal.invariant-loop-one
invariant-loop-one l = record {
  items : l.passed.items ≡ l.initial.passed.items ++ take l.one-index l.items;
  room : length (drop l.one-index l.items) ≤ l.passed.room;
}
