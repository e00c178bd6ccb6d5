use Rattle.std.proofs.Common.{◌≡◌, ◌+◌, ◌≤◌, ◌++◌, length, drop}
use Rattle.std.specs.List.{AllByRecursion}
use Rattle.ckr_points.specs.Tables.{parts_from}
use Rattle.ckr_points_runs.specs.NewSets.{items_for, HasRecords}
use Rattle.ckr_points_runs.proofs.new_sets.parts_of.Given as goal

abbrev pub invariant-loop-item : goal.invariant-loop-item
invariant-loop-item l = record {
  parts : l.parts.items ++ parts_from l.number (drop l.item-index l.items) ≡ parts_from l.number l.items;
  few : length l.parts.items + length (items_for l.number (drop l.item-index l.items)) ≤ 5;
  whole : AllByRecursion (HasRecords l.records) (items_for l.number (drop l.item-index l.items));
}
