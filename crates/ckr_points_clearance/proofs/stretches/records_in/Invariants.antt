use Rattle.std.proofs.Common.{◌≡◌, ◌+◌, ◌*◌, ◌≤◌, drop}
use Rattle.ckr_points_clearance.specs.Stretches.{records_of_all}
use Rattle.ckr_points_clearance.proofs.stretches.records_in.Given as goal

abbrev pub invariant-loop-stretch : goal.invariant-loop-stretch
invariant-loop-stretch l = record {
  sum : l.records + records_of_all (drop l.stretch-index l.stretches) ≡ records_of_all l.stretches;
  few : l.records ≤ l.stretch-index * 4294967295;
}
