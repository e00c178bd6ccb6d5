use Rattle.std.proofs.Common.{◌≡◌, ◌≤◌, drop}
use Rattle.ckr_meaning.specs.Dispositions.{passed_ended}
use Rattle.ckr_points_library.proofs.step_end.delete_made.Given as goal

abbrev pub invariant-loop-one : goal.invariant-loop-one
invariant-loop-one l = record {
  sets : passed_ended (drop l.one-index l.passed) l.library.sets ≡ passed_ended l.passed l.initial.library.sets;
  room : l.initial.library.room ≤ l.library.room;
}
