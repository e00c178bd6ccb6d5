use Rattle.std.proofs.Common.{◌≡◌, drop}
use Rattle.ckr_meaning.specs.Dispositions.{passed_ended}
use Rattle.ckr_points.specs.Marks.{without_passed}
use Rattle.ckr_points_runs.proofs.step_end.end_passed.Given as goal

abbrev pub invariant-loop-one : goal.invariant-loop-one
invariant-loop-one l = passed_ended (without_passed l.lost (drop l.one-index l.passed)) l.library.sets ≡ passed_ended (without_passed l.lost l.passed) l.initial.library.sets
