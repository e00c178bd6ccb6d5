use Rattle.std.proofs.Common.{◌≡◌, map, take}
use Rattle.ckr_points.specs.Restart.{rcs_before}
use Rattle.ckr_points_runs.specs.View.{code_of}
use Rattle.ckr_points_tables.proofs.continuation.codes_before.Given as goal

abbrev pub invariant-loop-code : goal.invariant-loop-code
invariant-loop-code l = map code_of l.before.items ≡ rcs_before l.step (map code_of (take l.code-index l.codes))
