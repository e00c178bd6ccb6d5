use Rattle.std.proofs.Common.{◌≡◌, ◌≤◌, length}
use Rattle.ckr_points.specs.RuleCases.{latest_run}
use Rattle.ckr_points_deferred.specs.Latest.{latest_before}
use Rattle.ckr_points_deferred.proofs.latest.latest_run.Given as goal

abbrev pub invariant-loop-left : goal.invariant-loop-left
invariant-loop-left l = record { inside : l.left ≤ length l.tables.desk.runs; latest : latest_before l.name l.left l.tables.desk.runs ≡ latest_run l.name l.tables.desk }

abbrev pub decreases-loop-left : goal.decreases-loop-left
decreases-loop-left l = l.left
