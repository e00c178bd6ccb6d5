use Rattle.std.proofs.Common.{◌≡◌, ◌≤◌, ◌-◌}
use Rattle.ckr_points.specs.RuleCases.{number_named}
use Rattle.ckr_points_deferred.specs.Numbers.{number_from}
use Rattle.ckr_points_deferred.specs.Runs.{row_now}
use Rattle.ckr_points_deferred.proofs.numbers.number_named.Given as goal

abbrev pub invariant-loop-own : goal.invariant-loop-own
invariant-loop-own l = record { one : 1 ≤ l.number; same : number_from (row_now l.run).job l.name l.number ≡ number_named (row_now l.run) l.name }

abbrev pub decreases-loop-own : goal.decreases-loop-own
decreases-loop-own l = 256 - l.number
