use Rattle.ckr_points_tables.specs.BegunRuns.{AreEnded}
use Rattle.ckr_points_tables.proofs.begun_runs.count_ended.Given as goal

abbrev pub invariant-loop-place : goal.invariant-loop-place
invariant-loop-place l = AreEnded l.place l.lines
