use Rattle.std.proofs.Common.{◌≡◌, ◌+◌, drop, pred, take}
use Rattle.ckr_points_runs.specs.RunJobs.{effective}
use Rattle.ckr_points_runs.specs.MadeNames.{made_in, points_in}
use Rattle.ckr_points_runs.proofs.made_names.made_in.Given as goal

abbrev pub invariant-loop-place : goal.invariant-loop-place
invariant-loop-place l =
    made_in (points_in l.tables) l.job.root (l.place + 1) (drop l.place (take (pred l.step) (effective l.run l.job).steps)) l.name
    ≡ made_in (points_in l.tables) l.job.root 1 (take (pred l.step) (effective l.run l.job).steps) l.name
