use Rattle.std.proofs.Common.{◌≡◌, ◌+◌, drop}
use Rattle.ckr_points_tables.specs.Rooms.{dds_of}
use Rattle.ckr_points_runs.specs.RunJobs.{effective}
use Rattle.ckr_points_tables.proofs.rooms.dds_of.Given as goal

abbrev pub invariant-loop-place : goal.invariant-loop-place
invariant-loop-place l = l.count + dds_of (drop l.place (effective l.run l.job).steps) ≡ dds_of (effective l.run l.job).steps
