use Rattle.std.proofs.Common.{◌≡◌, drop}
use Rattle.ckr_meaning.specs.EffectiveJob.{is_among, names_of_steps}
use Rattle.ckr_points_runs.specs.RunJobs.{effective}
use Rattle.ckr_points_runs.proofs.made_names.has_name_from.Given as goal

abbrev pub invariant-loop-place : goal.invariant-loop-place
invariant-loop-place l =
    is_among (names_of_steps l.job.root (drop l.place (effective l.run l.job).steps)) l.name ≡ is_among (names_of_steps l.job.root (drop l.first (effective l.run l.job).steps)) l.name
