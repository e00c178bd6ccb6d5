use Rattle.std.proofs.Common.{◌≡◌, ◌≤◌, take}
use Rattle.ckr_points_runs.specs.RunJobs.{effective}
use Rattle.ckr_points_runs.proofs.effective_job.EffectiveJob.steps_up_to.Given as goal

abbrev pub invariant-loop-place : goal.invariant-loop-place
invariant-loop-place l = record {
  steps : l.steps ≡ take l.place (effective l.run l.self).steps;
  within : l.place ≤ l.step;
}
