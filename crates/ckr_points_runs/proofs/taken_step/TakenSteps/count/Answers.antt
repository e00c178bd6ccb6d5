use Rattle.std.proofs.Common.{length, ap, ◌∙◌}
use Rattle.ckr_points_runs.proofs.RunJobs.{taken-length}
use Rattle.ckr_points_runs.proofs.taken_step.TakenSteps.count.Goals as goal

pub returns : goal.returns
returns c = c.len.ensures ∙ c.self.inside.items.ok.0 ∙ taken-length 0 c.self.inside.items.items c.self.invariant ∙ ap length c.self.view_is
