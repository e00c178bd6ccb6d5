use Rattle.std.proofs.Common.{length, ap, arith}
use Rattle.ckr_jcl.specs.declared.deck.Job.{Job}
use Rattle.ckr_points_runs.specs.RunJobs.{JobView}
use Rattle.ckr_points_runs.proofs.RunJobs.{steps-count}
use Rattle.ckr_points_runs.proofs.effective_job.EffectiveJob.count_steps.Goals as goal

pub returns-then-taken-own : goal.returns-then-taken-own
returns-then-taken-own c = λ run.
    omega (arith, steps-count run c.args.self.now, c.if-taken-own.true, c.count-taken.ensures, ap (λ (job : JobView). length job.taken) c.self.view_is, ap length c.as_slice-own.ensures, ap (λ (deck : Job). length deck.steps) c.deck.ensures)

pub returns-else-taken-own : goal.returns-else-taken-own
returns-else-taken-own c = λ run.
    omega (arith, steps-count run c.args.self.now, c.if-taken-own.false, c.count-taken.ensures, ap (λ (job : JobView). length job.taken) c.self.view_is, ap length c.as_slice-own.ensures, ap (λ (deck : Job). length deck.steps) c.deck.ensures)
