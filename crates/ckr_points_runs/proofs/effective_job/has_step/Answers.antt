use Rattle.std.proofs.Common.{not, nat_eq, ap, sym, ◌∙◌}
use Rattle.std.specs.Option.{is_some}
use Rattle.ckr_meaning.specs.EffectiveJob.{step_at}
use Rattle.ckr_points_runs.proofs.RunJobs.{has-at}
use Rattle.ckr_points_runs.specs.RunJobs.{effective}
use Rattle.ckr_points_runs.proofs.effective_job.has_step.Goals as goal

pub returns-then-step-ne0 : goal.returns-then-step-ne0
returns-then-step-ne0 c = λ run. has-at (effective run c.args.job.now) c.args.step c.count_steps.result (c.count_steps.ensures run) c.if-step-ne0.true

pub returns-else-step-ne0 : goal.returns-else-step-ne0
returns-else-step-ne0 c = λ run.
    ap (λ step. not (nat_eq step 0)) c.if-step-ne0.false ∙ sym (ap (λ step. is_some (step_at (effective run c.args.job.now) step)) c.if-step-ne0.false)
