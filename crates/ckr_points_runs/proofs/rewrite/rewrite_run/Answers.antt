use Rattle.std.proofs.Common.{sym, subst}
use Rattle.ckr_meaning.specs.EffectiveJob.{step_at}
use Rattle.ckr_points_runs.specs.RunJobs.{effective}
use Rattle.ckr_points_runs.specs.StepEnd.{MayRewriteIn}
use Rattle.ckr_points_runs.proofs.RewriteCounts.{may_still}
use Rattle.ckr_points_runs.proofs.rewrite.rewrite_run.Goals as goal

pub restamp_master-requires-clause-master : goal.restamp_master-requires-clause-master
restamp_master-requires-clause-master c =
    let run = c.args.line.now.number in
    let job = c.args.table.now.job in
    may_still job.root c.args.lengths.now c.args.library.now.sets c.commit.new.library.sets (step_at (effective run job) c.step_now-step.result) c.commit.ensures.sets
    (subst (λ step. MayRewriteIn job.root c.args.library.now.sets (step_at (effective run job) step)) (sym c.step_now-step.ensures) c.requires.may.master)
