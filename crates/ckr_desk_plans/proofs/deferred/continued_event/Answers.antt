use Rattle.ckr_desk_plans.proofs.DeferredPlans.{continued-spelled}
use Rattle.ckr_desk_plans.proofs.deferred.continued_event.Goals as goal

pub returns-clause-spelled : goal.returns-clause-spelled
returns-clause-spelled c =
    continued-spelled c.args.job c.args.initiator c.args.earlier c.args.step c.args.id c.ranges.job.fits c.ranges.initiator.fits c.ranges.earlier.fits c.ranges.step.fits c.requires
