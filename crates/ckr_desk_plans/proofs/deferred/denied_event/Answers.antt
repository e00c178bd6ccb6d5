use Rattle.std.proofs.Common.{◌≤◌, sym, subst}
use Rattle.ckr_desk_plans.proofs.DeferredPlans.{denied-spelled}
use Rattle.ckr_desk_plans.proofs.deferred.denied_event.Goals as goal

pub returns-clause-spelled : goal.returns-clause-spelled
returns-clause-spelled c =
    denied-spelled c.args.job c.rule_number.result c.args.name c.ranges.job.fits (subst (λ n. 17 ≤ n) (sym c.rule_number.ensures.value) c.requires.rule) c.rule_number.ensures.most c.requires.name
