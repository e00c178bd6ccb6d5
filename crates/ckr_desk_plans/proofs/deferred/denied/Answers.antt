use Rattle.std.proofs.Common.{ap, sym, ◌∙◌}
use Rattle.ckr_events.specs.declared.event.Event.TheVariants.{Denied as DeniedEvent}
use Rattle.ckr_rules.specs.RuleTables.{rule_number}
use Rattle.ckr_desk_turn.specs.declared.plan.Plan.TheVariants.{Tell}
use Rattle.ckr_points.specs.declared.reply.Reply.TheVariants.{DeniedRestart}
use Rattle.ckr_desk_plans.proofs.deferred.denied.Goals as goal

pub returns-clause-plan : goal.returns-clause-plan
returns-clause-plan c row same =
    ap (Tell (DeniedRestart c.args.job c.args.denial)) (c.denied_event-event.ensures.event ∙ ap (DeniedEvent c.args.job (rule_number c.args.denial.rule)) c.copy_of_name.ensures.value)
    ∙ ap (λ n. Tell (DeniedRestart n c.args.denial) (DeniedEvent n (rule_number c.args.denial.rule) c.args.denial.name)) (sym same)
