use Rattle.std.proofs.Common.{ap, ◌∙◌}
use Rattle.ckr_events.specs.declared.event.Event.TheVariants.{Cancelled as CancelledEvent}
use Rattle.ckr_desk_turn.specs.declared.plan.Plan.TheVariants.{Tell}
use Rattle.ckr_points.specs.declared.reply.Reply.TheVariants.{Cancelled}
use Rattle.ckr_desk_plans.proofs.due.cancelled.Goals as goal

pub returns-clause-plan : goal.returns-clause-plan
returns-clause-plan c =
    ap (Tell (Cancelled c.args.run c.name_within.result)) c.cancelled_event.ensures.event
    ∙ ap (λ name. Tell (Cancelled c.args.run name) (CancelledEvent c.args.run)) c.name_within.ensures
