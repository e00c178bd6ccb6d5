use Rattle.std.proofs.Common.{None, ap, sym, ◌∙◌}
use Rattle.ckr_events.specs.declared.event.Event.TheVariants.{Selected as SelectedEvent}
use Rattle.ckr_points.specs.Denials.{earlier_number, wanted_name}
use Rattle.ckr_points_follows.specs.Model.Wanted.{wanted_in}
use Rattle.ckr_desk_turn.specs.declared.plan.Plan.TheVariants.{Tell}
use Rattle.ckr_points.specs.declared.reply.Reply.TheVariants.{Restarted}
use Rattle.ckr_desk_plans.proofs.deferred.at_start.Goals as goal

pub returns-clause-plan : goal.returns-clause-plan
returns-clause-plan c row same =
    let wanted = wanted_in c.args.wanted.now in
    ap (λ name. Tell (Restarted c.args.job name None 0) c.continued_event.result) c.name_of.ensures
    ∙ ap (Tell (Restarted c.args.job (wanted_name wanted) None 0)) (c.continued_event.ensures.event ∙ ap (λ n. SelectedEvent c.args.job c.args.initiator n wanted.number None) c.earlier_number.ensures)
    ∙ ap (λ n. Tell (Restarted n (wanted_name wanted) None 0) (SelectedEvent n c.args.initiator (earlier_number wanted) wanted.number None)) (sym same)
