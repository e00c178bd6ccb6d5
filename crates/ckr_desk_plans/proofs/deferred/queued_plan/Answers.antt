use Rattle.std.proofs.Common.{None, ap, sym, ◌∙◌}
use Rattle.std.proofs.lemmas.Option.{same_Some}
use Rattle.ckr_base.proofs.Options.{some-not-none}
use Rattle.ckr_events.specs.declared.event.Event.TheVariants.{Selected as SelectedEvent}
use Rattle.ckr_jcl.specs.declared.deck.Job.{Job}
use Rattle.ckr_points.specs.Rows.{RunRow}
use Rattle.ckr_points_follows.specs.Model.Runs.{row_now}
use Rattle.ckr_desk_turn.specs.declared.plan.Plan.TheVariants.{Tell}
use Rattle.ckr_points.specs.declared.reply.Reply.TheVariants.{Selected}
use Rattle.ckr_desk_turn.specs.Deferred.{queued_plan}
use Rattle.ckr_desk_plans.proofs.deferred.queued_plan.Goals as goal

pub returns-in_default-clause-plan : goal.returns-in_default-clause-plan
returns-in_default-clause-plan c row at same = absurd (some-not-none row (sym (c.in_default.ensures.row ∙ at)))

pub returns-in-Some-restart-clause-plan : goal.returns-in-Some-restart-clause-plan
returns-in-Some-restart-clause-plan c row at same =
    let run = row_now c.in-Some.run' in
    c.deferred_plan.ensures.plan
    ∙ ap (queued_plan c.args.layout.now c.args.tables.now.desk c.args.initiator run) (sym c.in-Some-restart.is ∙ ap (λ (deck : Job). deck.restart) c.deck.ensures)
    ∙ ap (λ (row : RunRow). queued_plan c.args.layout.now c.args.tables.now.desk c.args.initiator row row.deck.restart) (same_Some run row (c.in-Some.ensures.row ∙ at))

pub returns-in-None-clause-plan : goal.returns-in-None-clause-plan
returns-in-None-clause-plan c row at same =
    let run = row_now c.in-Some.run' in
    ap (Tell (Selected c.args.job)) c.selected_event.ensures.event
    ∙ ap (λ n. Tell (Selected n) (SelectedEvent n c.args.initiator 0 0 None)) (sym same)
    ∙ ap (queued_plan c.args.layout.now c.args.tables.now.desk c.args.initiator row) (sym c.in-None.is ∙ ap (λ (deck : Job). deck.restart) c.deck.ensures ∙ ap (λ (row : RunRow). row.deck.restart) (same_Some run row (c.in-Some.ensures.row ∙ at)))
