use Rattle.std.proofs.Common.{◌≡◌, ◌≤◌, ap, sym, ◌∙◌, subst, List, ℕ}
use Rattle.ckr_events.specs.declared.event.Event.TheVariants.{StepEnded as StepEndedEvent}
use Rattle.ckr_points.specs.Restart.{place_of, step_in}
use Rattle.ckr_desk_turn.specs.declared.plan.Plan.TheVariants.{Tell}
use Rattle.ckr_points.specs.declared.reply.Reply.TheVariants.{StepEnded}
use Rattle.ckr_desk_turn.specs.Jobs.{step_name_of}
use Rattle.ckr_desk_plans.specs.Plans.{row_for}
use Rattle.ckr_desk_plans.proofs.StepNumbers.{own-above}
use Rattle.ckr_desk_plans.proofs.due.step_ended.Goals as goal

pub step_ended_event-requires-clause-step : goal.step_ended_event-requires-clause-step
step_ended_event-requires-clause-step c =
    let row = row_for c.args.run c.args.table.now in
    let step : c.step_in.result ≡ step_in (place_of row) = c.step_in.ensures ∙ ap step_in (c.place_of.ensures c.args.run) in
    subst (λ n. 1 ≤ n) (sym step) (own-above row c.requires.there)

pub returns-clause-plan : goal.returns-clause-plan
returns-clause-plan c =
    let run = c.args.run in
    let row = row_for run c.args.table.now in
    let step : c.step_in.result ≡ step_in (place_of row) = c.step_in.ensures ∙ ap step_in (c.place_of.ensures run) in
    ap (λ n. Tell (StepEnded run n c.args.rc) c.step_ended_event.result) c.name_within.ensures
    ∙ ap (Tell (StepEnded run (step_name_of row) c.args.rc))
    (c.step_ended_event.ensures.event
    ∙ ap (λ n. StepEndedEvent run n c.args.rc c.progress.result.writes c.lengths_of.result) step
    ∙ ap (λ n. StepEndedEvent run (step_in (place_of row)) c.args.rc n c.lengths_of.result) c.progress.ensures.writes
    ∙ ap (λ (ls : List ℕ). StepEndedEvent run (step_in (place_of row)) c.args.rc c.args.on.now.step.writes (record { items = ls })) c.lengths_of.ensures.lengths)
