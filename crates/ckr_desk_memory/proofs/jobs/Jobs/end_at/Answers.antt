use Rattle.std.proofs.Common.{None, Some, ap, sym, ◌∙◌}
use Rattle.ckr_meaning.specs.EffectiveJob.{OwnedStep}
use Rattle.ckr_points.specs.Rows.{holding_of, step_of_run}
use Rattle.ckr_points_tables.specs.View.{seen_by}
use Rattle.ckr_desk_memory.specs.View.{JobsView}
use Rattle.ckr_desk_memory.proofs.WantingSteps.{end-is, end-there}
use Rattle.ckr_desk_memory.proofs.jobs.Jobs.end_at.Goals as goal

pub returns-in_err-dd-clause-plan : goal.returns-in_err-dd-clause-plan
returns-in_err-dd-clause-plan c =
    c.from_residual-in_err-dd.ensures
    ∙ end-is c.args.self.now.tables.desk c.args.plan.now c.in_ok-step.step c.in_ok-step.ensures.some c.library.result.now.sets (c.library.ensures.sets ∙ ap (λ (v : JobsView). seen_by holding_of v.tables.desk.sets) c.self.view_is)
    c.args.sought c.args.cause None c.in_err-dd.ensures

pub refused-requires-clause-dd : goal.refused-requires-clause-dd
refused-requires-clause-dd c =
    end-there c.args.self.now.tables.desk c.args.plan.now c.in_ok-step.step c.in_ok-step.ensures.some c.library.result.now.sets (c.library.ensures.sets ∙ ap (λ (v : JobsView). seen_by holding_of v.tables.desk.sets) c.self.view_is)
    c.args.sought c.in_ok-dd.dd c.in_ok-dd.ensures

pub returns-clause-plan : goal.returns-clause-plan
returns-clause-plan c =
    let its = c.in_ok-step.ensures.some in
    ap Some (c.refused.ensures.plan its.is.wanting.row its.is.wanting.owned its.is.found (ap (step_of_run its.is.wanting.row) (sym its.is.place) ∙ its.is.there) its.is.number (c.copied-name.ensures ∙ ap (λ (o : OwnedStep). o.step.name) (sym its.is.own)))
    ∙ end-is c.args.self.now.tables.desk c.args.plan.now c.in_ok-step.step its c.library.result.now.sets (c.library.ensures.sets ∙ ap (λ (v : JobsView). seen_by holding_of v.tables.desk.sets) c.self.view_is)
    c.args.sought c.args.cause (Some c.in_ok-dd.dd) c.in_ok-dd.ensures
