use Rattle.std.proofs.Common.{ap, sym, ◌∙◌}
use Rattle.std.specs.Prelude.{if◌then◌else◌}
use Rattle.ckr_desk_turn.specs.declared.plan.Plan.TheVariants.{Take}
use Rattle.ckr_desk_turn.specs.Plans.{suppressed_plan}
use Rattle.ckr_desk_plans.specs.Plans.{row_for}
use Rattle.ckr_desk_plans.proofs.due.checkpoint_due.Goals as goal

pub returns-then-is_suppressed-clause-plan : goal.returns-then-is_suppressed-clause-plan
returns-then-is_suppressed-clause-plan c =
    c.suppressed.ensures.plan
    ∙ ap (λ b. if b then suppressed_plan (row_for c.args.run c.args.table.now) else Take c.args.run) (sym c.if-is_suppressed.true ∙ c.is_suppressed.ensures c.args.run)

pub returns-else-is_suppressed-clause-plan : goal.returns-else-is_suppressed-clause-plan
returns-else-is_suppressed-clause-plan c =
    ap (λ b. if b then suppressed_plan (row_for c.args.run c.args.table.now) else Take c.args.run) (sym c.if-is_suppressed.false ∙ c.is_suppressed.ensures c.args.run)
