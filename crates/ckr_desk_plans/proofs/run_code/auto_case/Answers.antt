use Rattle.std.proofs.Common.{ap, ◌∙◌}
use Rattle.std.specs.List.{list_any}
use Rattle.ckr_base.specs.CodeText.{same_code}
use Rattle.ckr_points.specs.Restart.{step_in}
use Rattle.ckr_desk_plans.specs.Plans.{row_for}
use Rattle.ckr_points_tables.specs.View.{effect_of}
use Rattle.ckr_desk_plans.proofs.RuleCases.{case-is, some-mapped}
use Rattle.ckr_desk_plans.proofs.run_code.auto_case.Goals as goal

pub returns : goal.returns
returns c = λ run.
    case-is (row_for run c.args.table.now) c.step_in-step.result c.args.layout.now.eligible.items c.args.code c.rd_of.result c.is_some.result c.is_eligible.result
    (record { restarts = c.since_point-restarts.result.0; rewritten = c.since_point-restarts.result.1 })
    (c.step_in-step.ensures ∙ ap step_in (c.place_of.ensures run))
    (c.rd_of.ensures run)
    (c.is_some.ensures ∙ some-mapped effect_of c.args.table.now.in_effect)
    (c.is_eligible.ensures ∙ ap (list_any (same_code c.args.code)) c.as_slice.ensures.value)
    (c.since_point-restarts.ensures run)
