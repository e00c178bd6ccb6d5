use Rattle.std.proofs.Common.{ap, ◌∙◌}
use Rattle.ckr_points.specs.Restart.{step_in}
use Rattle.ckr_points.specs.RuleCases.{rd_in_effect}
use Rattle.ckr_rules.specs.RuleTables.{suppresses}
use Rattle.ckr_desk_plans.specs.Plans.{row_for}
use Rattle.ckr_desk_plans.proofs.run_code.is_suppressed.Goals as goal

pub returns : goal.returns
returns c = λ run. c.suppresses.ensures ∙ ap suppresses (c.rd_of.ensures run ∙ ap (rd_in_effect (row_for run c.args.table.now)) (c.step_in.ensures ∙ ap step_in (c.place_of.ensures run)))
