use Rattle.std.proofs.Common.{◌==◌, ap, ◌∙◌, find, Some, None}
use Rattle.ckr_points_tables.specs.Model.StepPoint.{StepPoint}
use Rattle.ckr_desk_plans.proofs.RuleCases.{since-found}
use Rattle.ckr_desk_plans.proofs.run_code.since_start.Goals as goal

pub returns-in-Some : goal.returns-in-Some
returns-in-Some c = λ run.
    since-found c.args.table.now.points.items c.args.step (Some c.in-Some.point.now) (c.in-Some.ensures ∙ ap (find (λ (point : StepPoint). point.step == c.args.step)) c.as_slice.ensures)

pub returns-in-None : goal.returns-in-None
returns-in-None c = λ run.
    since-found c.args.table.now.points.items c.args.step None (c.in-None.ensures ∙ ap (find (λ (point : StepPoint). point.step == c.args.step)) c.as_slice.ensures)
