use Rattle.std.proofs.Common.{ap, ◌∙◌}
use Rattle.std.specs.Option.{option_map_or}
use Rattle.ckr_points_runs.specs.declared.run_table.StepPoint.{StepPoint}
use Rattle.ckr_points.specs.Rows.{StartPoint}
use Rattle.ckr_points_runs.proofs.Steps.{found-mapped}
use Rattle.ckr_points_runs.proofs.start.restarts_at.Goals as goal

pub returns-in-Some : goal.returns-in-Some
returns-in-Some c =
    ap (λ found. option_map_or (λ (point : StepPoint). point.restarts) found 0) c.in-Some.ensures
    ∙ found-mapped (λ (point : StartPoint). point.restarts) 0 c.args.points.now c.args.step

pub returns-in-None : goal.returns-in-None
returns-in-None c =
    ap (λ found. option_map_or (λ (point : StepPoint). point.restarts) found 0) c.in-None.ensures
    ∙ found-mapped (λ (point : StartPoint). point.restarts) 0 c.args.points.now c.args.step
