use Rattle.std.proofs.Common.{ap, ◌∙◌, false}
use Rattle.std.specs.Option.{option_map_or}
use Rattle.ckr_points_runs.specs.declared.run_table.StepPoint.{StepPoint}
use Rattle.ckr_points.specs.Marks.{is_marked_absent}
use Rattle.ckr_points.specs.Rows.{StartPoint}
use Rattle.ckr_points_runs.proofs.Steps.{found-mapped}
use Rattle.ckr_points_runs.proofs.made_names.made_at.Goals as goal

pub returns-in-Some : goal.returns-in-Some
returns-in-Some c =
    c.is_marked_absent.ensures
    ∙ ap (λ marks. is_marked_absent marks c.args.name.now) c.as_slice.ensures
    ∙ ap (λ found. option_map_or (λ (point : StepPoint). is_marked_absent point.marks.items c.args.name.now) found false) c.in-Some.ensures
    ∙ found-mapped (λ (point : StartPoint). is_marked_absent point.marks c.args.name.now) false c.args.points.now c.args.step

pub returns-in-None : goal.returns-in-None
returns-in-None c =
    ap (λ found. option_map_or (λ (point : StepPoint). is_marked_absent point.marks.items c.args.name.now) found false) c.in-None.ensures
    ∙ found-mapped (λ (point : StartPoint). is_marked_absent point.marks c.args.name.now) false c.args.points.now c.args.step
