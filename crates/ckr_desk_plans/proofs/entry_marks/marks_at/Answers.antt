use Rattle.std.proofs.Common.{◌==◌, [], ap, find, ◌∙◌, Option}
use Rattle.std.specs.Option.{option_map_or}
use Rattle.ckr_points.specs.Rows.{StartPoint}
use Rattle.ckr_points_tables.specs.Model.StepPoint.{StepPoint}
use Rattle.ckr_points_tables.proofs.Steps.{found-mapped}
use Rattle.ckr_desk_plans.proofs.entry_marks.marks_at.Goals as goal

pub returns-in-Some : goal.returns-in-Some
returns-in-Some c =
    c.as_slice-in-Some.ensures
    ∙ ap (λ (found : Option StepPoint). option_map_or (λ (point : StepPoint). point.marks.items) found []) (c.in-Some.ensures ∙ ap (find (λ (point : StepPoint). point.step == c.args.step)) c.as_slice.ensures)
    ∙ found-mapped (λ (point : StartPoint). point.marks) [] c.args.table.now.points.items c.args.step

pub returns-in-None : goal.returns-in-None
returns-in-None c =
    ap (λ (found : Option StepPoint). option_map_or (λ (point : StepPoint). point.marks.items) found []) (c.in-None.ensures ∙ ap (find (λ (point : StepPoint). point.step == c.args.step)) c.as_slice.ensures)
    ∙ found-mapped (λ (point : StartPoint). point.marks) [] c.args.table.now.points.items c.args.step
