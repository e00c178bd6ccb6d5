use Rattle.std.proofs.Common.{◌-◌, ap, ◌∙◌}
use Rattle.std.specs.Option.{option_map_or}
use Rattle.ckr_points.specs.Marks.{point_at}
use Rattle.ckr_points.specs.Restart.{step_in}
use Rattle.ckr_points.specs.Rows.{StartPoint}
use Rattle.ckr_points_tables.specs.View.{facts_of}
use Rattle.ckr_desk_plans.proofs.entry.step_entries.Goals as goal

pub returns-clause-value : goal.returns-clause-value
returns-clause-value c run =
    c.saturating_sub.ensures
    ∙ ap (λ n. c.args.table.now.count - n)
    (c.entries_before.ensures
    ∙ ap (λ step. option_map_or (λ (point : StartPoint). point.count) (point_at (facts_of c.args.table.now).points step) 0) (c.step_in.ensures ∙ ap step_in (c.place_of.ensures run)))
