use Rattle.std.proofs.Common.{ap, ◌∙◌}
use Rattle.ckr_points_tables.specs.RunJobs.{own_of}
use Rattle.ckr_points_clearance.specs.Placements.{placed_list}
use Rattle.ckr_points_clearance.proofs.Starts.Tests.{items-by, items_form}
use Rattle.ckr_points_clearance.proofs.start.makes_items.Goals as goal

pub returns : goal.returns
returns c =
    let layout = c.args.layout.now in
    let desk = c.args.tables.now.desk in
    let items = c.args.items.now in
    let form = items_form layout items desk.sets in
    λ stamp.
    c.are_items.ensures
    ∙ ap (λ all. form (placed_list all)) c.as_slice.ensures.value
    ∙ ap form c.place_step-placed.ensures
    ∙ items-by layout items desk c.args.table.now (own_of c.args.own.now) stamp c.requires.distinct
