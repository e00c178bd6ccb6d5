use Rattle.std.proofs.Common.{◌∙◌}
use Rattle.ckr_points_clearance.specs.Placements.{placed_now}
use Rattle.ckr_points_clearance.proofs.Starts.Stretches.{standing_form, stands-form}
use Rattle.ckr_points_clearance.proofs.clearance.stands_in.Goals as goal

pub returns : goal.returns
returns c =
    let layout = c.args.layout.now in
    let one = placed_now c.args.one.now in
    let items = c.args.items.now in
    c.are_standing.ensures
    ∙ (λ i. standing_form layout one items (c.requires.are i) (c.space_for.ensures i))
    ∙ stands-form layout one items
