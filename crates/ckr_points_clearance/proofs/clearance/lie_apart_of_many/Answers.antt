use Rattle.std.proofs.Common.{◌∙◌}
use Rattle.ckr_points_clearance.proofs.Starts.Stretches.{apart-by}
use Rattle.ckr_points_clearance.proofs.clearance.lie_apart_of_many.Goals as goal

pub returns : goal.returns
returns c =
    c.lists_apart.ensures
    ∙ apart-by c.args.one.now.dd.now.lrecl c.args.other.now.dd.now.lrecl c.args.one.now.number c.args.other.now.number c.args.items.now c.args.stretches.now _ c.requires.are (c.as_slice.ensures.value ∙ c.gathered-others.ensures)
