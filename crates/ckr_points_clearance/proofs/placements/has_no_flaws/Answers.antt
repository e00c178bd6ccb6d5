use Rattle.std.proofs.Common.{◌∙◌}
use Rattle.ckr_points_clearance.proofs.Starts.Placements.{no-flaws}
use Rattle.ckr_points_clearance.proofs.placements.has_no_flaws.Goals as goal

pub returns : goal.returns
returns c = c.are_unrefused.ensures ∙ no-flaws c.args.placed.now
