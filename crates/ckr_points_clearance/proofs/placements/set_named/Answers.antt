use Rattle.std.proofs.Common.{◌∙◌}
use Rattle.ckr_points_clearance.proofs.Starts.Placements.{set-seen}
use Rattle.ckr_points_clearance.proofs.placements.set_named.Goals as goal

pub returns : goal.returns
returns c =
    c.get.ensures
    ∙ set-seen c.library.result.now.sets c.args.tables.now.desk.sets c.library.ensures.sets c.args.name.now
