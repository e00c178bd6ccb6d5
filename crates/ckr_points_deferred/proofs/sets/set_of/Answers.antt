use Rattle.std.proofs.Common.{◌∙◌}
use Rattle.ckr_points_deferred.proofs.SetViews.{set-seen}
use Rattle.ckr_points_deferred.proofs.sets.set_of.Goals as goal

pub returns : goal.returns
returns c =
    c.get.ensures
    ∙ set-seen c.library.result.now.sets c.args.tables.now.desk.sets c.library.ensures.sets c.args.name.now
