use Rattle.std.proofs.Common.{◌∙◌}
use Rattle.ckr_points_follows.specs.DeckConflicts.{may_be_beside}
use Rattle.ckr_points_deferred.specs.Runs.{row_now}
use Rattle.ckr_points_follows.proofs.Selects.Conflicts.{beside-each, beside-ended, beside-queued}
use Rattle.ckr_points_follows.proofs.select.may_hold.Goals as goal

pub returns : goal.returns
returns c =
    c.may_be_beside_all.ensures
    ∙ c.begun.ensures.tests (may_be_beside c.args.tables.now.desk (row_now c.args.run.now)) (beside-ended c.args.tables.now.desk (row_now c.args.run.now)) (beside-queued c.args.tables.now.desk (row_now c.args.run.now))
    ∙ beside-each c.args.tables.now.desk c.begun.ensures.rows (row_now c.args.run.now)
