use Rattle.std.proofs.Common.{◌∙◌}
use Rattle.ckr_points_deferred.proofs.RunFacts.{is-now, none-seen, row-seen}
use Rattle.ckr_points_deferred.proofs.runs.run_now.Goals as goal

pub returns-in-Some : goal.returns-in-Some
returns-in-Some c =
    let row = c.with_table.ensures ∙ row-seen c.args.tables.now.desk c.args.job c.in-Some.ensures.rows c.in-Some.line.now _ c.in-Some.ensures.line c.run.ensures in
    record { row = row; is = is-now c.args.tables.now.desk c.args.job c.in-Some.ensures.rows c.with_table.result row }

pub returns-in-None : goal.returns-in-None
returns-in-None c =
    record { row = none-seen _ c.in-None.ensures.line; is = tt }
