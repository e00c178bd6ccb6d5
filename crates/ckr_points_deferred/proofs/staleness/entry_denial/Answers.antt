use Rattle.std.proofs.Common.{ap, ◌∙◌, false}
use Rattle.ckr_points.specs.Freshness.{fresh}
use Rattle.ckr_points.specs.Needed.{needed_at}
use Rattle.ckr_points.specs.Restart.{spliced}
use Rattle.ckr_points_tables.specs.RunJobs.{own_of}
use Rattle.ckr_points_deferred.specs.Runs.{row_now}
use Rattle.ckr_points_deferred.proofs.staleness.entry_denial.Goals as goal

pub returns : goal.returns
returns c =
    let row = row_now c.args.run.now in
    let own = own_of c.args.own.now in
    let sets = c.args.tables.now.desk.sets in
    let job = spliced (row_now c.args.earlier.now).job c.args.number row.number row.deck in
    c.fresh.ensures.fresh job c.args.number own row.deck sets c.needed_at-needed.ensures.needed c.library.ensures.sets
    ∙ ap (λ b. fresh job.root own c.marks.result.now (needed_at b job c.args.number own c.marks.result.now) sets) c.needed_at-needed.ensures.at_start
    ∙ ap (λ marks. fresh job.root own marks (needed_at false job c.args.number own marks) sets) c.marks.ensures
