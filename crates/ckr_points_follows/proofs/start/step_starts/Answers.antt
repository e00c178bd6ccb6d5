use Rattle.std.proofs.Common.{ap, sym, ◌∙◌, false}
use Rattle.std.specs.Option.{option_map_or}
use Rattle.ckr_meaning.specs.EffectiveJob.{OwnedStep, names_of}
use Rattle.ckr_points_deferred.specs.Runs.{row_now}
use Rattle.ckr_points_tables.proofs.RunJobs.{step-all}
use Rattle.ckr_points_tables.specs.RunJobs.{own_of}
use Rattle.ckr_uses.specs.Uses.{are_distinct}
use Rattle.ckr_points_follows.specs.Start.{starts_as}
use Rattle.ckr_points_follows.proofs.start.step_starts.Goals as goal

pub starts_with-requires-clause-distinct : goal.starts_with-requires-clause-distinct
starts_with-requires-clause-distinct c =
    let row = row_now c.args.run.now in
    step-all (λ (one : OwnedStep). are_distinct (names_of row.job.root one)) row.job c.args.step (own_of c.in-Some.own) c.requires.is.distinct (sym c.in-Some.ensures.step)

pub returns-in-Some : goal.returns-in-Some
returns-in-Some c =
    c.starts_with.ensures
    ∙ ap (λ found. option_map_or (starts_as c.args.layout.now c.args.tables.now.desk c.args.step c.args.items.now (row_now c.args.run.now)) found false) c.in-Some.ensures.step
