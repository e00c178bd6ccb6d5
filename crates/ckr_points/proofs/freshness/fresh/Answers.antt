use Rattle.std.proofs.Common.{ap, ◌∙◌}
use Rattle.ckr_points.specs.Staleness.{stale_among}
use Rattle.ckr_points.proofs.StaleNames.{stale-fresh}
use Rattle.ckr_points.proofs.freshness.fresh.Goals as goal

pub returns-clause-fresh : goal.returns-clause-fresh
returns-clause-fresh c job step own deck sets is seen =
    c.first_stale.ensures
    ∙ ap (λ held. stale_among c.args.needed.now held c.args.marks.now) seen
    ∙ stale-fresh c.args.needed.now job step own deck c.args.marks.now sets is
