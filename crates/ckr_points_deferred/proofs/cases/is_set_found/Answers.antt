use Rattle.std.proofs.Common.{rules, ◌≡◌}
use Rattle.std.specs.Option.{option_copied}
use Rattle.ckr_points_deferred.specs.Runs.{row_now}
use Rattle.ckr_points_deferred.proofs.cases.is_set_found.Goals as goal

pub returns : goal.returns
returns c =
    let given : (row_now c.args.run.now).deck.syschk ≡ option_copied c.as_ref.result = search rules in
    c.is_syschk_found.ensures (row_now c.args.run.now) c.args.tables.now.desk.sets given c.library.ensures.sets
