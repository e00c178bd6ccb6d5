use Rattle.std.proofs.Common.{[], false, ap, ◌∙◌}
use Rattle.std.specs.Option.{option_map_or}
use Rattle.std.specs.List.{filter_map}
use Rattle.ckr_points_library.specs.Holdings.{owned}
use Rattle.ckr_meaning.specs.EffectiveJob.{is_among, name_of}
use Rattle.ckr_points_runs.proofs.Steps.{any-among}
use Rattle.ckr_points_tables.proofs.submit.stands_again.Goals as goal

pub returns-in-Some : goal.returns-in-Some
returns-in-Some c =
    let own = owned c.args.step.now c.args.number [] in
    c.is_any_named.ensures ∙ any-among (name_of c.args.number own) c.in-Some.name c.args.rest.now
    ∙ ap (λ named. option_map_or (is_among (filter_map (name_of c.args.number own) c.args.rest.now)) named false) c.in-Some.ensures
