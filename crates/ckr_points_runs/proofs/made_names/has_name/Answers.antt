use Rattle.std.proofs.Common.{ap, ◌∙◌, false}
use Rattle.std.specs.List.{list_any}
use Rattle.std.specs.Option.{option_map_or}
use Rattle.ckr_library.specs.NameMaps.{same_name}
use Rattle.ckr_meaning.specs.EffectiveJob.{name_of}
use Rattle.ckr_points_runs.specs.RunJobs.{own_of}
use Rattle.ckr_points_runs.proofs.Steps.{any-among}
use Rattle.ckr_points_runs.proofs.made_names.has_name.Goals as goal

pub returns : goal.returns
returns c =
    let own = own_of c.args.own.now in
    c.is_any_named.ensures
    ∙ ap (list_any (λ dd. option_map_or (same_name c.args.name.now) (name_of c.args.root own dd) false)) c.as_slice.ensures
    ∙ any-among (name_of c.args.root own) c.args.name.now c.args.own.now.step.now.dds
