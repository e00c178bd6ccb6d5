use Rattle.std.proofs.Common.{ap, ◌∙◌, sym, false, []}
use Rattle.std.specs.List.{list_any}
use Rattle.std.specs.Option.{option_map_or}
use Rattle.ckr_base.proofs.Sequences.{any-filter_map}
use Rattle.ckr_jcl.specs.declared.deck.Dd.{Dd}
use Rattle.ckr_library.specs.NameMaps.{same_name}
use Rattle.ckr_meaning.specs.EffectiveJob.{name_of}
use Rattle.ckr_points_library.specs.Holdings.{owned}
use Rattle.ckr_points.proofs.step_names.has_name.Goals as goal

pub returns : goal.returns
returns c =
    let own = owned c.args.step.now c.args.owner [] in
    c.is_any_named.ensures
    ∙ ap (list_any (λ (dd : Dd). option_map_or (same_name c.args.name.now) (name_of c.args.root own dd) false)) c.as_slice.ensures
    ∙ sym (any-filter_map (name_of c.args.root own) (same_name c.args.name.now) c.args.step.now.dds)
