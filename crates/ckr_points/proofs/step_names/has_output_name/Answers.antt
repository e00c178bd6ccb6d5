use Rattle.std.proofs.Common.{ap, ◌∙◌, ◌&&◌, false, []}
use Rattle.std.specs.List.{list_any}
use Rattle.std.specs.Option.{option_map_or}
use Rattle.ckr_jcl.specs.declared.deck.Dd.{Dd}
use Rattle.ckr_library.specs.NameMaps.{same_name}
use Rattle.ckr_meaning.specs.Allotments.{is_output}
use Rattle.ckr_meaning.specs.EffectiveJob.{name_of}
use Rattle.ckr_points_library.specs.Holdings.{owned}
use Rattle.ckr_points.proofs.StepNames.{among-kept}
use Rattle.ckr_points.proofs.step_names.has_output_name.Goals as goal

pub returns : goal.returns
returns c =
    let own = owned c.args.step.now c.args.owner [] in
    c.is_any_output.ensures
    ∙ ap (list_any (λ (dd : Dd). is_output dd.role && option_map_or (same_name c.args.name.now) (name_of c.args.root own dd) false)) c.as_slice.ensures
    ∙ among-kept (λ (dd : Dd). is_output dd.role) (name_of c.args.root own) c.args.step.now.dds c.args.name.now
