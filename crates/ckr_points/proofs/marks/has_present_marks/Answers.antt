use Rattle.std.proofs.Common.{ap, ◌∙◌, true, []}
use Rattle.std.specs.List.{list_all}
use Rattle.std.specs.Option.{is_some, option_map_or}
use Rattle.ckr_jcl.specs.declared.deck.Dd.{Dd}
use Rattle.ckr_library.specs.NameMaps.{Name}
use Rattle.ckr_meaning.specs.EffectiveJob.{name_of}
use Rattle.ckr_points.specs.Marks.{present_at}
use Rattle.ckr_points_library.specs.Holdings.{owned}
use Rattle.ckr_points.proofs.StepNames.{all-named}
use Rattle.ckr_points.proofs.marks.has_present_marks.Goals as goal

pub returns : goal.returns
returns c =
    let own = owned c.args.step.now c.args.owner [] in
    let test = λ (name : Name). is_some (present_at c.args.marks.now name) in
    c.are_present.ensures
    ∙ ap (list_all (λ (dd : Dd). option_map_or test (name_of c.args.root own dd) true)) c.as_slice.ensures
    ∙ all-named (name_of c.args.root own) test c.args.step.now.dds
