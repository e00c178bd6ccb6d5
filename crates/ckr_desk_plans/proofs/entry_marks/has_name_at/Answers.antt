use Rattle.std.proofs.Common.{ap, ◌∙◌, false}
use Rattle.std.specs.List.{list_any}
use Rattle.std.specs.Option.{option_map_or}
use Rattle.ckr_library.specs.NameMaps.{same_name}
use Rattle.ckr_meaning.specs.EffectiveJob.{is_among, name_of}
use Rattle.ckr_points_tables.specs.RunJobs.{names_in, own_of}
use Rattle.ckr_points_tables.proofs.Steps.{any-among}
use Rattle.ckr_desk_plans.proofs.entry_marks.has_name_at.Goals as goal

pub returns-in-Some : goal.returns-in-Some
returns-in-Some c =
    let name = c.args.name.now in
    let root = c.args.behind.now.table.now.job.root in
    let own = own_of c.in-Some.own in
    c.is_any_named.ensures
    ∙ ap (λ root. list_any (λ dd. option_map_or (same_name name) (name_of root own dd) false) c.as_slice-dds.result.now) c.root.ensures
    ∙ ap (list_any (λ dd. option_map_or (same_name name) (name_of root own dd) false)) c.as_slice-dds.ensures
    ∙ any-among (name_of root own) name own.step.dds
    ∙ ap (λ found. is_among (names_in root found) name) c.in-Some.ensures.step
