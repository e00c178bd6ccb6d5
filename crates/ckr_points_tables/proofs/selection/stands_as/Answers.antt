use Rattle.std.proofs.Common.{false, [], ap, ◌∙◌}
use Rattle.std.specs.Option.{option_map_or}
use Rattle.ckr_library.specs.declared.sets.DataSet.{DataSet}
use Rattle.ckr_points.specs.Marks.{is_as_marked}
use Rattle.ckr_points_tables.proofs.Selections.{stands-in}
use Rattle.ckr_points_tables.proofs.selection.stands_as.Goals as goal

pub returns-in-Some : goal.returns-in-Some
returns-in-Some c =
    c.is_as_marked.ensures
    ∙ ap (λ found. option_map_or (λ (set : DataSet). is_as_marked (record { set = set; entries = [] }) c.args.present.now) found false) c.in-Some.ensures
    ∙ stands-in c.args.library.now.sets c.args.name.now c.args.present.now

pub returns-in-None : goal.returns-in-None
returns-in-None c =
    ap (λ found. option_map_or (λ (set : DataSet). is_as_marked (record { set = set; entries = [] }) c.args.present.now) found false) c.in-None.ensures
    ∙ stands-in c.args.library.now.sets c.args.name.now c.args.present.now
