use Rattle.std.proofs.Common.{ap, sym, ◌∙◌}
use Rattle.std.specs.Option.{option_copied}
use Rattle.ckr_points_deferred.proofs.SetNames.{none-seen-unnamed}
use Rattle.ckr_points_deferred.proofs.syschk_entries.no_set_without_name.Goals as goal
use Rattle.ckr_points_tables.proofs.UnnamedSets.{none-unnamed, none-first}

pub returns-in-Some : goal.returns-in-Some
returns-in-Some c =
    let sets = c.library.result.now.sets in
    none-seen-unnamed sets c.args.tables.now.desk.sets c.library.ensures.sets (none-unnamed sets c.in-Some.first.now c.in-Some.ensures.name c.text.ensures.grammar c.name_at.ensures.order)

pub returns-in_default : goal.returns-in_default
returns-in_default c =
    let sets = c.library.result.now.sets in
    none-seen-unnamed sets c.args.tables.now.desk.sets c.library.ensures.sets (none-first sets (ap option_copied (sym c.in_default.is) ∙ c.name_at.ensures.name))
