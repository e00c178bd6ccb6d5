use Rattle.std.proofs.Common.{ap, sym, ◌∙◌}
use Rattle.std.specs.Option.{option_copied}
use Rattle.ckr_points_tables.proofs.UnnamedSets.{none-first, none-unnamed}
use Rattle.ckr_points_tables.proofs.continuation.no_set_without_name.Goals as goal

pub returns-in-Some : goal.returns-in-Some
returns-in-Some c = none-unnamed c.args.library.now.sets c.in-Some.first.now c.in-Some.ensures.name c.text.ensures.grammar c.name_at.ensures.order

pub returns-in_default : goal.returns-in_default
returns-in_default c = none-first c.args.library.now.sets (ap option_copied (sym c.in_default.is) ∙ c.name_at.ensures.name)
