use Rattle.std.proofs.Common.{◌∙◌, ap, sym, Some}
use Rattle.std.specs.Option.{option_copied, option_map}
use Rattle.ckr_points.specs.Restart.{syschk_name}
use Rattle.ckr_desk_refines.specs.Tables.Entries.{entry_in}
use Rattle.ckr_desk.proofs.Continuations.Entries.{there-none, there-some}
use Rattle.ckr_desk.proofs.continuation.there_in_syschk.Goals as goal

pub returns-in_default : goal.returns-in_default
returns-in_default c =
    there-none c.args.tables.now.desk (syschk_name c.args.deck.now) c.args.id.now (sym (ap option_copied c.in_default.is) ∙ c.set_of_syschk.ensures)

pub returns-in-Some-entry_of_syschk : goal.returns-in-Some-entry_of_syschk
returns-in-Some-entry_of_syschk c =
    there-some c.args.tables.now.desk (syschk_name c.args.deck.now) c.args.id.now c.in-Some.set.now (Some (entry_in c.in-Some-entry_of_syschk.entry))
    (ap option_copied (sym c.in-Some.is) ∙ c.set_of_syschk.ensures) (ap (option_map entry_in) (sym c.in-Some-entry_of_syschk.is) ∙ c.entry_of_syschk.ensures)
