use Rattle.std.proofs.Common.{◌&&◌, false, ap, sym, ◌∙◌, Option, Bool}
use Rattle.std.specs.Option.{option_map_or}
use Rattle.ckr_jcl.specs.declared.deck.Job.{Job}
use Rattle.ckr_meaning.specs.EffectiveJob.{Effective, is_among}
use Rattle.ckr_points.specs.Rows.{RunRow}
use Rattle.ckr_desk_refines.specs.Holders.{is_held_by, names_held}
use Rattle.ckr_desk_refines.proofs.Listing.Holders.{row-there}
use Rattle.ckr_desk_refines.proofs.holders.is_held_in.Goals as goal

pub holds_name-requires : goal.holds_name-requires
holds_name-requires c = (row-there c.args.tables.now.desk c.requires c.args.line.now.number c.in-Some.table.now c.in-Some.ensures).fits

pub returns-then-is_holder : goal.returns-then-is_holder
returns-then-is_holder c =
    let name = c.args.name.now in
    let there = row-there c.args.tables.now.desk c.requires c.args.line.now.number c.in-Some.table.now c.in-Some.ensures in
    c.holds_name.ensures
    ∙ ap (λ (job : Effective). is_among (names_held c.in-Some.table.now.job.deck job) name) (sym there.job)
    ∙ ap (λ (deck : Job). is_among (names_held deck there.row.job) name) (sym there.deck)
    ∙ ap (λ (held : Bool). held && is_among (names_held there.row.deck there.row.job) name) c.if-is_holder.ensures
    ∙ sym (ap (λ (found : Option RunRow). option_map_or (λ (row : RunRow). is_held_by name (record row { state = c.args.line.now.state })) found false) there.at)
