use Rattle.std.proofs.Common.{ap, ◌∙◌}
use Rattle.std.specs.List.{list_any}
use Rattle.ckr_desk_refines.specs.Holders.{is_held_in}
use Rattle.ckr_desk_refines.specs.Listing.{is_held}
use Rattle.ckr_desk_refines.proofs.Listing.Holders.{held-so}
use Rattle.ckr_desk_refines.proofs.data_sets.is_held.Goals as goal

pub returns : goal.returns
returns c =
    let tables = c.tables-tables.result.now.desk in
    c.is_held_in_any.ensures
    ∙ ap (list_any (is_held_in tables c.args.name.now)) c.runs.ensures.lines
    ∙ held-so tables c.runs.ensures.rows c.args.name.now
    ∙ ap (λ t. is_held t.desk c.args.name.now) c.tables-tables.ensures
