use Rattle.std.proofs.Common.{ap, length, sym, ◌∙◌}
use Rattle.std.proofs.lemmas.List.{length-map}
use Rattle.ckr_points_tables.specs.View.{room_of}
use Rattle.ckr_points_tables.proofs.Runs.{length-rows}
use Rattle.ckr_points_tables.proofs.room_law.runs_have_room.Goals as goal

pub returns : goal.returns
returns c =
    ap (λ v. length v.room.each) (sym c.tables.view_is)
    ∙ length-map c.tables.inside.tables.items room_of
    ∙ sym (length-rows 1 c.tables.inside.lines.items c.tables.inside.tables.items c.tables.invariant.kept.runs).1
    ∙ ap (λ v. length v.desk.runs) c.tables.view_is
