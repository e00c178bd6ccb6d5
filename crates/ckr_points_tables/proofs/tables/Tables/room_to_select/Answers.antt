use Rattle.std.proofs.Common.{ap, sym, ◌∙◌, refl}
use Rattle.ckr_points.specs.Rows.{run_of}
use Rattle.ckr_points_tables.specs.Selection.{prepared_for}
use Rattle.ckr_points_tables.proofs.SelectionRooms.{has-next}
use Rattle.ckr_points_tables.proofs.tables.Tables.room_to_select.Goals as goal

pub returns-clause-ok : goal.returns-clause-ok
returns-clause-ok c = λ row one found roomed.
    has-next _ row c.args.earlier c.args.step c.args.id.now c.in_ok-next.next refl
    (c.in_ok-next.ensures.facts row (sym (ap (λ v. run_of v.desk c.args.job) c.self.view_is) ∙ found)
    ∙ sym (ap (λ v. prepared_for v.desk row c.args.earlier c.args.step c.args.id.now) c.self.view_is))
    c.in_ok-next.ensures.room
