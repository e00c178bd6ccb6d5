use Rattle.std.proofs.Common.{◌≡◌, map, ap, sym, ◌∙◌, None, Some}
use Rattle.std.specs.Option.{option_copied}
use Rattle.ckr_points.specs.Tables.{kept_entry}
use Rattle.ckr_points_tables.specs.Restart.{point_written}
use Rattle.ckr_points_tables.specs.View.{RoomyTables, point_for}
use Rattle.ckr_points_runs.specs.View.{written_of}
use Rattle.ckr_points_tables.proofs.Restarts.Views.{entry-found}
use Rattle.ckr_points_tables.proofs.tables.Tables.entry_at.Goals as goal

pub returns-in_default : goal.returns-in_default
returns-in_default c =
    entry-found (map written_of c.self.inside.writings.items) c.self.inside.library.sets c.args.self.now.desk.sets (ap (λ (v : RoomyTables). v.desk.sets) c.self.view_is) c.args.set.now c.args.id.now None (ap option_copied (sym c.in_default.is) ∙ c.kept_under.ensures)

pub returns : goal.returns
returns c =
    let writings = map written_of c.self.inside.writings.items in
    let kept = c.in-Some.kept.now in
    let point : point_written (option_copied c.entry_for.result) ≡ point_for writings c.args.set.now kept =
    c.entry_for.ensures ∙ ap (λ items. point_for (map written_of items) c.args.set.now kept) c.as_slice.ensures.value in
    ap (λ one. Some (kept_entry kept one)) point
    ∙ entry-found writings c.self.inside.library.sets c.args.self.now.desk.sets (ap (λ (v : RoomyTables). v.desk.sets) c.self.view_is) c.args.set.now c.args.id.now (Some kept) (ap option_copied (sym c.in-Some.is) ∙ c.kept_under.ensures)
