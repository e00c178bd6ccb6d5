use Rattle.std.proofs.Common.{◌≤◌, map, ap, sym, ◌∙◌, subst}
use Rattle.ckr_library.specs.NameMaps.{EachEntry}
use Rattle.ckr_points.specs.Rows.{TableSet, holding_of}
use Rattle.ckr_points_tables.specs.View.{RoomyTables}
use Rattle.ckr_points_runs.specs.View.{seen_by, written_of}
use Rattle.ckr_points_tables.proofs.RecordWidths.{seen-wide}
use Rattle.ckr_points_tables.proofs.SetViews.{held-back}
use Rattle.ckr_points_tables.proofs.tables.Tables.library.Goals as goal

pub returns-clause-sets : goal.returns-clause-sets
returns-clause-sets c =
    sym (held-back (map written_of c.self.inside.writings.items) c.self.inside.library.sets) ∙ ap (λ v. seen_by holding_of v.desk.sets) c.self.view_is

pub returns-clause-wide : goal.returns-clause-wide
returns-clause-wide c =
    subst (λ (v : RoomyTables). EachEntry (λ (table : TableSet). 1 ≤ table.set.lrecl) v.desk.sets) c.self.view_is (seen-wide (map written_of c.self.inside.writings.items) c.self.inside.library.sets c.self.invariant.kept.wide)
