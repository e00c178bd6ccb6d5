use Rattle.std.proofs.Common.{map, ap, ◌∙◌}
use Rattle.ckr_points_tables.specs.View.{line_of}
use Rattle.ckr_points_tables.proofs.RunRows.{rows-are}
use Rattle.ckr_points_tables.proofs.Runs.{lines-rows}
use Rattle.ckr_points_tables.proofs.tables.Tables.runs.Goals as goal

pub returns-clause-rows : goal.returns-clause-rows
returns-clause-rows c job row found = rows-are c.self.inside.lines.items c.self.inside.tables.items c.self.invariant.kept.runs c.self.invariant.kept.few c.args.self.now.desk (ap (λ v. v.desk.runs) c.self.view_is) job row found

pub returns-clause-lines : goal.returns-clause-lines
returns-clause-lines c =
    c.as_slice.ensures.value ∙ lines-rows 1 c.self.inside.lines.items c.self.inside.tables.items c.self.invariant.kept.runs ∙ ap (λ v. map line_of v.desk.runs) c.self.view_is
