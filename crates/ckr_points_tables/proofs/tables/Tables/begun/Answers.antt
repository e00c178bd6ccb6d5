use Rattle.std.proofs.Common.{◌-◌, drop, take, length, map, ap, ◌∙◌, subst, arith}
use Rattle.std.specs.List.{list_all}
use Rattle.ckr_points_tables.specs.BegunRuns.{AreEnded, AreWaiting}
use Rattle.ckr_points_tables.specs.View.{line_of}
use Rattle.ckr_points_tables.proofs.BegunRuns.{between-all, ended-length}
use Rattle.ckr_points_tables.proofs.RunRows.{rows-are}
use Rattle.ckr_points_tables.proofs.Runs.{lines-rows}
use Rattle.ckr_points_tables.proofs.tables.Tables.begun.Goals as goal

pub lines_between-requires : goal.lines_between-requires
lines_between-requires c = omega (arith, ended-length c.self.inside.ended c.self.inside.lines.items c.self.invariant.ended, ap length c.as_slice.ensures.value)

pub returns-clause-tests : goal.returns-clause-tests
returns-clause-tests c test passes passes_too =
    ap (list_all test) (c.lines_between.ensures ∙ ap (λ lines. take (c.self.inside.changed - c.self.inside.ended) (drop c.self.inside.ended lines)) c.as_slice.ensures.value)
    ∙ between-all c.self.inside.ended c.self.inside.changed c.self.inside.lines.items c.self.invariant.ended c.self.invariant.waits test passes passes_too
    ∙ ap (list_all test) (lines-rows 1 c.self.inside.lines.items c.self.inside.tables.items c.self.invariant.kept.runs ∙ ap (λ v. map line_of v.desk.runs) c.self.view_is)

pub returns-clause-between : goal.returns-clause-between
returns-clause-between c =
    let rows = lines-rows 1 c.self.inside.lines.items c.self.inside.tables.items c.self.invariant.kept.runs ∙ ap (λ v. map line_of v.desk.runs) c.self.view_is in (
      c.self.inside.ended,
      c.self.inside.changed,
      subst (AreEnded c.self.inside.ended) rows c.self.invariant.ended,
      subst (AreWaiting c.self.inside.changed) rows c.self.invariant.waits,
      c.lines_between.ensures ∙ ap (λ lines. take (c.self.inside.changed - c.self.inside.ended) (drop c.self.inside.ended lines)) (c.as_slice.ensures.value ∙ rows),
    )

pub returns-clause-rows : goal.returns-clause-rows
returns-clause-rows c job row found = rows-are c.self.inside.lines.items c.self.inside.tables.items c.self.invariant.kept.runs c.self.invariant.kept.few c.args.self.now.desk (ap (λ v. v.desk.runs) c.self.view_is) job row found
