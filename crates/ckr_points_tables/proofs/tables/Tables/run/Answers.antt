use Rattle.std.proofs.Common.{ap, sym, ◌∙◌, slice_get}
use Rattle.std.specs.Option.{option_map}
use Rattle.ckr_points_runs.specs.View.{facts_of}
use Rattle.ckr_points_tables.specs.View.{facts_in}
use Rattle.ckr_points_tables.proofs.Runs.{facts-run, no_run}
use Rattle.ckr_points_tables.proofs.tables.Tables.run.Goals as goal

pub returns-in-Some : goal.returns-in-Some
returns-in-Some c =
    ap (option_map facts_of) (c.table_at.ensures ∙ ap (λ xs. slice_get xs c.in-Some.place) c.as_slice.ensures.value)
    ∙ facts-run c.self.inside.lines.items c.self.inside.tables.items c.args.self.now.desk (ap (λ v. v.desk.runs) c.self.view_is) c.self.invariant.kept.runs c.args.job c.in-Some.place (sym c.in-Some.is ∙ c.place_of.ensures)

pub returns-in-None : goal.returns-in-None
returns-in-None c =
    sym (ap (option_map facts_in) (no_run c.args.self.now.desk c.args.job (sym c.in-None.is ∙ c.place_of.ensures)))
