use Rattle.std.proofs.Common.{◌≡◌, None, Some, IfNone, ap, ◌∙◌, subst}
use Rattle.std.specs.Option.{option_copied, option_map}
use Rattle.ckr_points.specs.Rows.{run_of}
use Rattle.ckr_points_tables.specs.View.{facts_in, facts_of}
use Rattle.ckr_desk_memory.proofs.FoundRuns.{AreRunRows, known-some, unknown-of}
use Rattle.ckr_desk_memory.proofs.jobs.Jobs.known.Goals as goal

pub returns-clause-some : goal.returns-clause-some
returns-clause-some c =
    let same = ap (λ v. v.tables.desk) c.self.view_is in
    known-some c.args.self.now.tables.desk (subst AreRunRows same c.runs-lines.ensures.rows) c.args.job
    (option_copied c.run.result) (c.run.ensures ∙ ap (λ tables. option_map facts_in (run_of tables c.args.job)) same)

pub returns-clause-none : goal.returns-clause-none
returns-clause-none c =
    let same = ap (λ v. v.tables.desk) c.self.view_is in
    elim c.run.result as (λ found. option_map facts_of (option_copied found) ≡ option_map facts_in (run_of c.args.self.now.tables.desk c.args.job) → IfNone found (run_of c.args.self.now.tables.desk c.args.job ≡ None)) [
      | None ↦ λ seen. unknown-of c.args.self.now.tables.desk c.args.job seen
      | Some table ↦ λ seen. tt
    ] (c.run.ensures ∙ ap (λ tables. option_map facts_in (run_of tables c.args.job)) same)
