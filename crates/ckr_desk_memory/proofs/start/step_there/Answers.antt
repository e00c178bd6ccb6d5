use Rattle.std.proofs.Common.{arith, ap, sym, ◌∙◌, Some, None}
use Rattle.std.specs.Prelude.{if◌then◌else◌}
use Rattle.ckr_points.specs.Restart.{step_in}
use Rattle.ckr_points_tables.proofs.RunJobs.{fits-at}
use Rattle.ckr_points_tables.specs.RunJobs.{effective, own_of}
use Rattle.ckr_desk_memory.proofs.FoundRuns.{known-of}
use Rattle.ckr_desk_memory.proofs.Starts.Steps.{none-starts, own-found}
use Rattle.ckr_desk_memory.proofs.Starts.NewStep.{found-there, off-there}
use Rattle.ckr_desk_memory.proofs.start.step_there.Goals as goal

pub returns-then-not-is_on : goal.returns-then-not-is_on
returns-then-not-is_on c = λ row owned at found. off-there c.args.tables.now.desk c.args.job (sym c.is_on.ensures ∙ c.if-not-is_on.true) row owned at found

pub returns-then-has_sets : goal.returns-then-has_sets
returns-then-has_sets c = λ row owned at found.
    ap (λ b. if b then Some c.step_in-step.result else None) (sym c.if-has_sets.true)
    ∙ found-there c.args.tables.now.desk c.args.job c.root.result c.step_in-step.result c.in-Some.table.now (known-of c.args.tables.now.desk c.runs-lines.ensures.rows c.args.job c.in-Some.table.now c.in-Some.ensures) c.in-Some-step_at.own c.library.result.now.sets c.has_sets.result (sym c.is_on.ensures ∙ c.if-not-is_on.false)
    c.root.ensures c.in-Some-step_at.ensures.step (λ run. c.step_in-step.ensures ∙ ap step_in (c.place_of.ensures run)) c.library.ensures.sets c.has_sets.ensures row owned at found

pub returns-else-has_sets : goal.returns-else-has_sets
returns-else-has_sets c = λ row owned at found.
    ap (λ b. if b then Some c.step_in-step.result else None) (sym c.if-has_sets.false)
    ∙ found-there c.args.tables.now.desk c.args.job c.root.result c.step_in-step.result c.in-Some.table.now (known-of c.args.tables.now.desk c.runs-lines.ensures.rows c.args.job c.in-Some.table.now c.in-Some.ensures) c.in-Some-step_at.own c.library.result.now.sets c.has_sets.result (sym c.is_on.ensures ∙ c.if-not-is_on.false)
    c.root.ensures c.in-Some-step_at.ensures.step (λ run. c.step_in-step.ensures ∙ ap step_in (c.place_of.ensures run)) c.library.ensures.sets c.has_sets.ensures row owned at found

pub returns-in_default-step_at : goal.returns-in_default-step_at
returns-in_default-step_at c = λ row owned at found.
    let known = known-of c.args.tables.now.desk c.runs-lines.ensures.rows c.args.job c.in-Some.table.now c.in-Some.ensures in
    none-starts c.args.tables.now.desk c.args.job c.in-Some.table.now known c.step_in-step.result c.in_default-step_at.ensures.step row owned at
    (own-found c.args.tables.now.desk c.args.job c.in-Some.table.now known c.step_in-step.result (λ run. c.step_in-step.ensures ∙ ap step_in (c.place_of.ensures run)) row owned at found)

pub has_sets-requires-clause-root : goal.has_sets-requires-clause-root
has_sets-requires-clause-root c =
    omega (arith, c.root.ensures, (known-of c.args.tables.now.desk c.runs-lines.ensures.rows c.args.job c.in-Some.table.now c.in-Some.ensures).fits.root)

pub has_sets-requires-clause-owner : goal.has_sets-requires-clause-owner
has_sets-requires-clause-owner c =
    let known = known-of c.args.tables.now.desk c.runs-lines.ensures.rows c.args.job c.in-Some.table.now c.in-Some.ensures in
    (fits-at (effective c.args.job c.in-Some.table.now.job) known.fits c.step_in-step.result (own_of c.in-Some-step_at.own) (sym c.in-Some-step_at.ensures.step)).owner
