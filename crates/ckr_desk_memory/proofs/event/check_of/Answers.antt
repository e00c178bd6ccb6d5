use Rattle.std.proofs.Common.{ap, sym, ◌∙◌, option_and_then, arith}
use Rattle.ckr_meaning.specs.EffectiveJob.{step_at}
use Rattle.ckr_points.specs.Restart.{step_in}
use Rattle.ckr_points_tables.specs.Checkpoint.{checkpoint_name}
use Rattle.ckr_points_tables.proofs.RunJobs.{fits-at}
use Rattle.ckr_points_tables.specs.RunJobs.{effective, own_of}
use Rattle.ckr_desk_memory.specs.EventChanges.{check_name}
use Rattle.ckr_desk_memory.proofs.FoundRuns.{check-known, known-of, unknown-of}
use Rattle.ckr_desk_memory.proofs.event.check_of.Goals as goal

pub returns-in_default : goal.returns-in_default
returns-in_default c = sym (ap (option_and_then check_name) (unknown-of c.args.tables.now.desk c.args.run c.in_default.ensures))

pub returns-in-None : goal.returns-in-None
returns-in-None c =
    let run = c.args.run in
    let table = c.in-Some.table.now in
    let known = known-of c.args.tables.now.desk c.runs-lines.ensures.rows run table c.in-Some.ensures in
    sym (check-known c.args.tables.now.desk run table known
    ∙ ap (option_and_then (checkpoint_name table.job.root)) (sym (c.in-None.ensures.step ∙ ap (step_at (effective run table.job)) (c.step_in.ensures ∙ ap step_in (c.place_of.ensures run)))))

pub checkpoint_name-requires-clause-root : goal.checkpoint_name-requires-clause-root
checkpoint_name-requires-clause-root c =
    omega (arith, c.root.ensures, (known-of c.args.tables.now.desk c.runs-lines.ensures.rows c.args.run c.in-Some.table.now c.in-Some.ensures).fits.root)

pub checkpoint_name-requires-clause-owner : goal.checkpoint_name-requires-clause-owner
checkpoint_name-requires-clause-owner c =
    let known = known-of c.args.tables.now.desk c.runs-lines.ensures.rows c.args.run c.in-Some.table.now c.in-Some.ensures in
    (fits-at (effective c.args.run c.in-Some.table.now.job) known.fits c.step_in.result (own_of c.in-Some-step_at.own) (sym c.in-Some-step_at.ensures.step)).owner

pub returns-in-Some-step_at : goal.returns-in-Some-step_at
returns-in-Some-step_at c =
    let run = c.args.run in
    let table = c.in-Some.table.now in
    let known = known-of c.args.tables.now.desk c.runs-lines.ensures.rows run table c.in-Some.ensures in
    c.checkpoint_name.ensures
    ∙ ap (λ r. checkpoint_name r (own_of c.in-Some-step_at.own)) c.root.ensures
    ∙ sym (check-known c.args.tables.now.desk run table known
    ∙ ap (option_and_then (checkpoint_name table.job.root)) (sym (c.in-Some-step_at.ensures.step ∙ ap (step_at (effective run table.job)) (c.step_in.ensures ∙ ap step_in (c.place_of.ensures run)))))
