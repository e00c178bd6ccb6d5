use Rattle.std.proofs.Common.{◌≡◌, None, Some, ap, sym, ◌∙◌, arith}
use Rattle.std.proofs.lemmas.Result.{IfOk-weaker}
use Rattle.ckr_points_tables.specs.Checkpoint.{checkpoint_name}
use Rattle.ckr_points_tables.specs.RunJobs.{own_of}
use Rattle.ckr_desk_plans.specs.Entries.{entry_made, row_of_line}
use Rattle.ckr_desk_plans.specs.StepView.{step_seen}
use Rattle.ckr_desk_plans.proofs.EntryPoints.{absent-id, id-is, its-check, next-none, next-set, next-unset, set-none, set-there}
use Rattle.ckr_desk_plans.proofs.entry.next_of.Goals as goal

pub returns-in_default-clause-entry : goal.returns-in_default-clause-entry
returns-in_default-clause-entry c line tables owned seen same owns =
    let root = c.args.table.now.job.root in
    next-none tables (row_of_line c.args.on.now.run line c.args.table.now) owned (step_seen c.args.on.now)
    (its-check root owned c.args.own.now.step.now c.args.own.now.owner same owns ∙ sym (c.in_default.ensures ∙ ap (λ r. checkpoint_name r (own_of c.args.own.now)) c.root.ensures))

pub checkpoint_name-requires-clause-root : goal.checkpoint_name-requires-clause-root
checkpoint_name-requires-clause-root c = omega (arith, c.root.ensures, c.requires.fits.root)

pub fitting-requires-clause-may : goal.fitting-requires-clause-may
fitting-requires-clause-may c = record { fits = c.requires.fits; owner = c.requires.owner }

pub returns-in_default-get-clause-entry : goal.returns-in_default-get-clause-entry
returns-in_default-get-clause-entry c line tables owned seen same owns =
    let run = c.args.on.now.run in
    let check = c.in-Some.check in
    let root = c.args.table.now.job.root in
    let some : checkpoint_name root owned ≡ Some check = its-check root owned c.args.own.now.step.now c.args.own.now.owner same owns ∙ sym (c.in-Some.ensures ∙ ap (λ r. checkpoint_name r (own_of c.args.own.now)) c.root.ensures) in
    next-unset tables (row_of_line run line c.args.table.now) owned (step_seen c.args.on.now) check some (set-none tables.sets c.args.library.now check seen c.in_default-get.ensures)

pub returns-in_default-id_of-clause-entry : goal.returns-in_default-id_of-clause-entry
returns-in_default-id_of-clause-entry c line tables owned seen same owns =
    let run = c.args.on.now.run in
    let check = c.in-Some.check in
    let row = row_of_line run line c.args.table.now in
    let root = c.args.table.now.job.root in
    let some : checkpoint_name root owned ≡ Some check = its-check root owned c.args.own.now.step.now c.args.own.now.owner same owns ∙ sym (c.in-Some.ensures ∙ ap (λ r. checkpoint_name r (own_of c.args.own.now)) c.root.ensures) in
    let set = set-there tables.sets c.args.library.now check c.in-Some-get.set.now seen c.in-Some-get.ensures in
    next-set tables row owned (step_seen c.args.on.now) check set.0 None some set.1
    (absent-id check set.0 tables row owned (step_seen c.args.on.now) (sym (c.in_default-id_of.ensures run owned same)))

pub returns-clause-entry : goal.returns-clause-entry
returns-clause-entry c line tables owned seen same owns =
    let run = c.args.on.now.run in
    let check = c.in-Some.check in
    let row = row_of_line run line c.args.table.now in
    let root = c.args.table.now.job.root in
    let some : checkpoint_name root owned ≡ Some check = its-check root owned c.args.own.now.step.now c.args.own.now.owner same owns ∙ sym (c.in-Some.ensures ∙ ap (λ r. checkpoint_name r (own_of c.args.own.now)) c.root.ensures) in
    let set = set-there tables.sets c.args.library.now check c.in-Some-get.set.now seen c.in-Some-get.ensures in
    IfOk-weaker c.fitting.result _ _
    (λ found is.
    next-set tables row owned (step_seen c.args.on.now) check set.0 (entry_made found) some set.1
    (is line tables owned set.0 seen (record { step = same; owner = owns; id = id-is c.in-Some-id_of.id _ (c.in-Some-id_of.ensures run owned same) }) set.1 set.2))
    c.fitting.ensures.entry
