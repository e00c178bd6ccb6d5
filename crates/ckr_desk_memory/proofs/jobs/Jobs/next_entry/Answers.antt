use Rattle.std.proofs.Common.{◌≡◌, IfOk, ap, refl, sym, subst, ◌∙◌}
use Rattle.std.proofs.lemmas.Option.{same_Some}
use Rattle.ckr_base.proofs.Options.{some-not-none}
use Rattle.ckr_meaning.specs.EffectiveJob.{OwnedStep, step_at}
use Rattle.ckr_points_tables.specs.RunJobs.{effective, own_of}
use Rattle.ckr_points_tables.proofs.RunJobs.{fits-at}
use Rattle.ckr_points.specs.Restart.{step_in}
use Rattle.ckr_points.specs.Rows.{RunRow, holding_of, run_of, step_of_run}
use Rattle.ckr_points_tables.specs.View.{line_of, seen_by}
use Rattle.ckr_desk_plans.specs.Entries.{entry_made, next_entry, step_now}
use Rattle.ckr_desk_memory.specs.Parts.{step_seen}
use Rattle.ckr_desk_memory.specs.View.{JobsView}
use Rattle.ckr_desk_plans.proofs.EntryPoints.{names-few}
use Rattle.ckr_desk_memory.proofs.FoundRuns.{known-by, told-row}
use Rattle.ckr_desk_memory.proofs.jobs.Jobs.next_entry.Goals as goal

pub returns-in_default-step_at-clause-entry : goal.returns-in_default-step_at-clause-entry
returns-in_default-step_at-clause-entry c row own at there =
    let run = c.args.on.now.run in
    let table = c.in-Some.table.now in
    absurd (some-not-none own (sym (c.in_default-step_at.ensures.step ∙ ap (step_at (effective run table.job)) (c.step_in.ensures ∙ ap step_in (c.place_of.ensures run))
    ∙ sym (known-by c.args.self.now.tables.desk run table c.in-Some.ensures.some (λ r. step_of_run r (step_now r)) refl row at) ∙ there)))

pub next_of-requires-clause-names : goal.next_of-requires-clause-names
next_of-requires-clause-names c = names-few (effective c.args.on.now.run c.in-Some.table.now.job) c.in-Some.ensures.some.fits

pub next_of-requires-clause-owner : goal.next_of-requires-clause-owner
next_of-requires-clause-owner c =
    (fits-at (effective c.args.on.now.run c.in-Some.table.now.job) c.in-Some.ensures.some.fits c.step_in.result (own_of c.in-Some-step_at.own) (sym c.in-Some-step_at.ensures.step)).owner

pub returns-clause-entry : goal.returns-clause-entry
returns-clause-entry c row own at there =
    let run = c.args.on.now.run in
    let table = c.in-Some.table.now in
    let desk = c.args.self.now.tables.desk in
    let known = c.in-Some.ensures.some in
    let is : own_of c.in-Some-step_at.own ≡ own =
    same_Some _ _ (c.in-Some-step_at.ensures.step ∙ ap (step_at (effective run table.job)) (c.step_in.ensures ∙ ap step_in (c.place_of.ensures run))
    ∙ sym (known-by desk run table known (λ r. step_of_run r (step_now r)) refl row at) ∙ there) in
    let plain = c.runs-lines.ensures.rows run row (ap (λ (v : JobsView). run_of v.tables.desk run) c.self.view_is ∙ at) in
    subst (λ (r : RunRow). IfOk c.next_of.result (λ found. entry_made found ≡ next_entry desk r own (step_seen c.args.on.now))) (sym (told-row desk run table known row at plain.told))
    (c.next_of.ensures.entry (line_of row) desk own (c.library.ensures.sets ∙ ap (λ (v : JobsView). seen_by holding_of v.tables.desk.sets) c.self.view_is) (ap (λ (o : OwnedStep). o.step) (sym is)) (ap (λ (o : OwnedStep). o.owner) (sym is)))
