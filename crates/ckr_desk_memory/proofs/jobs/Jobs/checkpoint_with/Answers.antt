use Rattle.std.proofs.Common.{ap, refl, sym, ◌∙◌}
use Rattle.ckr_base.proofs.Options.{some-not-none}
use Rattle.ckr_entry.specs.Parts.{entry_of}
use Rattle.ckr_meaning.specs.EffectiveJob.{step_at}
use Rattle.ckr_points_tables.specs.Checkpoint.{checkpoint_name}
use Rattle.ckr_points_tables.specs.RunJobs.{effective, own_of}
use Rattle.ckr_points_tables.proofs.RunJobs.{fits-at}
use Rattle.ckr_points.specs.Restart.{step_in}
use Rattle.ckr_points.specs.Rows.{holding_of, step_of_run}
use Rattle.ckr_points_tables.specs.View.{seen_by}
use Rattle.ckr_desk_plans.specs.Entries.{step_now}
use Rattle.ckr_desk_memory.specs.Parts.{step_seen}
use Rattle.ckr_desk_memory.specs.View.{JobsView}
use Rattle.ckr_desk_memory.proofs.CheckpointParts.{checkpoint-is, end-most, id-grammar, name-is, own-found}
use Rattle.ckr_desk_plans.proofs.EntryPoints.{next-none, next-unset, set-none, set-there}
use Rattle.ckr_desk_memory.proofs.FoundRuns.{known-by}
use Rattle.ckr_desk_memory.proofs.jobs.Jobs.checkpoint_with.Goals as goal

pub returns-in_err-table-clause-some : goal.returns-in_err-table-clause-some
returns-in_err-table-clause-some c row own at there = absurd (some-not-none row (sym at ∙ c.in_err-table.ensures.none))

pub returns-in_err-own-clause-some : goal.returns-in_err-own-clause-some
returns-in_err-own-clause-some c row own at there =
    let run = c.args.on.now.run in
    let table = c.in_ok-table.table.now in
    absurd (some-not-none own (sym (c.in_err-own.ensures.step ∙ ap (step_at (effective run table.job)) (c.step_in.ensures ∙ ap step_in (c.place_of.ensures run))
    ∙ sym (known-by c.args.self.now.tables.desk run table c.in_ok-table.ensures.some (λ r. step_of_run r (step_now r)) refl row at) ∙ there)))

pub returns-in_err-check-clause-some : goal.returns-in_err-check-clause-some
returns-in_err-check-clause-some c row own at there =
    let run = c.args.on.now.run in
    let desk = c.args.self.now.tables.desk in
    let table = c.in_ok-table.table.now in
    let known = c.in_ok-table.ensures.some in
    let on = step_seen c.args.on.now in
    let its = own_of c.in_ok-own.own in
    let found = c.in_ok-own.ensures.step ∙ ap (step_at (effective run table.job)) (c.step_in.ensures ∙ ap step_in (c.place_of.ensures run)) in
    absurd (some-not-none (entry_of c.args.made.point)
    (c.requires.entry known.row its known.found (own-found desk on table known its found)
    ∙ sym (next-none desk known.row its on (name-is desk on table known its found ∙ sym (c.in_err-check.ensures ∙ ap (λ r. checkpoint_name r its) c.root.ensures)))))

pub returns-in_err-set-clause-some : goal.returns-in_err-set-clause-some
returns-in_err-set-clause-some c row own at there =
    let run = c.args.on.now.run in
    let desk = c.args.self.now.tables.desk in
    let table = c.in_ok-table.table.now in
    let known = c.in_ok-table.ensures.some in
    let on = step_seen c.args.on.now in
    let its = own_of c.in_ok-own.own in
    let found = c.in_ok-own.ensures.step ∙ ap (step_at (effective run table.job)) (c.step_in.ensures ∙ ap step_in (c.place_of.ensures run)) in
    let check = c.in_ok-check.check in
    let seen = c.library.ensures.sets ∙ ap (λ (v : JobsView). seen_by holding_of v.tables.desk.sets) c.self.view_is in
    absurd (some-not-none (entry_of c.args.made.point)
    (c.requires.entry known.row its known.found (own-found desk on table known its found)
    ∙ sym (next-unset desk known.row its on check (name-is desk on table known its found ∙ sym (c.in_ok-check.ensures ∙ ap (λ r. checkpoint_name r its) c.root.ensures)) (set-none desk.sets c.library.result.now check seen c.in_err-set.ensures))))

pub checkpoint_of-requires-clause-id : goal.checkpoint_of-requires-clause-id
checkpoint_of-requires-clause-id c =
    let run = c.args.on.now.run in
    let desk = c.args.self.now.tables.desk in
    let table = c.in_ok-table.table.now in
    let known = c.in_ok-table.ensures.some in
    let on = step_seen c.args.on.now in
    let its = own_of c.in_ok-own.own in
    let found = c.in_ok-own.ensures.step ∙ ap (step_at (effective run table.job)) (c.step_in.ensures ∙ ap step_in (c.place_of.ensures run)) in
    let check = c.in_ok-check.check in
    let seen = c.library.ensures.sets ∙ ap (λ (v : JobsView). seen_by holding_of v.tables.desk.sets) c.self.view_is in
    let set = set-there desk.sets c.library.result.now check c.in_ok-set.set.now seen c.in_ok-set.ensures in
    id-grammar desk on table known its found check (c.in_ok-check.ensures ∙ ap (λ r. checkpoint_name r its) c.root.ensures) set.0 set.1 (entry_of c.args.made.point) c.requires.entry

pub checkpoint_of-requires-clause-end : goal.checkpoint_of-requires-clause-end
checkpoint_of-requires-clause-end c =
    let run = c.args.on.now.run in
    let desk = c.args.self.now.tables.desk in
    let table = c.in_ok-table.table.now in
    let known = c.in_ok-table.ensures.some in
    let on = step_seen c.args.on.now in
    let its = own_of c.in_ok-own.own in
    let found = c.in_ok-own.ensures.step ∙ ap (step_at (effective run table.job)) (c.step_in.ensures ∙ ap step_in (c.place_of.ensures run)) in
    let check = c.in_ok-check.check in
    let seen = c.library.ensures.sets ∙ ap (λ (v : JobsView). seen_by holding_of v.tables.desk.sets) c.self.view_is in
    let set = set-there desk.sets c.library.result.now check c.in_ok-set.set.now seen c.in_ok-set.ensures in
    end-most desk on table known its found check (c.in_ok-check.ensures ∙ ap (λ r. checkpoint_name r its) c.root.ensures) set.0 set.1 (entry_of c.args.made.point) c.requires.entry c.args.made.bytes.items c.in_ok-set.set.now c.requires.bytes set.2 c.requires.jobs.0 c.requires.jobs.1.laid

pub returns-clause-checkpoint : goal.returns-clause-checkpoint
returns-clause-checkpoint c =
    let run = c.args.on.now.run in
    let desk = c.args.self.now.tables.desk in
    let table = c.in_ok-table.table.now in
    let known = c.in_ok-table.ensures.some in
    let on = step_seen c.args.on.now in
    let its = own_of c.in_ok-own.own in
    let found = c.in_ok-own.ensures.step ∙ ap (step_at (effective run table.job)) (c.step_in.ensures ∙ ap step_in (c.place_of.ensures run)) in
    let check = c.in_ok-check.check in
    let seen = c.library.ensures.sets ∙ ap (λ (v : JobsView). seen_by holding_of v.tables.desk.sets) c.self.view_is in
    let set = set-there desk.sets c.library.result.now check c.in_ok-set.set.now seen c.in_ok-set.ensures in
    checkpoint-is desk on table known its found check (c.in_ok-check.ensures ∙ ap (λ r. checkpoint_name r its) c.root.ensures) set.0 set.1 (entry_of c.args.made.point) c.requires.entry c.args.made.bytes.items c.in_ok-set.set.now c.requires.bytes set.2
    c.requires.typed c.requires.form c.checkpoint_of.result (ap (λ bytes. bytes.items) c.checkpoint_of.ensures.entry) c.checkpoint_of.ensures.set c.checkpoint_of.ensures.event

pub checkpoint_name-requires-clause-owner : goal.checkpoint_name-requires-clause-owner
checkpoint_name-requires-clause-owner c =
    (fits-at (effective c.args.on.now.run c.in_ok-table.table.now.job) c.in_ok-table.ensures.some.fits c.step_in.result (own_of c.in_ok-own.own) (sym c.in_ok-own.ensures.step)).owner
