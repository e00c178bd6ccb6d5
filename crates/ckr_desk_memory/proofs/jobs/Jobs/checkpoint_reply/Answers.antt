use Rattle.std.proofs.Common.{◌≡◌, ap, sym, ◌∙◌, refl}
use Rattle.std.proofs.lemmas.Option.{same_Some}
use Rattle.ckr_base.proofs.Options.{some-not-none}
use Rattle.ckr_meaning.specs.EffectiveJob.{OwnedStep, step_at}
use Rattle.ckr_points_tables.specs.RunJobs.{effective, own_of}
use Rattle.ckr_points.specs.Restart.{step_in}
use Rattle.ckr_points.specs.Rows.{RunRow, step_of_run}
use Rattle.ckr_points.specs.declared.reply.Reply.TheVariants.{Checkpointed}
use Rattle.ckr_desk_plans.specs.Entries.{next_id, step_now}
use Rattle.ckr_desk_turn.specs.Checkpoints.{id_in}
use Rattle.ckr_desk_memory.proofs.FoundRuns.{known-by}
use Rattle.ckr_desk_memory.proofs.jobs.Jobs.checkpoint_reply.Goals as goal

pub returns-in_default : goal.returns-in_default
returns-in_default c row own at there = absurd (some-not-none row (sym at ∙ c.in_default.ensures.none))

pub returns-in_default-step_at : goal.returns-in_default-step_at
returns-in_default-step_at c row own at there =
    let run = c.args.on.now.run in
    let table = c.in-Some.table.now in
    absurd (some-not-none own (sym (c.in_default-step_at.ensures.step ∙ ap (step_at (effective run table.job)) (c.step_in.ensures ∙ ap step_in (c.place_of.ensures run))
    ∙ sym (known-by c.args.self.now.tables.desk run table c.in-Some.ensures.some (λ r. step_of_run r (step_now r)) refl row at) ∙ there)))

pub returns : goal.returns
returns c row own at there =
    let run = c.args.on.now.run in
    let table = c.in-Some.table.now in
    let known = c.in-Some.ensures.some in
    let is : own_of c.in-Some-step_at.own ≡ own =
    same_Some _ _ (c.in-Some-step_at.ensures.step ∙ ap (step_at (effective run table.job)) (c.step_in.ensures ∙ ap step_in (c.place_of.ensures run))
    ∙ sym (known-by c.args.self.now.tables.desk run table known (λ r. step_of_run r (step_now r)) refl row at) ∙ there) in
    ap (λ name. Checkpointed run name c.args.code c.id_of.result) (c.copied.ensures ∙ ap (λ (o : OwnedStep). o.step.name) is)
    ∙ ap (Checkpointed run own.step.name c.args.code) (c.id_of.ensures run own (ap (λ (o : OwnedStep). o.step) (sym is)) ∙ ap id_in (sym (known-by c.args.self.now.tables.desk run table known (λ (r : RunRow). next_id r own) refl row at)))
    ∙ ap (λ n. Checkpointed n own.step.name c.args.code (id_in (next_id row own))) (sym (known-by c.args.self.now.tables.desk run table known (λ (r : RunRow). r.number) refl row at))
