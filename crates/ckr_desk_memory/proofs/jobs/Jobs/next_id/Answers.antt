use Rattle.std.proofs.Common.{◌≡◌, ap, sym, ◌∙◌, refl}
use Rattle.std.proofs.lemmas.Option.{same_Some}
use Rattle.ckr_base.proofs.Options.{some-not-none}
use Rattle.ckr_meaning.specs.EffectiveJob.{OwnedStep, step_at}
use Rattle.ckr_points_tables.specs.RunJobs.{effective, own_of}
use Rattle.ckr_points.specs.Restart.{step_in}
use Rattle.ckr_points.specs.Rows.{RunRow, step_of_run}
use Rattle.ckr_desk_plans.specs.Entries.{next_id, step_now}
use Rattle.ckr_desk_turn.specs.Checkpoints.{id_in}
use Rattle.ckr_desk_memory.proofs.FoundRuns.{known-by}
use Rattle.ckr_desk_memory.proofs.jobs.Jobs.next_id.Goals as goal

pub returns-in_err-table : goal.returns-in_err-table
returns-in_err-table c row own at there = absurd (some-not-none row (sym at ∙ c.in_err-table.ensures.none))

pub returns-in_err-own : goal.returns-in_err-own
returns-in_err-own c row own at there =
    let run = c.args.on.now.run in
    let table = c.in_ok-table.table.now in
    absurd (some-not-none own (sym (c.in_err-own.ensures.step ∙ ap (step_at (effective run table.job)) (c.step_in.ensures ∙ ap step_in (c.place_of.ensures run))
    ∙ sym (known-by c.args.self.now.tables.desk run table c.in_ok-table.ensures.some (λ r. step_of_run r (step_now r)) refl row at) ∙ there)))

pub returns : goal.returns
returns c row own at there =
    let run = c.args.on.now.run in
    let table = c.in_ok-table.table.now in
    let known = c.in_ok-table.ensures.some in
    let is : own_of c.in_ok-own.own ≡ own =
    same_Some _ _ (c.in_ok-own.ensures.step ∙ ap (step_at (effective run table.job)) (c.step_in.ensures ∙ ap step_in (c.place_of.ensures run))
    ∙ sym (known-by c.args.self.now.tables.desk run table known (λ r. step_of_run r (step_now r)) refl row at) ∙ there) in
    c.id_of.ensures run own (ap (λ (o : OwnedStep). o.step) (sym is)) ∙ ap id_in (sym (known-by c.args.self.now.tables.desk run table known (λ (r : RunRow). next_id r own) refl row at))
