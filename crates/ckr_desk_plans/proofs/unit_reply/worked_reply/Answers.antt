use Rattle.std.proofs.Common.{◌≡◌, ap, sym, ◌∙◌, [], Option, Some}
use Rattle.std.specs.Option.{option_map_or}
use Rattle.ckr_base.proofs.Options.{is_some-from, some-not-none}
use Rattle.ckr_meaning.specs.EffectiveJob.{OwnedStep, step_at}
use Rattle.ckr_points.specs.Follows.{own_step}
use Rattle.ckr_points.specs.Restart.{place_of, step_in}
use Rattle.ckr_points.specs.declared.reply.Reply.TheVariants.{Worked}
use Rattle.ckr_desk_turn.specs.Jobs.{step_name_of}
use Rattle.ckr_points_tables.specs.RunJobs.{effective}
use Rattle.ckr_desk_plans.specs.Plans.{row_for}
use Rattle.ckr_desk_plans.proofs.unit_reply.worked_reply.Goals as goal

pub returns-in_err-own-clause-reply : goal.returns-in_err-own-clause-reply
returns-in_err-own-clause-reply c = λ own there.
    let run = c.args.on.now.run in
    let row = row_for run c.args.table.now in
    let step : c.step_in.result ≡ step_in (place_of row) = c.step_in.ensures ∙ ap step_in (c.place_of.ensures run) in
    absurd (some-not-none own (sym there ∙ sym (c.in_err-own.ensures.step ∙ ap (step_at (effective run c.args.table.now.job)) step)))

pub returns-clause-reply : goal.returns-clause-reply
returns-clause-reply c = λ own there.
    let run = c.args.on.now.run in
    let row = row_for run c.args.table.now in
    let step : c.step_in.result ≡ step_in (place_of row) = c.step_in.ensures ∙ ap step_in (c.place_of.ensures run) in
    let name : c.copied.result ≡ step_name_of row =
    c.copied.ensures
    ∙ ap (λ (found : Option OwnedStep). option_map_or (λ own. own.step.name) found []) (c.in_ok-own.ensures.step ∙ ap (step_at (effective run c.args.table.now.job)) step) in
    ap (λ n. Some (Worked run n c.progress_behind.result.taken)) name
    ∙ ap (λ n. Some (Worked run (step_name_of row) n)) c.progress_behind.ensures.taken

pub returns-clause-there : goal.returns-clause-there
returns-clause-there c =
    let run = c.args.on.now.run in
    let row = row_for run c.args.table.now in
    let step : c.step_in.result ≡ step_in (place_of row) = c.step_in.ensures ∙ ap step_in (c.place_of.ensures run) in
    is_some-from (own_step row) _ (sym (c.in_ok-own.ensures.step ∙ ap (step_at (effective run c.args.table.now.job)) step))
