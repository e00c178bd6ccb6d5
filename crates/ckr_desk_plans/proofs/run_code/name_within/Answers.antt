use Rattle.std.proofs.Common.{◌≡◌, ap, ◌∙◌, [], None, Option}
use Rattle.std.specs.Option.{is_some, option_map_or}
use Rattle.std.proofs.lemmas.Bool.{false≢true}
use Rattle.ckr_meaning.specs.EffectiveJob.{OwnedStep, step_at}
use Rattle.ckr_points.specs.Follows.{own_step}
use Rattle.ckr_points.specs.Restart.{place_of, step_in}
use Rattle.ckr_points_tables.specs.RunJobs.{effective}
use Rattle.ckr_desk_plans.specs.Plans.{row_for}
use Rattle.ckr_desk_plans.proofs.run_code.name_within.Goals as goal

pub unreachable-requires : goal.unreachable-requires
unreachable-requires c =
    let row = row_for c.args.run c.args.table.now in
    let step : c.step_in.result ≡ step_in (place_of row) = c.step_in.ensures ∙ ap step_in (c.place_of.ensures c.args.run) in
    let none : None ≡ own_step row = c.in-None.ensures.step ∙ ap (step_at (effective c.args.run c.args.table.now.job)) step in
    false≢true (ap is_some none ∙ c.requires.there)

pub returns : goal.returns
returns c =
    let run = c.args.run in
    let step : c.step_in.result ≡ step_in (place_of (row_for run c.args.table.now)) = c.step_in.ensures ∙ ap step_in (c.place_of.ensures run) in
    c.copied.ensures
    ∙ ap (λ (found : Option OwnedStep). option_map_or (λ own. own.step.name) found []) (c.in-Some.ensures.step ∙ ap (step_at (effective run c.args.table.now.job)) step)
