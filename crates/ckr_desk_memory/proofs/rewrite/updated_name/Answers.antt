use Rattle.std.proofs.Common.{◌≡◌, ap, sym, ◌∙◌, Option, None, option_and_then, arith}
use Rattle.std.specs.Option.{option_map_or}
use Rattle.ckr_meaning.specs.EffectiveJob.{OwnedStep, name_of, step_at}
use Rattle.ckr_points.specs.Restart.{place_of, step_in}
use Rattle.ckr_points_tables.proofs.RunJobs.{fits-at}
use Rattle.ckr_points_tables.specs.RunJobs.{effective, own_of}
use Rattle.ckr_uses.specs.SetNames.{library_name}
use Rattle.ckr_desk_memory.specs.Plans.{row_for}
use Rattle.ckr_desk_memory.specs.Rewrite.{updated_in}
use Rattle.ckr_desk_memory.proofs.rewrite.updated_name.Goals as goal

pub returns-in_err-own : goal.returns-in_err-own
returns-in_err-own c =
    let run = c.args.run in
    let row = row_for run c.args.table.now in
    let step : c.step_in.result ≡ step_in (place_of row) = c.step_in.ensures ∙ ap step_in (c.place_of.ensures run) in
    c.from_residual.ensures ∙ ap (λ (found : Option OwnedStep). option_map_or (updated_in row) found None) (c.in_err-own.ensures.step ∙ ap (step_at (effective run c.args.table.now.job)) step)

pub returns-in_err-dd : goal.returns-in_err-dd
returns-in_err-dd c =
    let run = c.args.run in
    let row = row_for run c.args.table.now in
    let own = own_of c.in_ok-own.own in
    let step : c.step_in.result ≡ step_in (place_of row) = c.step_in.ensures ∙ ap step_in (c.place_of.ensures run) in
    c.from_residual-in_err-dd.ensures ∙ ap (option_and_then (name_of row.job.root own)) c.in_err-dd.ensures
    ∙ ap (λ (found : Option OwnedStep). option_map_or (updated_in row) found None) (c.in_ok-own.ensures.step ∙ ap (step_at (effective run c.args.table.now.job)) step)

pub library_name-requires-clause-root : goal.library_name-requires-clause-root
library_name-requires-clause-root c = omega (arith, c.root.ensures, c.requires.root)

pub library_name-requires-clause-owner : goal.library_name-requires-clause-owner
library_name-requires-clause-owner c =
    (fits-at (effective c.args.run c.args.table.now.job) c.requires c.step_in.result (own_of c.in_ok-own.own) (sym c.in_ok-own.ensures.step)).owner

pub returns : goal.returns
returns c =
    let run = c.args.run in
    let row = row_for run c.args.table.now in
    let own = own_of c.in_ok-own.own in
    let step : c.step_in.result ≡ step_in (place_of row) = c.step_in.ensures ∙ ap step_in (c.place_of.ensures run) in
    c.library_name.ensures
    ∙ ap (λ root. library_name c.in_ok-dd.dd.now root own.owner own.step.name) c.root.ensures
    ∙ ap (option_and_then (name_of row.job.root own)) c.in_ok-dd.ensures
    ∙ ap (λ (found : Option OwnedStep). option_map_or (updated_in row) found None) (c.in_ok-own.ensures.step ∙ ap (step_at (effective run c.args.table.now.job)) step)
