use Rattle.std.proofs.Common.{◌≡◌, [], Option, ap, sym, ◌∙◌, subst, refl, arith}
use Rattle.std.specs.Option.{option_map_or}
use Rattle.ckr_events.specs.Format.{length_list}
use Rattle.ckr_meaning.specs.EffectiveJob.{OwnedStep, step_at}
use Rattle.ckr_points.specs.Restart.{place_of, step_in}
use Rattle.ckr_points_tables.proofs.RunJobs.{fits-at}
use Rattle.ckr_points_tables.specs.RunJobs.{effective, own_of}
use Rattle.ckr_desk_plans.specs.Extents.{sets_of}
use Rattle.ckr_desk_plans.specs.Plans.{row_for}
use Rattle.ckr_desk_plans.specs.StepView.{lengths_in}
use Rattle.ckr_desk_plans.proofs.run_code.lengths_of.Goals as goal

pub lengths_in-requires-clause-root : goal.lengths_in-requires-clause-root
lengths_in-requires-clause-root c = omega (arith, c.root.ensures, c.requires.fits.root)

pub lengths_in-requires-clause-owner : goal.lengths_in-requires-clause-owner
lengths_in-requires-clause-owner c =
    (fits-at (effective c.args.run c.args.table.now.job) c.requires.fits c.step_in.result (own_of c.in-Some.own) (sym c.in-Some.ensures.step)).owner

pub lengths_in-requires-clause-few : goal.lengths_in-requires-clause-few
lengths_in-requires-clause-few c =
    (fits-at (effective c.args.run c.args.table.now.job) c.requires.fits c.step_in.result (own_of c.in-Some.own) (sym c.in-Some.ensures.step)).dds

pub returns-in-Some-clause-lengths : goal.returns-in-Some-clause-lengths
returns-in-Some-clause-lengths c =
    let step : c.step_in.result ≡ step_in (place_of (row_for c.args.run c.args.table.now)) = c.step_in.ensures ∙ ap step_in (c.place_of.ensures c.args.run) in
    c.lengths_in.ensures.lengths
    ∙ ap (λ root. lengths_in (sets_of c.args.extents.now) root (own_of c.in-Some.own)) c.root.ensures
    ∙ ap (λ (found : Option OwnedStep). option_map_or (lengths_in (sets_of c.args.extents.now) c.args.table.now.job.root) found [])
    (c.in-Some.ensures.step ∙ ap (step_at (effective c.args.run c.args.table.now.job)) step)

pub returns-in-None : goal.returns-in-None
returns-in-None c =
    let step : c.step_in.result ≡ step_in (place_of (row_for c.args.run c.args.table.now)) = c.step_in.ensures ∙ ap step_in (c.place_of.ensures c.args.run) in
    record {
      lengths =
          c.new.ensures
          ∙ ap (λ (found : Option OwnedStep). option_map_or (lengths_in (sets_of c.args.extents.now) c.args.table.now.job.root) found [])
          (c.in-None.ensures.step ∙ ap (step_at (effective c.args.run c.args.table.now.job)) step);
      fits = subst length_list.fits (sym c.new.ensures) ((omega arith, refl), tt);
    }
