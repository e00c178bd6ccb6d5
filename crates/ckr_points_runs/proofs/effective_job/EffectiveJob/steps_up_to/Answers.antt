use Rattle.std.proofs.Common.{◌<◌, ◌++◌, ◌∷◌, [], length, take, ap, sym, ◌∙◌, arith, add-one}
use Rattle.std.proofs.lemmas.List.{length-take}
use Rattle.ckr_base.proofs.Sequences.{get-some, get-there}
use Rattle.ckr_points_runs.specs.RunJobs.{effective}
use Rattle.ckr_points_runs.proofs.RunJobs.{take-far, take-next}
use Rattle.ckr_points_runs.proofs.effective_job.EffectiveJob.steps_up_to.Goals as goal

pub take_over-requires : goal.take_over-requires
take_over-requires c =
    let steps = (effective c.args.run c.args.self.now).steps in
    let place = c.loop-place.place in
    let inside : place < length steps = omega (arith, c.loop-place-test.true, c.min-count.ensures, c.count_steps.ensures c.args.run) in
    record {
      next = omega (arith, ap length c.loop-place.invariant.steps, length-take place steps, inside);
      there = get-some steps place inside;
    }

pub loop-place-preserved : goal.loop-place-preserved
loop-place-preserved c =
    let steps = (effective c.args.run c.args.self.now).steps in
    let place = c.loop-place.place in
    let inside : place < length steps = omega (arith, c.loop-place-test.true, c.min-count.ensures, c.count_steps.ensures c.args.run) in
    let there = get-there steps place inside in
    record {
      steps = c.in_ok-take_over.ensures there.0 there.1 ∙ ap (λ some. some ++ there.0 ∷ []) c.loop-place.invariant.steps ∙ take-next steps place there.0 there.1 ∙ ap (λ n. take n steps) (sym (add-one place));
      within = omega (arith, c.loop-place-test.true, c.min-count.ensures, c.from.ensures);
    }

pub returns : goal.returns
returns c =
    let steps = (effective c.args.run c.args.self.now).steps in
    let place = c.loop-place.place in
    c.loop-place.invariant.steps
    ∙ take-far steps place c.args.step c.loop-place.invariant.within (λ less. omega (arith, less, c.loop-place-test.false, c.min-count.ensures, c.from.ensures, c.count_steps.ensures c.args.run))
