use Rattle.std.proofs.Common.{◌≡◌, ℕ, zero, suc, ◌+◌, ◌-◌, ◌<◌, ◌≤◌, ◌||◌, pred, take, drop, length, refl, ap, sym, ◌∙◌, arith, add-one}
use Rattle.std.proofs.lemmas.List.{length-take}
use Rattle.ckr_points_runs.proofs.RunJobs.{made-end, made-next}
use Rattle.ckr_points_runs.specs.RunJobs.{effective}
use Rattle.ckr_points_runs.specs.MadeNames.{made_in, points_in}
use Rattle.ckr_points_runs.proofs.made_names.made_in.Goals as goal
use Rattle.ckr_points_runs.proofs.made_names.made_in.Goals.{After-made_in_step}

one-less : (n : ℕ) → pred n ≡ n - 1
one-less zero = omega arith
one-less (suc n) = omega arith

-- the step at the place, and those behind it
next-is : (c : After-made_in_step) → (
    made_in (points_in c.args.tables.now) c.args.job.now.root (c.loop-place.place + 1) (drop c.loop-place.place (take (pred c.args.step) (effective c.args.run c.args.job.now).steps)) c.args.name.now
    ≡ (c.made_in_step.result || made_in (points_in c.args.tables.now) c.args.job.now.root (c.loop-place.place + 1 + 1) (drop (c.loop-place.place + 1) (take (pred c.args.step) (effective c.args.run c.args.job.now).steps)) c.args.name.now))
next-is c =
    let root = c.args.job.now.root in
    let points = points_in c.args.tables.now in
    let steps = (effective c.args.run c.args.job.now).steps in
    let place = c.loop-place.place in
    let rest = drop (place + 1) (take (pred c.args.step) steps) in
    let inside : place < length steps = omega (arith, c.loop-place-test.true, c.min-count.ensures, c.count_steps.ensures c.args.run) in
    let first : place < pred c.args.step = omega (arith, c.loop-place-test.true, c.min-count.ensures, c.saturating_sub.ensures, c.from.ensures, one-less c.args.step) in
    made-next points root c.args.name.now steps (pred c.args.step) place (place + 1) (place + 1) first inside refl
    ∙ ap (λ b. b || made_in points root (suc (place + 1)) rest c.args.name.now) (sym c.made_in_step.ensures)
    ∙ ap (λ n. c.made_in_step.result || made_in points root n rest c.args.name.now) (sym (add-one (place + 1)))

pub made_in_step-requires-clause-place : goal.made_in_step-requires-clause-place
made_in_step-requires-clause-place c = omega (arith, c.loop-place-test.true, c.min-count.ensures, c.count_steps.ensures c.args.run, c.requires.fits.few)

pub loop-place-preserved : goal.loop-place-preserved
loop-place-preserved c =
    let rest = made_in (points_in c.args.tables.now) c.args.job.now.root (c.loop-place.place + 1 + 1) (drop (c.loop-place.place + 1) (take (pred c.args.step) (effective c.args.run c.args.job.now).steps)) c.args.name.now in
    ap (λ b. b || rest) (sym c.if-made_in_step.false) ∙ sym (next-is c.before) ∙ c.loop-place.invariant

pub returns-then-made_in_step : goal.returns-then-made_in_step
returns-then-made_in_step c =
    let rest = made_in (points_in c.args.tables.now) c.args.job.now.root (c.loop-place.place + 1 + 1) (drop (c.loop-place.place + 1) (take (pred c.args.step) (effective c.args.run c.args.job.now).steps)) c.args.name.now in
    ap (λ b. b || rest) (sym c.if-made_in_step.true) ∙ sym (next-is c.before) ∙ c.loop-place.invariant

pub returns : goal.returns
returns c =
    let steps = (effective c.args.run c.args.job.now).steps in
    let beyond : length (take (pred c.args.step) steps) ≤ c.loop-place.place =
    omega (arith, c.loop-place-test.false, c.min-count.ensures, c.saturating_sub.ensures, c.from.ensures, one-less c.args.step, c.count_steps.ensures c.args.run, length-take (pred c.args.step) steps) in
    sym (made-end (points_in c.args.tables.now) c.args.job.now.root c.args.name.now steps (pred c.args.step) c.loop-place.place (c.loop-place.place + 1) beyond) ∙ c.loop-place.invariant
