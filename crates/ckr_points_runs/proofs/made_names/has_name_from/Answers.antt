use Rattle.std.proofs.Common.{◌≡◌, ◌+◌, ◌<◌, ◌||◌, drop, length, refl, ap, sym, ◌∙◌, arith}
use Rattle.std.proofs.lemmas.List.{drop_all}
use Rattle.ckr_meaning.specs.EffectiveJob.{is_among, names_of_steps}
use Rattle.ckr_points_runs.specs.RunJobs.{effective}
use Rattle.ckr_points_runs.proofs.OwnNames.{among-next}
use Rattle.ckr_points_runs.proofs.made_names.has_name_from.Goals as goal
use Rattle.ckr_points_runs.proofs.made_names.has_name_from.Goals.{After-has_name_at}

-- the step at the place, and those behind it
next-is : (c : After-has_name_at) → (let root = c.args.job.now.root in let steps = (effective c.args.run c.args.job.now).steps in
    is_among (names_of_steps root (drop c.loop-place.place steps)) c.args.name.now ≡ (c.has_name_at.result || is_among (names_of_steps root (drop (c.loop-place.place + 1) steps)) c.args.name.now))
next-is c =
    let root = c.args.job.now.root in
    let steps = (effective c.args.run c.args.job.now).steps in
    let place = c.loop-place.place in
    let inside : place < length steps = omega (arith, c.loop-place-test.true, c.count_steps-place-end.ensures c.args.run) in
    among-next root steps place (place + 1) c.args.name.now inside refl
    ∙ ap (λ b. b || is_among (names_of_steps root (drop (place + 1) steps)) c.args.name.now) (sym c.has_name_at.ensures)

pub loop-place-preserved : goal.loop-place-preserved
loop-place-preserved c =
    let rest = is_among (names_of_steps c.args.job.now.root (drop (c.loop-place.place + 1) (effective c.args.run c.args.job.now).steps)) c.args.name.now in
    ap (λ b. b || rest) (sym c.if-has_name_at.false) ∙ sym (next-is c.before) ∙ c.loop-place.invariant

pub returns-then-has_name_at : goal.returns-then-has_name_at
returns-then-has_name_at c =
    let rest = is_among (names_of_steps c.args.job.now.root (drop (c.loop-place.place + 1) (effective c.args.run c.args.job.now).steps)) c.args.name.now in
    ap (λ b. b || rest) (sym c.if-has_name_at.true) ∙ sym (next-is c.before) ∙ c.loop-place.invariant

pub returns : goal.returns
returns c =
    let root = c.args.job.now.root in
    let steps = (effective c.args.run c.args.job.now).steps in
    ap (λ some. is_among (names_of_steps root some) c.args.name.now) (sym (drop_all c.loop-place.place steps (omega (arith, c.loop-place-test.false, c.count_steps-place-end.ensures c.args.run))))
    ∙ c.loop-place.invariant
