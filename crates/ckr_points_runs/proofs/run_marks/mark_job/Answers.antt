use Rattle.std.proofs.Common.{◌≡◌, ℕ, ◌<◌, ◌≤◌, ◌+◌, ◌-◌, [], ◌++◌, length-append, ap, sym, ◌∙◌, length, arith, drop, slice_get}
use Rattle.std.proofs.lemmas.List.{drop_all}
use Rattle.ckr_base.proofs.Numbers.{zero-least}
use Rattle.ckr_meaning.specs.EffectiveJob.{names_of_job, names_of_steps}
use Rattle.ckr_points_runs.specs.MarkOrder.{marked, marked_onto}
use Rattle.ckr_points_runs.specs.RunJobs.{effective, names_in}
use Rattle.ckr_points_runs.specs.RunMarks.{marking_mark}
use Rattle.ckr_points_runs.proofs.MarkOrder.{marks-most, onto-append, onto-marks}
use Rattle.ckr_points_runs.proofs.RunJobs.{names-here, names-next}
use Rattle.ckr_points_runs.proofs.run_marks.mark_job.Goals as goal

one_back : (n : ℕ) → 0 < n → n ≡ n - 1 + 1
one_back n some = omega arith

pub mark_step_in-requires-clause-room : goal.mark_step_in-requires-clause-room
mark_step_in-requires-clause-room c =
    let root = c.args.marking.now.job.now.root in
    let steps = (effective c.args.marking.now.run c.args.marking.now.job.now).steps in
    let left = c.loop-left.left in
    let inside : left - 1 < length steps = omega (arith, c.loop-left.invariant.within, c.loop-left-test.true) in
    let here : length (names_in root (slice_get steps (left - 1))) + length (names_of_steps root (drop left steps)) ≤ length (names_of_steps root steps) =
    names-here root steps (left - 1) left inside (one_back left c.loop-left-test.true) in
    omega (arith, here, c.loop-left.invariant.room, c.requires.room, c.clear.ensures.room)

pub loop-left-preserved : goal.loop-left-preserved
loop-left-preserved c =
    let root = c.args.marking.now.job.now.root in
    let steps = (effective c.args.marking.now.run c.args.marking.now.job.now).steps in
    let left = c.loop-left.left in
    let mark = marking_mark c.args.marking.now in
    let inside : left - 1 < length steps = omega (arith, c.loop-left.invariant.within, c.loop-left-test.true) in
    let next : names_of_steps root (drop (left - 1) steps) ≡ names_in root (slice_get steps (left - 1)) ++ names_of_steps root (drop left steps) =
    names-next root steps (left - 1) left inside (one_back left c.loop-left-test.true) in
    record {
      within = omega (arith, inside);
      items =
          c.mark_step_in.ensures.items
          ∙ ap (marked_onto mark (names_in root (slice_get steps (left - 1)))) c.loop-left.invariant.items
          ∙ sym (onto-append mark (names_in root (slice_get steps (left - 1))) (names_of_steps root (drop left steps)) [])
          ∙ ap (λ names. marked_onto mark names []) (sym next);
      room = omega (arith, c.loop-left.invariant.room, c.mark_step_in.ensures.room, ap length next, length-append (names_in root (slice_get steps (left - 1))) (names_of_steps root (drop left steps)));
    }

pub returns-clause-marks : goal.returns-clause-marks
returns-clause-marks c =
    let steps = (effective c.args.marking.now.run c.args.marking.now.job.now).steps in
    let mark = marking_mark c.args.marking.now in
    onto-marks mark (names_of_steps c.args.marking.now.job.now.root steps) c.loop-left.marks.items (
    c.loop-left.invariant.items
    ∙ ap (λ i. marked_onto mark (names_of_steps c.args.marking.now.job.now.root (drop i steps)) []) (zero-least c.loop-left.left c.loop-left-test.false))

pub returns-clause-few : goal.returns-clause-few
returns-clause-few c =
    let names = names_of_job (effective c.args.marking.now.run c.args.marking.now.job.now) in
    omega (arith, ap length (returns-clause-marks c), marks-most (marking_mark c.args.marking.now) names)

pub loop-left-init : goal.loop-left-init
loop-left-init c =
    let steps = (effective c.args.marking.now.run c.args.marking.now.job.now).steps in
    let mark = marking_mark c.args.marking.now in
    let none : drop c.count_steps-left.result steps ≡ [] = drop_all c.count_steps-left.result steps (omega (arith, c.count_steps-left.ensures c.args.marking.now.run)) in
    record {
      within = omega (arith, c.count_steps-left.ensures c.args.marking.now.run);
      items = ap marked c.clear.ensures.items ∙ ap (λ some. marked_onto mark (names_of_steps c.args.marking.now.job.now.root some) []) (sym none);
      room = omega (arith, c.clear.ensures.room);
    }
