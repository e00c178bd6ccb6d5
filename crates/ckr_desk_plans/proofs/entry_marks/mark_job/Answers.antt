use Rattle.std.proofs.Common.{◌≡◌, ◌-◌, [], ◌++◌, ap, drop, refl, subst, sym, IsTrue, ◌∙◌, arith}
use Rattle.std.proofs.lemmas.List.{drop_all}
use Rattle.ckr_base.proofs.Numbers.{zero-least}
use Rattle.ckr_meaning.specs.EffectiveJob.{names_of_steps, step_at}
use Rattle.ckr_points_tables.specs.MarkOrder.{are_in_order, marked, marked_onto}
use Rattle.ckr_points_tables.specs.RunJobs.{effective, names_in}
use Rattle.ckr_points_tables.proofs.MarkOrder.{onto-append, onto-marks}
use Rattle.ckr_desk_plans.specs.EntryMarks.{mark_behind}
use Rattle.ckr_desk_plans.proofs.EntryPoints.{names-before}
use Rattle.ckr_desk_plans.proofs.entry_marks.mark_job.Goals as goal

pub loop-left-init : goal.loop-left-init
loop-left-init c =
    let behind = c.args.behind.now in
    let job = effective behind.on.now.run behind.table.now.job in
    let none : drop 64 job.steps ≡ [] = drop_all 64 job.steps (c.requires.fits.few) in
    record {
      within = omega arith;
      items = ap marked c.new-items.ensures.items ∙ ap (λ some. marked_onto (mark_behind behind) (names_of_steps job.root some) []) (sym none);
      order = subst (λ marks. IsTrue (are_in_order marks)) (sym c.new-items.ensures.items) refl;
    }

pub loop-left-preserved : goal.loop-left-preserved
loop-left-preserved c =
    let behind = c.args.behind.now in
    let job = effective behind.on.now.run behind.table.now.job in
    let left = c.loop-left.left in
    let here = names_in job.root (step_at job left) in
    let next : names_of_steps job.root (drop (left - 1) job.steps) ≡ here ++ names_of_steps job.root (drop left job.steps) = names-before job left c.loop-left-test.true in
    record {
      within = omega (arith, c.loop-left.invariant.within);
      items =
          c.in_ok-mark_step_at.ensures.items
          ∙ ap (marked_onto (mark_behind behind) here) c.loop-left.invariant.items
          ∙ sym (onto-append (mark_behind behind) here (names_of_steps job.root (drop left job.steps)) [])
          ∙ ap (λ names. marked_onto (mark_behind behind) names []) (sym next);
      order = c.in_ok-mark_step_at.ensures.order;
    }

pub returns-clause-items : goal.returns-clause-items
returns-clause-items c =
    let behind = c.args.behind.now in
    let job = effective behind.on.now.run behind.table.now.job in
    onto-marks (mark_behind behind) (names_of_steps job.root job.steps) c.loop-left.items.items
    (c.loop-left.invariant.items
    ∙ ap (λ i. marked_onto (mark_behind behind) (names_of_steps job.root (drop i job.steps)) []) (zero-least c.loop-left.left c.loop-left-test.false))
