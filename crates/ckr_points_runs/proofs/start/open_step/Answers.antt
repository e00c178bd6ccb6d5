use Rattle.std.proofs.Common.{◌≡◌, ap, sym, ◌∙◌, subst, arith, Some}
use Rattle.std.specs.Option.{option_map}
use Rattle.ckr_points_library.specs.Holdings.{holding_ways, standing}
use Rattle.ckr_meaning.specs.Allotments.{opened_all}
use Rattle.ckr_library.specs.Catalog.{fresh_holding}
use Rattle.ckr_meaning.specs.EffectiveJob.{placed_in, name_of, stamp_of, step_at}
use Rattle.ckr_points_runs.specs.NewSets.{MayMakeAll}
use Rattle.ckr_points_runs.specs.RunJobs.{effective, own_of}
use Rattle.ckr_points_runs.specs.View.{facts_of}
use Rattle.ckr_points_runs.specs.Start.{MayStartIn}
use Rattle.ckr_points_runs.proofs.RunJobs.{fits-at}
use Rattle.ckr_points_runs.proofs.start.open_step.Goals as goal

pub make_sets-requires-clause-room : goal.make_sets-requires-clause-room
make_sets-requires-clause-room c =
    let job = effective c.args.run c.args.table.now.job in
    let own = own_of c.in_ok-own.own in
    let here : step_at job c.args.step ≡ Some own = sym c.step_at.ensures.step ∙ ap (option_map own_of) c.in_ok-own.was in
    omega (arith, (fits-at job c.requires.fits c.args.step own here).dds, c.requires.sets, c.open_outputs.ensures.room)

pub make_sets-requires-clause-may : goal.make_sets-requires-clause-may
make_sets-requires-clause-may c =
    let own = own_of c.in_ok-own.own in
    let sets = c.args.library.now.sets in
    let root = c.args.table.now.job.root in
    let here : step_at (effective c.args.run c.args.table.now.job) c.args.step ≡ Some own = sym c.step_at.ensures.step ∙ ap (option_map own_of) c.in_ok-own.was in
    subst (λ r. MayMakeAll fresh_holding (stamp_of own c.args.step) c.args.items.now (name_of r own) 1 own.step.dds c.open_outputs.new.library.sets) (sym c.root-root.ensures)
    (subst (λ all. MayMakeAll fresh_holding (stamp_of own c.args.step) c.args.items.now (name_of root own) 1 own.step.dds all)
    (sym (
    c.open_outputs.ensures.sets own.tests
    ∙ ap (λ passed. opened_all holding_ways (stamp_of own c.args.step) (placed_in holding_ways (standing sets passed) c.root-root.result own) sets) c.as_slice.ensures
    ∙ ap (λ r. opened_all holding_ways (stamp_of own c.args.step) (placed_in holding_ways (standing sets c.args.table.now.passed.items) r own) sets) c.root-root.ensures
    ))
    (subst (MayStartIn c.args.run c.args.step c.args.items.now (facts_of c.args.table.now) sets) here c.requires.may))
