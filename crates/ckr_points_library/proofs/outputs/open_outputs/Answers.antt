use Rattle.std.proofs.Common.{◌∙◌, sym, ap, []}
use Rattle.std.proofs.lemmas.List.{at_drop_all}
use Rattle.ckr_meaning.specs.EffectiveJob.{name_of, stamp_of}
use Rattle.ckr_points_library.specs.Holdings.{owned}
use Rattle.ckr_points_library.proofs.Openings.{opened_in_turn, opened-in_turn}
use Rattle.ckr_points_library.proofs.outputs.open_outputs.Goals as goal

pub returns-clause-sets : goal.returns-clause-sets
returns-clause-sets c = λ tests.
    let own = owned c.args.step.now c.args.owner [] in
    let stamp = stamp_of own c.args.number in
    sym (at_drop_all (λ dds. opened_in_turn c.args.passed.now stamp (name_of c.args.root own) dds c.loop-dd.library.sets) c.as_slice-dd-items.result.now c.loop-dd.dd-index c.loop-dd-test.false)
    ∙ c.loop-dd.invariant.sets
    ∙ ap (λ dds. opened_in_turn c.args.passed.now stamp (name_of c.args.root own) dds c.args.library.now.sets) c.as_slice-dd-items.ensures
    ∙ opened-in_turn c.args.passed.now stamp c.args.root (owned c.args.step.now c.args.owner tests) c.args.step.now.dds c.args.library.now.sets
