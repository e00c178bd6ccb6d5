use Rattle.std.proofs.Common.{sym, ap, ◌∙◌, subst}
use Rattle.std.specs.Result.{IsOkAnd}
use Rattle.ckr_meaning.specs.EffectiveJob.{name_of, stamp_of}
use Rattle.ckr_points_library.specs.declared.cause.Refusal.{Refusal}
use Rattle.ckr_points_library.specs.Holdings.{owned}
use Rattle.ckr_points_library.specs.AllocationSteps.{IsAllocated, allocated_in_turn}
use Rattle.ckr_points_library.proofs.AllocationSteps.{on_ok, on_err, turned}
use Rattle.ckr_points_library.proofs.allocation.allocate_step.Goals as goal

pub returns-clause-ok : goal.returns-clause-ok
returns-clause-ok c =
    let layout = c.args.layout.now in
    let sets = c.args.library.now.sets in
    let passed = c.args.passed.now in
    on_ok c.allocate_dds.result
    (λ fact tests.
    let own = owned c.args.step.now c.args.owner tests in
    let stamp = stamp_of own c.args.number in
    subst (λ all. IsOkAnd all (IsAllocated layout sets c.args.items.now.items c.allocate_dds.new.items.items))
    (ap (λ dds. allocated_in_turn layout passed stamp (name_of c.args.root own) 1 dds sets) c.as_slice-dds.ensures
    ∙ turned layout passed stamp c.args.root own sets c.args.step.now.dds c.requires.names) fact)
    c.allocate_dds.ensures.ok

pub returns-clause-err : goal.returns-clause-err
returns-clause-err c =
    let layout = c.args.layout.now in
    let sets = c.args.library.now.sets in
    let passed = c.args.passed.now in
    on_err c.allocate_dds.result
    (λ (refusal : Refusal) fact tests.
    let own = owned c.args.step.now c.args.owner tests in
    let stamp = stamp_of own c.args.number in
    sym (ap (λ dds. allocated_in_turn layout passed stamp (name_of c.args.root own) 1 dds sets) c.as_slice-dds.ensures
    ∙ turned layout passed stamp c.args.root own sets c.args.step.now.dds c.requires.names) ∙ fact)
    c.allocate_dds.ensures.err
