use Rattle.std.proofs.Common.{arith, ap, sym, ◌∙◌, ◌+◌, length, Some}
use Rattle.std.proofs.lemmas.List.{drop_all}
use Rattle.ckr_desk_memory.specs.Mounts.{dd_from, is_dd_on}
use Rattle.ckr_desk_memory.proofs.WantedVolumes.{first-here, first-later}
use Rattle.ckr_desk_memory.proofs.mounts.dd_on.Goals as goal

pub overflow_add-number : goal.overflow_add-number
overflow_add-number c = omega (arith, c.loop-dd.invariant.number, c.loop-dd-test.true, c.requires.dds, ap length c.as_slice-dd-items.ensures)

pub returns-then-is_dd_on : goal.returns-then-is_dd_on
returns-then-is_dd_on c =
    let is_so = is_dd_on c.args.sets.now.sets c.args.step.now c.args.sought in
    let dds = c.as_slice-dd-items.result.now in
    ap (λ n. Some (n + 1)) c.loop-dd.invariant.number
    ∙ sym (first-here is_so dds c.loop-dd.dd-index c.dd-item.result c.loop-dd-test.true c.dd-item.is (ap (λ n. is_so (n + 1) c.dd-item.result) (sym c.loop-dd.invariant.number) ∙ sym c.is_dd_on.ensures ∙ c.if-is_dd_on.true))
    ∙ c.loop-dd.invariant.rest
    ∙ ap (dd_from c.args.sets.now.sets c.args.step.now c.args.sought 1) c.as_slice-dd-items.ensures

pub loop-dd-preserved : goal.loop-dd-preserved
loop-dd-preserved c =
    let is_so = is_dd_on c.args.sets.now.sets c.args.step.now c.args.sought in
    let dds = c.as_slice-dd-items.result.now in
    record {
      number = ap (λ n. n + 1) c.loop-dd.invariant.number;
      rest =
          sym (first-later is_so dds c.loop-dd.dd-index c.dd-item.result c.loop-dd-test.true c.dd-item.is (ap (λ n. is_so (n + 1) c.dd-item.result) (sym c.loop-dd.invariant.number) ∙ sym c.is_dd_on.ensures ∙ c.if-is_dd_on.false))
          ∙ c.loop-dd.invariant.rest;
    }

pub returns : goal.returns
returns c =
    sym (ap (dd_from c.args.sets.now.sets c.args.step.now c.args.sought (c.loop-dd.dd-index + 1)) (drop_all c.loop-dd.dd-index c.as_slice-dd-items.result.now c.loop-dd-test.false))
    ∙ c.loop-dd.invariant.rest
    ∙ ap (dd_from c.args.sets.now.sets c.args.step.now c.args.sought 1) c.as_slice-dd-items.ensures
