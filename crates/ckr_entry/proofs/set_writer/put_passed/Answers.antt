use Rattle.std.proofs.Common.{◌++◌, ap, ◌∙◌, arith}
use Rattle.ckr_entry.specs.Sets.{passed_one}
use Rattle.ckr_entry.proofs.Loops.{one_more}
use Rattle.ckr_entry.proofs.set_writer.put_passed.Goals as goal

pub loop-item-preserved : goal.loop-item-preserved
loop-item-preserved c = record {
  items = one_more passed_one.spell c.args.listed.now c.loop-item.item-index c.item-item.result _ c.loop-item.out.items _ c.loop-item-test.true c.loop-item.invariant.items
      (c.put_passed_one.ensures.items ∙ ap (λ x. c.loop-item.out.items ++ passed_one.spell x) c.item-item.is);
  len = omega (arith, c.put_passed_one.ensures.len, c.loop-item.invariant.len);
  capacity = omega (arith, c.put_passed_one.ensures.capacity, c.loop-item.invariant.capacity);
}
