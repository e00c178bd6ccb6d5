use Rattle.std.proofs.Common.{◌++◌, None, ap, ◌∙◌, arith}
use Rattle.ckr_entry.specs.Sets.{mark}
use Rattle.ckr_entry.proofs.Loops.{one_more}
use Rattle.ckr_entry.proofs.set_writer.put_marks.Goals as goal

pub loop-item-preserved : goal.loop-item-preserved
loop-item-preserved c = record {
  items = one_more (mark None).spell c.args.listed.now c.loop-item.item-index c.item-item.result _ c.loop-item.out.items _ c.loop-item-test.true c.loop-item.invariant.items
      (c.put_mark.ensures.items ∙ ap (λ x. c.loop-item.out.items ++ (mark None).spell x) c.item-item.is);
  len = omega (arith, c.put_mark.ensures.len, c.loop-item.invariant.len);
  capacity = omega (arith, c.put_mark.ensures.capacity, c.loop-item.invariant.capacity);
}
