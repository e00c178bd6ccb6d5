use Rattle.std.proofs.Common.{◌++◌, ap, ◌∙◌, arith}
use Rattle.ckr_fields.proofs.Loops.{one_more_spelled}
use Rattle.ckr_events.specs.Format.{made}
use Rattle.ckr_events.proofs.field_writer.put_all_made.Goals as goal

pub loop-item-preserved : goal.loop-item-preserved
loop-item-preserved c = record {
  items = one_more_spelled made.spell c.as_slice-listed.result.now c.loop-item.item-index c.item-item.result c.args.out.now.items c.loop-item.out.items _ c.loop-item-test.true c.loop-item.invariant.items
      (c.put_made.ensures.items ∙ ap (λ x. c.loop-item.out.items ++ made.spell x) c.item-item.is);
  len = omega (arith, c.put_made.ensures.len, c.loop-item.invariant.len);
  capacity = omega (arith, c.put_made.ensures.capacity, c.loop-item.invariant.capacity);
}
