use Rattle.std.proofs.Common.{arith}
use Rattle.ckr_fields.proofs.Loops.{one_more_spelled}
use Rattle.ckr_events.specs.Format.{piece}
use Rattle.ckr_events.proofs.field_writer.put_pieces.Goals as goal

pub loop-item-preserved : goal.loop-item-preserved
loop-item-preserved c = record {
  items = one_more_spelled piece.spell c.as_slice-listed.result.now c.loop-item.item-index _ _ _ _ c.loop-item-test.true c.loop-item.invariant.items c.put_piece.ensures.items;
  len = omega (arith, c.put_piece.ensures.len, c.loop-item.invariant.len);
  capacity = omega (arith, c.put_piece.ensures.capacity, c.loop-item.invariant.capacity);
}
