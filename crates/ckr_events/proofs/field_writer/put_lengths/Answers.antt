use Rattle.std.proofs.Common.{arith}
use Rattle.std.specs.Int.{w32, to_be_bytes}
use Rattle.ckr_fields.proofs.Loops.{one_more_spelled}
use Rattle.ckr_events.proofs.field_writer.put_lengths.Goals as goal

pub loop-number-preserved : goal.loop-number-preserved
loop-number-preserved c = record {
  items = one_more_spelled (to_be_bytes w32) c.as_slice-listed.result.now c.loop-number.number-index 0 _ _ _ c.loop-number-test.true c.loop-number.invariant.items c.put_four_bytes.ensures.items;
  len = omega (arith, c.put_four_bytes.ensures.len, c.loop-number.invariant.len);
  capacity = omega (arith, c.put_four_bytes.ensures.capacity, c.loop-number.invariant.capacity);
}
