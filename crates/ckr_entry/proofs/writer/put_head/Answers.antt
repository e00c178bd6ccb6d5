use Rattle.std.proofs.Common.{append_assoc}
use Rattle.ckr_entry.proofs.writer.put_head.Goals as goal

pub returns-clause-items : goal.returns-clause-items
returns-clause-items c =
    rw (
      c.put_four_bytes-6.ensures.items,
      c.put_four_bytes-5.ensures.items,
      c.put_four_bytes-4.ensures.items,
      c.put_name8-2.ensures.items,
      c.put_byte.ensures.items,
      c.put_four_bytes-3.ensures.items,
      c.put_four_bytes-2.ensures.items,
      c.put_name8.ensures.items,
      c.put_id.ensures.items,
      c.put_four_bytes.ensures.items,
    )
    (simp append_assoc)
