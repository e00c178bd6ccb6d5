use Rattle.std.proofs.Common.{append_assoc}
use Rattle.ckr_entry.proofs.writer.put_keyed.Goals as goal

pub returns-clause-items : goal.returns-clause-items
returns-clause-items c =
    rw (c.put_key-2.ensures.items, c.put_key.ensures.items, c.put_counts.ensures.items, c.put_byte.ensures.items) (simp append_assoc)
