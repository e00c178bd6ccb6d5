use Rattle.std.proofs.Common.{append_assoc}
use Rattle.ckr_entry.proofs.writer.put_plain.Goals as goal

pub returns-in-Print-clause-items : goal.returns-in-Print-clause-items
returns-in-Print-clause-items c =
    rw (c.in-Print.is, c.put_sixteen_bytes.ensures.items, c.put_counts-in-Print.ensures.items, c.put_byte-in-Print.ensures.items) (simp append_assoc)
