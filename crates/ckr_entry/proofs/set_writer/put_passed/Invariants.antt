use Rattle.std.proofs.Common.{◌≡◌, ◌≤◌, ◌+◌, ◌*◌, ◌++◌, length, take, vec_len, vec_capacity}
use Rattle.std.specs.Int.{w16, to_be_bytes}
use Rattle.ckr_fields.specs.Fields.{spell_each}
use Rattle.ckr_entry.specs.Sets.{passed_one}
use Rattle.ckr_entry.proofs.set_writer.put_passed.Given as goal

abbrev pub invariant-loop-item : goal.invariant-loop-item
invariant-loop-item l = record {
  items : l.out.items ≡ (l.fn.out.items ++ to_be_bytes w16 (length l.listed)) ++ spell_each passed_one.spell (take l.item-index l.listed);
  len : vec_len l.out ≤ vec_len l.fn.out + 2 + 46 * l.item-index;
  capacity : vec_capacity l.fn.out ≤ vec_capacity l.out;
}
