use Rattle.std.proofs.Common.{◌≡◌, ◌≤◌, ◌+◌, ◌*◌, ◌++◌, ◌∷◌, length, take, vec_len, vec_capacity}
use Rattle.ckr_events.specs.Format.{made}
use Rattle.ckr_fields.specs.Fields.{spell_each}
use Rattle.ckr_events.proofs.field_writer.put_all_made.Given as goal

abbrev pub invariant-loop-item : goal.invariant-loop-item
invariant-loop-item l = record {
  items : l.out.items ≡ l.fn.out.items ++ (length l.listed ∷ spell_each made.spell (take l.item-index l.listed));
  len : vec_len l.out ≤ vec_len l.fn.out + 1 + 43 * l.item-index;
  capacity : vec_capacity l.fn.out ≤ vec_capacity l.out;
}
