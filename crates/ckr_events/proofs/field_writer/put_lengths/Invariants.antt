use Rattle.std.proofs.Common.{◌≡◌, ◌≤◌, ◌+◌, ◌*◌, ◌++◌, ◌∷◌, length, take, vec_len, vec_capacity}
use Rattle.std.specs.Int.{w32, to_be_bytes}
use Rattle.ckr_fields.specs.Fields.{spell_each}
use Rattle.ckr_events.proofs.field_writer.put_lengths.Given as goal

abbrev pub invariant-loop-number : goal.invariant-loop-number
invariant-loop-number l = record {
  items : l.out.items ≡ l.fn.out.items ++ (length l.listed ∷ spell_each (to_be_bytes w32) (take l.number-index l.listed));
  len : vec_len l.out ≤ vec_len l.fn.out + 1 + 4 * l.number-index;
  capacity : vec_capacity l.fn.out ≤ vec_capacity l.out;
}
