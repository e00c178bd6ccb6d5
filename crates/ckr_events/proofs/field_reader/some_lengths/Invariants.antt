use Rattle.std.proofs.Common.{◌≡◌, ◌-◌, length}
use Rattle.std.specs.Int.{w32}
use Rattle.ckr_fields.specs.Fields.{number_at, times_at}
use Rattle.ckr_fields.proofs.Loops.{with_front}
use Rattle.ckr_events.proofs.field_reader.some_lengths.Given as goal

abbrev pub invariant-loop : goal.invariant-loop
invariant-loop l = record {
  so_far : with_front l.list.items (times_at (number_at w32) (l.count - l.counter) l.fields) ≡ times_at (number_at w32) l.count l.fn.fields;
  many : length l.list.items ≡ l.counter;
}
