use Rattle.std.proofs.Common.{◌≡◌, ◌-◌, length}
use Rattle.ckr_fields.specs.Fields.{times_at}
use Rattle.ckr_fields.proofs.Loops.{with_front}
use Rattle.ckr_events.specs.Format.{made_at}
use Rattle.ckr_events.proofs.field_reader.some_made.Given as goal

abbrev pub invariant-loop : goal.invariant-loop
invariant-loop l = record {
  so_far : with_front l.list.items (times_at made_at (l.count - l.counter) l.fields) ≡ times_at made_at l.count l.fn.fields;
  many : length l.list.items ≡ l.counter;
}
