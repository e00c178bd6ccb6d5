use Rattle.std.proofs.Common.{◌≡◌, ◌-◌, None}
use Rattle.ckr_fields.proofs.Loops.{with_front}
use Rattle.ckr_entry.specs.Sets.{rising_at}
use Rattle.ckr_entry.proofs.set_reader.some_marks.Given as goal

abbrev pub invariant-loop : goal.invariant-loop
invariant-loop l = with_front l.list.items (rising_at l.before (l.count - l.counter) l.fields) ≡ rising_at None l.count l.fn.fields
