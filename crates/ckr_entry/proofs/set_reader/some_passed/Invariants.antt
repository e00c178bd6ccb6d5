use Rattle.std.proofs.Common.{◌≡◌, ◌-◌}
use Rattle.ckr_fields.specs.Fields.{times_at}
use Rattle.ckr_fields.proofs.Loops.{with_front}
use Rattle.ckr_entry.specs.Sets.{passed_one_at}
use Rattle.ckr_entry.proofs.set_reader.some_passed.Given as goal

abbrev pub invariant-loop : goal.invariant-loop
invariant-loop l = with_front l.list.items (times_at passed_one_at (l.count - l.counter) l.fields) ≡ times_at passed_one_at l.count l.fn.fields
