use Rattle.std.proofs.Common.{◌≡◌, ◌≤◌, drop, flat_map}
use Rattle.ckr_library.specs.Spread.{unfiled_all, spans_of_part}
use Rattle.ckr_library.proofs.spread.Spread.unfile_set.Given as goal

abbrev pub invariant-loop-part : goal.invariant-loop-part
invariant-loop-part l = record {
  spans : unfiled_all (flat_map (spans_of_part l.set.lrecl) (drop l.part-index l.part-items)) l.self.spans ≡ unfiled_all (flat_map (spans_of_part l.set.lrecl) l.part-items) l.initial.self.spans;
  room : l.initial.self.room ≤ l.self.room;
}
