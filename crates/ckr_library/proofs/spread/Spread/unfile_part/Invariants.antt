use Rattle.std.proofs.Common.{◌≡◌, ◌≤◌, drop, map}
use Rattle.ckr_library.specs.Spread.{unfiled_all, span_of}
use Rattle.ckr_library.proofs.spread.Spread.unfile_part.Given as goal

abbrev pub invariant-loop-extent : goal.invariant-loop-extent
invariant-loop-extent l = record {
  spans : unfiled_all (map (span_of l.lrecl l.part.volume) (drop l.extent-index l.extent-items)) l.self.spans ≡ unfiled_all (map (span_of l.lrecl l.part.volume) l.extent-items) l.initial.self.spans;
  room : l.initial.self.room ≤ l.self.room;
}
