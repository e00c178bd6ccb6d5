use Rattle.std.proofs.Common.{◌≡◌, ◌+◌, true, [], drop, length}
use Rattle.std.specs.List.{list_all}
use Rattle.ckr_library.specs.Catalog.{with_length, KeepsEntryRoom}
use Rattle.ckr_points_library.specs.Commit.{committed, is_named, AreWithinSpace}
use Rattle.ckr_points_library.specs.Holdings.{owned}
use Rattle.ckr_points_library.proofs.DdPlaces.{outputs_in}
use Rattle.ckr_points_library.proofs.commit.commit_lengths.Given as goal

abbrev pub invariant-loop-dd : goal.invariant-loop-dd
invariant-loop-dd l = record {
  sets :
      committed with_length (outputs_in l.root (owned l.step l.owner []) (drop l.dd-index l.dd-items)) (drop l.place l.lengths) l.library.sets
      ≡ committed with_length (outputs_in l.root (owned l.step l.owner []) l.dd-items) l.lengths l.initial.library.sets;
  lengths : l.place + length (outputs_in l.root (owned l.step l.owner []) (drop l.dd-index l.dd-items)) ≡ length l.lengths;
  space : AreWithinSpace (outputs_in l.root (owned l.step l.owner []) (drop l.dd-index l.dd-items)) (drop l.place l.lengths) l.library.sets;
  room : l.library.room ≡ l.initial.library.room;
  entries : KeepsEntryRoom l.initial.library l.library;
  named :
      list_all is_named (outputs_in l.root (owned l.step l.owner []) (drop l.dd-index l.dd-items)) ≡ true
      → list_all is_named (outputs_in l.root (owned l.step l.owner []) l.dd-items) ≡ true;
}
