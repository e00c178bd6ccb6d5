use Rattle.std.proofs.Common.{◌≡◌, map, take}
use Rattle.ckr_points_library.specs.Allocation.{piece_of}
use Rattle.ckr_points_library.proofs.allocation.pieces_of.Given as goal

abbrev pub invariant-loop-extent : goal.invariant-loop-extent
invariant-loop-extent l = l.pieces.items ≡ map piece_of (take l.extent-index l.extents)
