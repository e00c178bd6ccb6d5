use Rattle.std.proofs.Common.{◌≡◌, map, take}
use Rattle.ckr_points_runs.proofs.new_sets.extents_of.Given as goal

abbrev pub invariant-loop-piece : goal.invariant-loop-piece
invariant-loop-piece l = l.extents.items ≡ map (λ piece. record { start = piece.start; records = piece.records }) (take l.piece-index l.pieces)
