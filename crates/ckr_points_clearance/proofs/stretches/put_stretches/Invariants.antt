use Rattle.std.proofs.Common.{◌≡◌, ◌+◌, ◌++◌, length, map, take, drop}
use Rattle.ckr_points_clearance.specs.Stretches.{stretch_in}
use Rattle.ckr_points_clearance.proofs.stretches.put_stretches.Given as goal

abbrev pub invariant-loop-piece : goal.invariant-loop-piece
invariant-loop-piece g l = record {
  items : l.stretches.items ≡ l.initial.stretches.items ++ map (stretch_in l.volume) (take l.piece-index l.pieces);
  len : length l.stretches.items + length (drop l.piece-index l.pieces) ≡ length l.initial.stretches.items + length l.pieces;
}
