use Rattle.std.proofs.Common.{◌≡◌, ◌+◌, ◌*◌, ◌≤◌, drop, sum_by}
use Rattle.ckr_events.specs.declared.event.Piece.{Piece}
use Rattle.ckr_points_clearance.proofs.items.records_in.Given as goal

abbrev pub invariant-loop-piece : goal.invariant-loop-piece
invariant-loop-piece l = record {
  sum : l.records + sum_by (λ (piece : Piece). piece.records) (drop l.piece-index l.pieces) ≡ sum_by (λ (piece : Piece). piece.records) l.pieces;
  few : l.records ≤ l.piece-index * 4294967295;
}
