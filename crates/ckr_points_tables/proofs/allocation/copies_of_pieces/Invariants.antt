use Rattle.std.proofs.Common.{◌≡◌, take}
use Rattle.ckr_events.specs.Format.{piece}
use Rattle.ckr_fields.specs.Fields.{each_fits}
use Rattle.ckr_points_tables.proofs.allocation.copies_of_pieces.Given as goal

abbrev pub invariant-loop-piece : goal.invariant-loop-piece
invariant-loop-piece l = record {
  items : l.copies.items ≡ take l.piece-index l.piece-items;
  fits : each_fits piece.fits l.copies.items;
}
