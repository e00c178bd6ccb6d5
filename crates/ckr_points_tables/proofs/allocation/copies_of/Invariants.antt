use Rattle.std.proofs.Common.{◌≡◌, take}
use Rattle.ckr_events.specs.Format.{made}
use Rattle.ckr_fields.specs.Fields.{each_fits}
use Rattle.ckr_points_tables.proofs.allocation.copies_of.Given as goal

abbrev pub invariant-loop-made : goal.invariant-loop-made
invariant-loop-made l = record {
  items : l.copies.items ≡ take l.made-index l.items;
  fits : each_fits made.fits l.copies.items;
}
