use Rattle.std.proofs.Common.{◌≡◌, ◌+◌, ◌≤◌, drop}
use Rattle.ckr_cards.specs.declared.field.FieldSpot.{FieldSpot}
use Rattle.ckr_cards.specs.declared.parts.Reading.TheVariants.{Free}
use Rattle.ckr_cards.specs.Parts.{part_length}
use Rattle.ckr_cards.proofs.parts.first_part_length.Given as goal

abbrev pub invariant-loop-spot : goal.invariant-loop-spot
invariant-loop-spot l = (l.at ≡ l.spot-index) × (l.depth ≤ l.spot-index) × (part_length (λ (spot : FieldSpot). spot.byte) Free 0 l.field ≡ l.spot-index + part_length (λ (spot : FieldSpot). spot.byte) l.reading l.depth (drop l.spot-index l.field))
