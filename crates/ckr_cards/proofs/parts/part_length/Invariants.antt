use Rattle.std.proofs.Common.{◌≡◌, ◌+◌, ◌≤◌, drop}
use Rattle.ckr_cards.specs.declared.parts.Reading.TheVariants.{Free}
use Rattle.ckr_cards.specs.Parts.{part_length}
use Rattle.ckr_cards.proofs.parts.part_length.Given as goal

abbrev pub invariant-loop-byte : goal.invariant-loop-byte
invariant-loop-byte l = (l.at ≡ l.byte-index) × (l.depth ≤ l.byte-index) × (part_length (λ byte. byte) Free 0 l.text ≡ l.byte-index + part_length (λ byte. byte) l.reading l.depth (drop l.byte-index l.text))
