use Rattle.std.proofs.Common.{◌≡◌, ◌≤◌, drop}
use Rattle.ckr_cards.specs.Field.{closes, closes_from, is_orderly, is_orderly_from}
use Rattle.ckr_cards.proofs.parts.is_whole.Given as goal

abbrev pub invariant-loop-byte : goal.invariant-loop-byte
invariant-loop-byte l = (l.depth ≤ l.byte-index) × (closes l.text ≡ closes_from l.reading l.depth (drop l.byte-index l.text)) × (is_orderly l.text ≡ is_orderly_from l.reading l.depth (drop l.byte-index l.text))
