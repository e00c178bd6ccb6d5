use Rattle.std.proofs.Common.{◌≡◌, ◌++◌, take}
use Rattle.ckr_cards.specs.Field.{spots}
use Rattle.ckr_cards.proofs.field.push_spots.Given as goal

abbrev pub invariant-loop-byte : goal.invariant-loop-byte
invariant-loop-byte l = l.field.items ≡ l.fn.field.items ++ spots l.card (take l.byte-index l.text)
