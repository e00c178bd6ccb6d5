use Rattle.std.proofs.Common.{◌≡◌, ◌++◌, take, drop}
use Rattle.ckr_cards.specs.Field.{field_of, field_from}
use Rattle.ckr_cards.proofs.columns.field_length.Given as goal

abbrev pub invariant-loop-byte : goal.invariant-loop-byte
invariant-loop-byte l = (l.at ≡ l.byte-index) × (field_of l.text ≡ take l.byte-index l.text ++ field_from l.quoted (drop l.byte-index l.text))
