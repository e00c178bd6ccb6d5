use Rattle.std.proofs.Common.{◌≡◌, drop}
use Rattle.ckr_cards.specs.Field.{goes_on}
use Rattle.ckr_cards.proofs.Fields.{goes_on_after}
use Rattle.ckr_cards.proofs.columns.goes_on.Given as goal

abbrev pub invariant-loop-byte : goal.invariant-loop-byte
invariant-loop-byte l = goes_on l.field ≡ goes_on_after l.comma l.quoted (drop l.byte-index l.field)
