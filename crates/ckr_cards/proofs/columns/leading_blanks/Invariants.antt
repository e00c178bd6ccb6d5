use Rattle.std.proofs.Common.{◌≡◌, ◌+◌, drop}
use Rattle.ckr_cards.specs.Card.{behind_blanks, blanks_before}
use Rattle.ckr_cards.proofs.columns.leading_blanks.Given as goal

abbrev pub invariant-loop-byte : goal.invariant-loop-byte
invariant-loop-byte l = (l.count ≡ l.byte-index) × (blanks_before l.text ≡ l.byte-index + blanks_before (drop l.byte-index l.text)) × (behind_blanks l.text ≡ behind_blanks (drop l.byte-index l.text))
