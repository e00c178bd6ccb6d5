use Rattle.std.proofs.Common.{◌≡◌, ◌++◌, drop, take}
use Rattle.ckr_cards.specs.Card.{behind_word, word}
use Rattle.ckr_cards.proofs.kind.word_length.Given as goal

abbrev pub invariant-loop-byte : goal.invariant-loop-byte
invariant-loop-byte l = (l.count ≡ l.byte-index) × (word l.text ≡ take l.byte-index l.text ++ word (drop l.byte-index l.text)) × (behind_word l.text ≡ behind_word (drop l.byte-index l.text))
