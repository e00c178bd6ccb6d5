use Rattle.std.proofs.Common.{◌≡◌, ◌++◌, take, drop}
use Rattle.ckr_cards.specs.Statement.{before_mark}
use Rattle.ckr_cards.proofs.operand.mark_length.Given as goal

abbrev pub invariant-loop-byte : goal.invariant-loop-byte
invariant-loop-byte l = (l.count ≡ l.byte-index) × (before_mark l.text ≡ take l.byte-index l.text ++ before_mark (drop l.byte-index l.text))
