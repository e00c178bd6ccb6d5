use Rattle.std.proofs.Common.{◌≡◌, ◌+◌, ◌++◌, ◌≤◌, length, drop}
use Rattle.ckr_cards.specs.Card.{stored_cards}
use Rattle.ckr_cards.specs.Statement.{continuation}
use Rattle.ckr_cards.proofs.statement.read_continuation.Given as goal

abbrev pub invariant-loop-stored : goal.invariant-loop-stored
invariant-loop-stored l = (l.number ≡ l.first + l.stored-index) × (length l.more ≤ l.stored-index) × (continuation l.first_calls (stored_cards l.first l.cards) ≡ l.more ++ continuation l.calls (stored_cards l.number (drop l.stored-index l.cards)))
