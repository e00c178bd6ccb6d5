use Rattle.std.proofs.Common.{◌≡◌, ◌+◌, ◌++◌, length, drop}
use Rattle.ckr_cards.specs.Card.{stored_cards}
use Rattle.ckr_cards.specs.Statement.{continuation}
use Rattle.ckr_open_deck.proofs.statement.read_continuation.Given as goal

abbrev pub invariant-loop-stored : goal.invariant-loop-stored
invariant-loop-stored l = record {
  numbered : l.number ≡ l.first + length l.more;
  counted : length l.more + length l.left ≡ length l.initial.left;
  left : l.left ≡ drop (length l.more) l.initial.left;
  cards : continuation l.first_calls (stored_cards l.first l.initial.left) ≡ l.more ++ continuation l.calls (stored_cards l.number l.left);
}

abbrev pub decreases-loop-stored : goal.decreases-loop-stored
decreases-loop-stored l = length l.left
