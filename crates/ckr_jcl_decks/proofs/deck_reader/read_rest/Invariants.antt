use Rattle.std.proofs.Common.{◌≡◌, ◌+◌, length}
use Rattle.std.specs.Prelude.{fold}
use Rattle.ckr_cards.specs.Card.{stored_cards}
use Rattle.ckr_cards.specs.Statement.{statements_of}
use Rattle.ckr_jcl_faults.specs.DeckText.{with_statement}
use Rattle.ckr_jcl_faults.specs.Faults.{first_fault}
use Rattle.ckr_jcl_decks.proofs.deck_reader.read_rest.Given as goal

abbrev pub invariant-loop-first : goal.invariant-loop-first
invariant-loop-first l = record {
  numbered : l.number + length l.rest ≡ l.first_number + length l.cards;
  sound : first_fault l.fn.begun.seen (statements_of (stored_cards l.first_number l.cards)) ≡ first_fault l.reading.seen (statements_of (stored_cards l.number l.rest));
  job : fold with_statement l.fn.begun.job (statements_of (stored_cards l.first_number l.cards)) ≡ fold with_statement l.reading.job (statements_of (stored_cards l.number l.rest));
}

abbrev pub decreases-loop-first : goal.decreases-loop-first
decreases-loop-first l = length l.rest
