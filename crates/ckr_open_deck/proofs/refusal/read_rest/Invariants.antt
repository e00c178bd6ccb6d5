use Rattle.std.proofs.Common.{◌≡◌, ◌+◌, length, map}
use Rattle.std.specs.Prelude.{fold}
use Rattle.ckr_cards.specs.Card.{stored_cards}
use Rattle.ckr_cards.specs.Statement.{statements_of}
use Rattle.ckr_jcl_faults.specs.DeckText.{with_statement}
use Rattle.ckr_jcl_faults.specs.Faults.{first_fault}
use Rattle.ckr_open_deck.specs.StatementHeads.{without_records}
use Rattle.ckr_open_deck.proofs.refusal.read_rest.Given as goal

abbrev pub invariant-loop-first : goal.invariant-loop-first
invariant-loop-first l = record {
  numbered : l.read.number + length l.left ≡ l.fn.before.number + length l.initial.left;
  sound : first_fault l.fn.before.seen (statements_of (stored_cards l.fn.before.number l.initial.left)) ≡ first_fault l.read.seen (statements_of (stored_cards l.read.number l.left));
  job : fold with_statement l.fn.before.job (map without_records (statements_of (stored_cards l.fn.before.number l.initial.left))) ≡ fold with_statement l.read.job (map without_records (statements_of (stored_cards l.read.number l.left)));
}

abbrev pub decreases-loop-first : goal.decreases-loop-first
decreases-loop-first l = length l.left
