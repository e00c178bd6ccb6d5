use Rattle.std.proofs.Common.{◌≡◌, ◌+◌, ◌++◌, drop}
use Rattle.ckr_cards.specs.Card.{stored_cards}
use Rattle.ckr_cards.specs.Statement.{records_in}
use Rattle.ckr_cards.proofs.statement.read_records.Given as goal

abbrev pub invariant-loop-stored : goal.invariant-loop-stored
invariant-loop-stored l = (l.number ≡ l.first + l.stored-index) × (records_in l.ends (stored_cards l.first l.cards) ≡ l.records ++ records_in l.ends (stored_cards l.number (drop l.stored-index l.cards)))
