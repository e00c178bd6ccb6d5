use Rattle.std.proofs.Common.{◌≡◌, ◌+◌, length, drop}
use Rattle.std.specs.Option.{option_or}
use Rattle.ckr_cards.specs.Card.{stored_cards}
use Rattle.ckr_cards.specs.Statement.{records_in}
use Rattle.ckr_jcl_faults.specs.Faults.{long_card}
use Rattle.ckr_open_deck.proofs.statement.skip_records.Given as goal

abbrev pub invariant-loop-stored : goal.invariant-loop-stored
invariant-loop-stored l = record {
  counted : l.count + length l.left ≡ length l.initial.left;
  left : l.left ≡ drop l.count l.initial.left;
  records : length (records_in l.ends (stored_cards l.first l.initial.left)) ≡ l.count + length (records_in l.ends (stored_cards (l.first + l.count) l.left));
  long : long_card (records_in l.ends (stored_cards l.first l.initial.left)) ≡ option_or l.long (long_card (records_in l.ends (stored_cards (l.first + l.count) l.left)));
}

abbrev pub decreases-loop-stored : goal.decreases-loop-stored
decreases-loop-stored l = length l.left
