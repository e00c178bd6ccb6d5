use Rattle.std.proofs.Common.{◌≡◌, ◌+◌, ◌*◌, ◌++◌, length, take, flat_map}
use Rattle.ckr_desk_turn.specs.Cards.{with_short_mark}
use Rattle.ckr_desk_turn.proofs.cards.put_all_cards.Given as goal

abbrev pub invariant-loop-columns : goal.invariant-loop-columns
invariant-loop-columns l = record {
  cards : l.stored ≡ l.fn.stored ++ flat_map with_short_mark (take l.columns-index l.cards);
  long : length l.stored ≡ length l.fn.stored + 81 * l.columns-index;
}
