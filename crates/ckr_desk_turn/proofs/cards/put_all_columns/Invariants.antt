use Rattle.std.proofs.Common.{◌≡◌, ◌++◌, take, flat_map}
use Rattle.ckr_desk_turn.specs.Cards.{columns_of}
use Rattle.ckr_desk_turn.proofs.cards.put_all_columns.Given as goal

abbrev pub invariant-loop-card : goal.invariant-loop-card
invariant-loop-card l = l.kept ≡ l.fn.kept ++ flat_map columns_of (take l.card-index l.cards)
