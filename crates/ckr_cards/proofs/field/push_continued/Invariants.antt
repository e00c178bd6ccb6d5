use Rattle.std.proofs.Common.{◌≡◌, ◌++◌, drop}
use Rattle.ckr_cards.specs.Statement.{continued_spots, well_placed}
use Rattle.ckr_cards.proofs.field.push_continued.Given as goal

abbrev pub invariant-loop-card : goal.invariant-loop-card
invariant-loop-card l = l.fn.field.items ++ continued_spots (well_placed l.more) ≡ l.field.items ++ continued_spots (well_placed (drop l.card-index l.more))
