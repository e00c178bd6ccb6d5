use Rattle.std.proofs.Common.{◌≡◌, drop}
use Rattle.ckr_cards.specs.Statement.{comes_to_end}
use Rattle.ckr_cards.proofs.statement.comes_to_end.Given as goal

abbrev pub invariant-loop-card : goal.invariant-loop-card
invariant-loop-card l = comes_to_end l.calls l.more ≡ comes_to_end l.open (drop l.card-index l.more)
