use Rattle.std.proofs.Common.{arith}
use Rattle.ckr_cards.proofs.Decks.{stored_fits}
use Rattle.ckr_open_deck.proofs.refusal.read_next.Goals as goal

pub overflow_add-result-2 : goal.overflow_add-result-2
overflow_add-result-2 c = omega (arith, c.in_ok-head.ensures.behind, stored_fits c.args.before.number c.args.first.now c.args.left.now)
