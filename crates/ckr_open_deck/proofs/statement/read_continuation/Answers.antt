use Rattle.std.proofs.Common.{◌≡◌, ◌+◌, ◌∷◌, true, ◌&&◌, length, drop, arith, rules, ap}
use Rattle.std.proofs.lemmas.Grind.{common_steps}
use Rattle.ckr_cards.specs.Card.{columns}
use Rattle.ckr_cards.specs.Statement.{is_continuation, calls_again}
use Rattle.ckr_open_deck.proofs.LeftCards.{continuation-more, left-next}
use Rattle.ckr_open_deck.proofs.statement.read_continuation.Goals as goal

pub loop-stored-preserved : goal.loop-stored-preserved
loop-stored-preserved c =
    let split : c.loop-stored.left ≡ c.in-Some.stored ∷ drop 1 c.loop-stored.left = search rules in
    let size : length c.push.new.self ≡ length c.loop-stored.more + 1 = grind (arith, common_steps) in
    let goes : (c.loop-stored.calls && is_continuation (columns c.stored-card.result)) ≡ true = search rules in
    let again : c.calls_again-calls.result ≡ calls_again (columns c.stored-card.result) = search rules in
    let shorter : length c.loop-stored.left ≡ 1 + length c.skip.new.self = grind (arith, common_steps, ap length split) in
    record {
      numbered = omega arith;
      counted = omega arith;
      left = left-next (length c.loop-stored.more) (length c.push.new.self) c.args.left.now c.loop-stored.left c.skip.new.self c.loop-stored.invariant.left c.skip.ensures size;
      cards = continuation-more _ c.loop-stored.more c.push.new.self c.loop-stored.calls c.calls_again-calls.result c.loop-stored.number c.loop-stored.left c.skip.new.self c.in-Some.stored c.stored-card.result c.loop-stored.invariant.cards split c.stored-card.ensures goes (search rules) again c.skip.ensures;
    }
