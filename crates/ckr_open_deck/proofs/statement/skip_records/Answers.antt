use Rattle.std.proofs.Common.{◌≡◌, ◌+◌, ◌∷◌, true, length, drop, arith, rules, ap}
use Rattle.std.proofs.lemmas.Grind.{common_steps}
use Rattle.ckr_cards.specs.Card.{columns}
use Rattle.ckr_cards.specs.Statement.{is_record}
use Rattle.ckr_open_deck.proofs.LeftCards.{records-next, long-record-next, left-next}
use Rattle.ckr_open_deck.proofs.statement.skip_records.Goals as goal

pub loop-stored-preserved : goal.loop-stored-preserved
loop-stored-preserved c =
    let split : c.loop-stored.left ≡ c.in-Some.stored ∷ drop 1 c.loop-stored.left = search rules in
    let goes : is_record c.args.ends (columns c.stored-card.result) ≡ true = search rules in
    let shorter : length c.loop-stored.left ≡ 1 + length c.skip.new.self = grind (arith, common_steps, ap length split) in
    let following : c.args.first + (c.loop-stored.count + 1) ≡ c.args.first + c.loop-stored.count + 1 = omega arith in
    let next = records-next c.args.ends (c.args.first + c.loop-stored.count) (c.args.first + (c.loop-stored.count + 1)) c.loop-stored.left c.skip.new.self c.in-Some.stored c.stored-card.result split c.stored-card.ensures goes following c.skip.ensures in
    record {
      counted = omega arith;
      left = left-next c.loop-stored.count (c.loop-stored.count + 1) c.args.left.now c.loop-stored.left c.skip.new.self c.loop-stored.invariant.left c.skip.ensures (omega arith);
      records = omega (arith, c.loop-stored.invariant.records, ap length next);
      long = long-record-next _ c.loop-stored.long c.first_long-long.result _ _ c.stored-card.result c.loop-stored.invariant.long next c.first_long-long.ensures;
    }
