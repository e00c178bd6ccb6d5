use Rattle.std.proofs.Common.{◌≡◌, ◌+◌, List, length, arith, rules, ap, ◌∙◌}
use Rattle.std.proofs.lemmas.Grind.{common_steps}
use Rattle.std.proofs.lemmas.List.{drop-drop}
use Rattle.ckr_cards.specs.declared.card.Card.{Card}
use Rattle.ckr_cards.specs.Card.{columns, stored_card, stored_cards}
use Rattle.ckr_cards.specs.Statement.{calls_first, continuation, statement_of_cards}
use Rattle.ckr_jcl_faults.specs.Faults.{long_card}
use Rattle.ckr_open_deck.proofs.StatementHeads.{head-statement, head-more, head-records, left-behind}
use Rattle.ckr_open_deck.proofs.statement.read_head.Goals as goal

pub returns : goal.returns
returns c =
    let first = stored_card c.args.number c.args.first.now in
    let cards = stored_cards (c.args.number + 1) c.args.left.now in
    let more = c.in_ok-more.more in
    let statement = c.in_ok-statement.statement in
    let is_more : more ≡ continuation (calls_first (columns first)) cards = search rules in
    let is : statement ≡ statement_of_cards first more = search rules in
    let own : length c.as_slice.result.now ≡ length more = search rules in
    let rest = left-behind (c.args.number + 1) (c.args.number + 1 + length c.as_slice.result.now) (length more) c.args.left.now c.read_continuation.new.left (ap (λ n. c.args.number + 1 + n) own) c.in_ok-more.ensures.left in
    let records = head-records first cards more (stored_cards (c.args.number + 1 + length c.as_slice.result.now) c.read_continuation.new.left) statement c.in_stream.result is_more is c.in_stream.ensures rest in
    record {
      statement = head-statement first cards more statement is_more is;
      long = c.skip_records-skipped.ensures.long ∙ ap (λ (l : List Card). long_card l) records;
      behind = omega (arith, own, c.skip_records-skipped.ensures.count, ap length (head-more first cards more is_more), ap length records);
      left = grind (arith, common_steps, drop-drop);
    }
