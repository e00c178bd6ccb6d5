use Rattle.std.proofs.Common.{◌≡◌, ◌∷◌, length, rules, subst}
use Rattle.ckr_cards.specs.Card.{stored_cards}
use Rattle.ckr_cards.specs.Statement.{statements_of}
use Rattle.ckr_jcl_faults.specs.Faults.{statement_fault}
use Rattle.ckr_jcl_decks.specs.Deck.{Answers, answer_of, stored_deck}
use Rattle.ckr_jcl_decks.proofs.Answers.{stored_deck_cards}
use Rattle.ckr_jcl_decks.proofs.deck_reader.read_deck.Goals as goal

pub returns : goal.returns
returns c =
    let split : c.as_chunks.result.0.now ≡ c.in-Some.first.now ∷ c.in-Some.rest.now = search rules in
    subst (λ answer. Answers c.read_stored.result answer)
    (subst (λ stored. answer_of (statement_fault (statements_of (stored_cards 1 stored))) (length c.as_chunks.result.0.now) (statements_of (stored_cards 1 stored)) ≡ stored_deck c.args.cards.now) split
    (stored_deck_cards c.args.cards.now c.as_chunks.result.0.now c.as_chunks.ensures.front))
    c.read_stored.ensures
