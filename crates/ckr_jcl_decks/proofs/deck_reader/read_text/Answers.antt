use Rattle.std.proofs.Common.{◌≡◌, ◌+◌, ◌∷◌, drop, arith, ◌∙◌, ap, refl}
use Rattle.ckr_cards.specs.Card.{stored_cards}
use Rattle.ckr_cards.specs.Statement.{cards_behind, statements_of}
use Rattle.ckr_jcl_faults.specs.Faults.{statement_fault}
use Rattle.ckr_jcl_decks.specs.ReaderErrors.{TellsFault}
use Rattle.ckr_jcl_decks.proofs.StatementOrder.{step_read, number_of_first, text_sound, text_fault, rest_fault, text_of_all, handed_on}
use Rattle.ckr_jcl_decks.proofs.deck_reader.read_text.Goals as goal

pub of-requires : goal.of-requires
of-requires c = number_of_first c.in-Ok.statement 1 c.args.first.now c.args.rest.now c.in-Ok.ensures.value

pub returns-in_err-begun-clause-fault : goal.returns-in_err-begun-clause-fault
returns-in_err-begun-clause-fault c =
    handed_on c.from_residual.result c.in_err-begun.field-0.0 (λ error. TellsFault error (statement_fault (statements_of (stored_cards 1 (c.args.first.now ∷ c.args.rest.now))))) c.from_residual.ensures.1
    (text_fault c.in_err-begun.field-0.0 _ _ c.in-Ok.statement
    (step_read 1 _ (c.args.first.now ∷ c.args.rest.now) c.args.first.now c.args.rest.now _ c.in-Ok.statement refl c.in-Ok.ensures.value refl refl)
    c.in_err-begun.ensures.fault)

pub returns-in_err-read-clause-fault : goal.returns-in_err-read-clause-fault
returns-in_err-read-clause-fault c =
    let following : 2 + c.cards_behind-behind.result ≡ 1 + 1 + cards_behind c.in-Ok.statement = omega (arith, c.cards_behind-behind.ensures) in
    let left : c.split_at.result.1.now ≡ drop (cards_behind c.in-Ok.statement) c.args.rest.now = c.split_at.ensures.back ∙ ap (λ n. drop n c.args.rest.now) c.cards_behind-behind.ensures in
    handed_on c.from_residual-in_err-read.result c.in_err-read.field-0.0 (λ error. TellsFault error (statement_fault (statements_of (stored_cards 1 (c.args.first.now ∷ c.args.rest.now))))) c.from_residual-in_err-read.ensures.1
    (rest_fault c.in_err-read.field-0.0 (statements_of (stored_cards 1 (c.args.first.now ∷ c.args.rest.now))) (statements_of (stored_cards (2 + c.cards_behind-behind.result) c.split_at.result.1.now)) c.in-Ok.statement c.in_ok-begun.begun.seen
    (step_read 1 (2 + c.cards_behind-behind.result) (c.args.first.now ∷ c.args.rest.now) c.args.first.now c.args.rest.now c.split_at.result.1.now c.in-Ok.statement refl c.in-Ok.ensures.value following left)
    c.in_ok-begun.ensures.sound c.in_ok-begun.ensures.seen c.in_err-read.ensures.fault)

pub returns-in-Ok-closed-clause-sound : goal.returns-in-Ok-closed-clause-sound
returns-in-Ok-closed-clause-sound c =
    let following : 2 + c.cards_behind-behind.result ≡ 1 + 1 + cards_behind c.in-Ok.statement = omega (arith, c.cards_behind-behind.ensures) in
    let left : c.split_at.result.1.now ≡ drop (cards_behind c.in-Ok.statement) c.args.rest.now = c.split_at.ensures.back ∙ ap (λ n. drop n c.args.rest.now) c.cards_behind-behind.ensures in
    text_sound (statements_of (stored_cards 1 (c.args.first.now ∷ c.args.rest.now))) (statements_of (stored_cards (2 + c.cards_behind-behind.result) c.split_at.result.1.now)) c.in-Ok.statement c.in_ok-begun.begun.seen
    (step_read 1 (2 + c.cards_behind-behind.result) (c.args.first.now ∷ c.args.rest.now) c.args.first.now c.args.rest.now c.split_at.result.1.now c.in-Ok.statement refl c.in-Ok.ensures.value following left)
    c.in_ok-begun.ensures.sound c.in_ok-begun.ensures.seen c.in_ok-read.ensures.sound

pub returns-in-Ok-closed-clause-text : goal.returns-in-Ok-closed-clause-text
returns-in-Ok-closed-clause-text c =
    let following : 2 + c.cards_behind-behind.result ≡ 1 + 1 + cards_behind c.in-Ok.statement = omega (arith, c.cards_behind-behind.ensures) in
    let left : c.split_at.result.1.now ≡ drop (cards_behind c.in-Ok.statement) c.args.rest.now = c.split_at.ensures.back ∙ ap (λ n. drop n c.args.rest.now) c.cards_behind-behind.ensures in
    text_of_all (statements_of (stored_cards 1 (c.args.first.now ∷ c.args.rest.now))) (statements_of (stored_cards (2 + c.cards_behind-behind.result) c.split_at.result.1.now)) c.in-Ok.statement c.in_ok-begun.begun.job c.in_ok-read.read.job c.in-Ok-closed.job
    (step_read 1 (2 + c.cards_behind-behind.result) (c.args.first.now ∷ c.args.rest.now) c.args.first.now c.args.rest.now c.split_at.result.1.now c.in-Ok.statement refl c.in-Ok.ensures.value following left)
    c.in_ok-begun.ensures.job c.in_ok-read.ensures.job c.in-Ok-closed.ensures
