use Rattle.std.proofs.Common.{◌<◌, ◌++◌, ◌∙◌, ap, ap₂, length, refl, subst, sym, take}
use Rattle.ckr_cards.specs.Card.{stored_line}
use Rattle.ckr_open_deck.proofs.PackedCards.{deck-more, deck-packed, deck_bytes, packed_line}
use Rattle.ckr_open_deck.proofs.open_deck.OpenDeck.pack.Goals as goal

pub invariant_of-self-else-is_err : goal.invariant_of-self-else-is_err
invariant_of-self-else-is_err c =
    let line = c.args.line.now in
    let text_is = rw c.if-is_err.ensures.negation at c.extend_from_slice.ensures.items in
    rw (c.in_ok-push.ensures.items, text_is)
    (deck-packed (take c.min.result line) (packed_line c.min.result line) c.self.invariant (subst (λ bytes. 8100000 < length bytes) (sym c.self.view_is) c.requires) refl)

pub returns-clause-ok : goal.returns-clause-ok
returns-clause-ok c =
    let line = c.args.line.now in
    let text_is = rw c.if-is_err.ensures.negation at c.extend_from_slice.ensures.items in
    ap₂ (λ lines text. deck_bytes c.self.inside.cards.items lines text) c.in_ok-push.ensures.items text_is
    ∙ (deck-more line c.min.result c.self.invariant c.min.ensures ∙ ap (λ bytes. bytes ++ stored_line line) c.self.view_is)
