use Rattle.std.proofs.Common.{◌==◌, ◌∙◌, ap, length}
use Rattle.ckr_open_deck.proofs.PackedCards.{deck-empty}
use Rattle.ckr_open_deck.proofs.open_deck.OpenDeck.is_empty.Goals as goal

pub returns : goal.returns
returns c =
    let d = c.self.inside in
    c.is_empty.ensures ∙ (ap (λ n. n == 0) d.cards.ok.0 ∙ (deck-empty d.cards.items d.lines.items d.text.items c.self.invariant ∙ ap (λ bytes. length bytes == 0) c.self.view_is))
