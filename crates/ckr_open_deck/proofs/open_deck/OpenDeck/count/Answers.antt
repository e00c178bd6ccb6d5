use Rattle.std.proofs.Common.{ap, arith, length, length-append}
use Rattle.ckr_open_deck.specs.PackedLines.{unpacked}
use Rattle.ckr_open_deck.proofs.PackedCards.{deck-size, length-unpacked}
use Rattle.ckr_open_deck.proofs.open_deck.OpenDeck.count.Goals as goal

pub returns : goal.returns
returns c =
    let d = c.self.inside in
    omega (arith, deck-size c.self.invariant, ap (λ bytes. length bytes) c.self.view_is, length-append d.cards.items (unpacked d.lines.items d.text.items), length-unpacked d.lines.items d.text.items, c.len.ensures, c.len-2.ensures)
