use Rattle.std.proofs.Common.{ap, arith, length}
use Rattle.ckr_open_deck.proofs.PackedCards.{deck-many, deck-size}
use Rattle.ckr_open_deck.proofs.open_deck.OpenDeck.bytes.Goals as goal

pub returns-then-len-clause-whole : goal.returns-then-len-clause-whole
returns-then-len-clause-whole c =
    let size = deck-size c.self.invariant in
    omega (arith, size, ap (λ bytes. length bytes) c.self.view_is)

pub returns-then-len-clause-many : goal.returns-then-len-clause-many
returns-then-len-clause-many c none =
    let many = deck-many c.self.invariant (omega (arith, c.len.ensures)) in
    omega (arith, many, ap (λ bytes. length bytes) c.self.view_is)
