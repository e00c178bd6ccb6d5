use Rattle.std.proofs.Common.{◌<◌, subst, length, arith}
use Rattle.ckr_open_deck.proofs.PackedCards.{deck-many}
use Rattle.ckr_open_deck.proofs.open_deck.OpenDeck.push.Goals as goal

pub pack-requires : goal.pack-requires
pack-requires c = subst (λ bytes. 8100000 < length bytes) c.self.view_is (deck-many c.self.invariant (omega (arith, c.len.ensures)))
