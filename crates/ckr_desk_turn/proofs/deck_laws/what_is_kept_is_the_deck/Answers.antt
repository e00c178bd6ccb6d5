use Rattle.ckr_desk_turn.proofs.Decks.KeptCards.{kept_accepted}
use Rattle.ckr_desk_turn.proofs.deck_laws.what_is_kept_is_the_deck.Goals as goal

pub returns : goal.returns
returns c = kept_accepted
