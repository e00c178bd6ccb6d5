-- The laws of decks and streams.
use Rattle.ckr_cards.proofs.CardPlaces.{cards_in-statements_of}
use Rattle.ckr_cards.proofs.CutLines.{all_lines-items_of_lines}
use Rattle.ckr_cards.proofs.CutLaw.{line_kinds-run}
use Rattle.ckr_cards.proofs.ItemGroups.{items_of_lines-append}
use Rattle.ckr_cards.proofs.Sessions.{handed_of-append_lines}
use Rattle.ckr_cards.proofs.StoredCards.{cards_in_bytes-lines}

pub ruleset laws = (cards_in-statements_of, all_lines-items_of_lines, line_kinds-run, items_of_lines-append, handed_of-append_lines, cards_in_bytes-lines)
