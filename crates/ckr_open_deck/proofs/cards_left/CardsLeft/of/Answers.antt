use Rattle.std.proofs.Common.{◌≡◌, ◌∙◌, ◌*◌, ◌++◌, ap, sym, List, ℕ, length}
use Rattle.ckr_cards.specs.Card.{cards_in_bytes, stored_cards}
use Rattle.ckr_open_deck.specs.PackedLines.{unpacked}
use Rattle.ckr_open_deck.specs.declared.open_deck.PackedLine.{PackedLine}
use Rattle.ckr_open_deck.proofs.PackedCards.{all-whole, cards_in_bytes-joined, deck-size}
use Rattle.ckr_open_deck.proofs.cards_left.CardsLeft.of.Goals as goal

left-same : (cards one : List (List ℕ)) (lines other : List PackedLine) (text third : List ℕ) → one ≡ cards → other ≡ lines → third ≡ text → one ++ unpacked other third ≡ cards ++ unpacked lines text
left-same cards one lines other text third same_cards same_lines same_text = cc

pub returns-clause-cards : goal.returns-clause-cards
returns-clause-cards c =
    let d = c.deck.inside in
    ap (λ cards. stored_cards 1 cards) (left-same d.cards.items c.as_slice.result.now d.lines.items c.as_slice-2.result.now d.text.items c.as_slice-3.result.now c.as_slice.ensures.value c.as_slice-2.ensures.value c.as_slice-3.ensures.value)
    ∙ (sym (cards_in_bytes-joined (d.cards.items ++ unpacked d.lines.items d.text.items) (all-whole d.cards.items d.lines.items d.text.items c.deck.invariant.whole)) ∙ ap cards_in_bytes c.deck.view_is)

pub returns-clause-count : goal.returns-clause-count
returns-clause-count c =
    let d = c.deck.inside in
    ap (λ cards. 81 * length cards) (left-same d.cards.items c.as_slice.result.now d.lines.items c.as_slice-2.result.now d.text.items c.as_slice-3.result.now c.as_slice.ensures.value c.as_slice-2.ensures.value c.as_slice-3.ensures.value)
    ∙ (sym (deck-size c.deck.invariant) ∙ ap (λ bytes. length bytes) c.deck.view_is)
