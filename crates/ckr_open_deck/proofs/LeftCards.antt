-- The next of the cards that are left: whether a statement goes on with it.
use Rattle.std.proofs.Common.{◌≡◌, ℕ, ◌+◌, Bool, true, List, [], ◌∷◌, ◌++◌, ◌&&◌, drop, ap, ap₂, sym, ◌∙◌, append_assoc, if◌then◌else◌, Option}
use Rattle.std.specs.Option.{option_or}
use Rattle.std.proofs.lemmas.List.{drop-drop}
use Rattle.ckr_cards.specs.declared.card.Card.{Card}
use Rattle.ckr_cards.specs.declared.lines.InStream.{InStream}
use Rattle.ckr_cards.specs.Card.{columns, stored_card, stored_cards}
use Rattle.ckr_cards.specs.Statement.{continuation, continuation_on, calls_again, is_continuation, is_record, records_in}
use Rattle.ckr_jcl_faults.specs.Faults.{long_card}
use Rattle.ckr_open_deck.proofs.LongCards.{long-next}

-- ---- continuation

continuation-step : (calls on : Bool) (number : ℕ) (left : List (List ℕ)) (stored : List ℕ) (card : Card) → left ≡ stored ∷ drop 1 left → card ≡ stored_card number stored → (calls && is_continuation (columns card)) ≡ on → continuation calls (stored_cards number left) ≡ continuation_on on card (continuation (calls_again (columns card)) (stored_cards (number + 1) (drop 1 left)))
continuation-step calls on number left stored card split is goes =
    ap (λ l. continuation calls (stored_cards number l)) split
    ∙ (ap (λ (c : Card). continuation_on (calls && is_continuation (columns c)) c (continuation (calls_again (columns c)) (stored_cards (number + 1) (drop 1 left)))) (sym is)
    ∙ ap (λ o. continuation_on o card (continuation (calls_again (columns card)) (stored_cards (number + 1) (drop 1 left)))) goes)

-- a field goes on with the next card, which is put behind those before it
pub continuation-more : (all more pushed : List Card) (calls next : Bool) (number : ℕ) (left rest : List (List ℕ)) (stored : List ℕ) (card : Card) → all ≡ more ++ continuation calls (stored_cards number left) → left ≡ stored ∷ drop 1 left → card ≡ stored_card number stored → (calls && is_continuation (columns card)) ≡ true → pushed ≡ more ++ card ∷ [] → next ≡ calls_again (columns card) → rest ≡ drop 1 left → all ≡ pushed ++ continuation next (stored_cards (number + 1) rest)
continuation-more all more pushed calls next number left rest stored card so_far split is goes pushes again skips =
    so_far ∙ (ap (λ l. more ++ l) (continuation-step calls true number left stored card split is goes)
    ∙ (sym (append_assoc more (card ∷ []) (continuation (calls_again (columns card)) (stored_cards (number + 1) (drop 1 left))))
    ∙ (ap (λ p. p ++ continuation (calls_again (columns card)) (stored_cards (number + 1) (drop 1 left))) (sym pushes)
    ∙ ap₂ (λ a l. pushed ++ continuation a (stored_cards (number + 1) l)) (sym again) (sym skips))))

-- ---- records

records-step : (ends : InStream) (on : Bool) (number : ℕ) (left : List (List ℕ)) (stored : List ℕ) (card : Card) → left ≡ stored ∷ drop 1 left → card ≡ stored_card number stored → is_record ends (columns card) ≡ on → records_in ends (stored_cards number left) ≡ (if on then card ∷ records_in ends (stored_cards (number + 1) (drop 1 left)) else [])
records-step ends on number left stored card split is goes =
    ap (λ l. records_in ends (stored_cards number l)) split
    ∙ (ap (λ (c : Card). if is_record ends (columns c) then c ∷ records_in ends (stored_cards (number + 1) (drop 1 left)) else []) (sym is)
    ∙ ap (λ o. if o then card ∷ records_in ends (stored_cards (number + 1) (drop 1 left)) else []) goes)

-- the next card is a record
pub records-next : (ends : InStream) (number next : ℕ) (left rest : List (List ℕ)) (stored : List ℕ) (card : Card) → left ≡ stored ∷ drop 1 left → card ≡ stored_card number stored → is_record ends (columns card) ≡ true → next ≡ number + 1 → rest ≡ drop 1 left → records_in ends (stored_cards number left) ≡ card ∷ records_in ends (stored_cards next rest)
records-next ends number next left rest stored card split is goes following skips =
    records-step ends true number left stored card split is goes
    ∙ ap₂ (λ n l. card ∷ records_in ends (stored_cards n l)) (sym following) (sym skips)

-- the first of the long lines, with the next record
pub long-record-next : (all before next : Option ℕ) (records behind : List Card) (card : Card) → all ≡ option_or before (long_card records) → records ≡ card ∷ behind → next ≡ option_or before (long_card (card ∷ [])) → all ≡ option_or next (long_card behind)
long-record-next all before next records behind card so_far split following =
    so_far ∙ (ap (λ r. option_or before (long_card r)) split
    ∙ (long-next before card behind ∙ ap (λ o. option_or o (long_card behind)) (sym following)))

-- ---- what is left

pub left-next : (count more : ℕ) (all left rest : List (List ℕ)) → left ≡ drop count all → rest ≡ drop 1 left → more ≡ count + 1 → rest ≡ drop more all
left-next count more all left rest so_far skips next =
    skips ∙ (ap (λ l. drop 1 l) so_far ∙ (drop-drop 1 count all ∙ ap (λ n. drop n all) (sym next)))
