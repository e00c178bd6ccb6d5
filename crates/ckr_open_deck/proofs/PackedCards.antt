-- The cards of lines that are packed, and the bytes of cards that have 81 each.
use Rattle.std.proofs.Common.{◌≡◌, ℕ, ◌+◌, ◌*◌, ◌/◌, ◌≤◌, ◌<◌, ◌==◌, Bool, true, false, List, [], ◌∷◌, ◌++◌, length, take, drop, refl, ap, ap₂, sym, ◌∙◌, arith, length-append, length-drop, append_assoc, append-nil, if◌then◌else◌}
use Rattle.std.specs.Prelude.{nat_lt, nat_le, min, replicate}
use Rattle.std.specs.List.{flat_map}
use Rattle.std.specs.Simd.{first_chunks}
use Rattle.std.proofs.lemmas.List.{take_all, take-take, take_min, take-append-le, drop-append-le, length-take-le}
use Rattle.std.proofs.lemmas.List.Concat.{flat_map-append}
use Rattle.std.proofs.lemmas.Bool.Decides.{nat_tests}
use Rattle.ckr_base.proofs.Numbers.{nat_le-true}
use Rattle.ckr_base.proofs.Sequences.{drop-front, take-front, each-append}
use Rattle.ckr_cards.specs.Card.{filled, stored_line, stored_cards, cards_in_bytes}
use Rattle.ckr_cards.proofs.Fills.{length-filled}
use Rattle.ckr_open_deck.specs.PackedLines.{unpacked_line, unpacked, width, AreWhole, IsPacked}
use Rattle.ckr_open_deck.specs.declared.open_deck.PackedLine.{PackedLine}

-- ---- cards of 81 bytes

-- the bytes of cards, one behind the other
abbrev joined : List (List ℕ) → List ℕ
joined cards = flat_map (λ card. card) cards

length-joined : (cards : List (List ℕ)) → AreWhole cards → length (joined cards) ≡ 81 * length cards
length-joined [] whole = refl
length-joined (card ∷ rest) whole = omega (arith, length-append card (joined rest), whole.0, length-joined rest whole.1)

first_chunks-joined : (cards : List (List ℕ)) → AreWhole cards → first_chunks 81 (length cards) (joined cards) ≡ cards
first_chunks-joined [] whole = refl
first_chunks-joined (card ∷ rest) whole =
    ap₂ (λ chunk more. chunk ∷ more) (take-front 81 card (joined rest) whole.0)
    (ap (λ bytes. first_chunks 81 (length rest) bytes) (drop-front 81 card (joined rest) whole.0) ∙ first_chunks-joined rest whole.1)

-- the bytes of cards have these cards
pub cards_in_bytes-joined : (cards : List (List ℕ)) → AreWhole cards → cards_in_bytes (joined cards) ≡ stored_cards 1 cards
unfolding cards_in_bytes
cards_in_bytes-joined cards whole =
    ap (λ count. stored_cards 1 (first_chunks 81 count (joined cards))) (ap (λ n. n / 81) (length-joined cards whole) ∙ each (length cards))
    ∙ ap (λ stored. stored_cards 1 stored) (first_chunks-joined cards whole)
  where
    each : (n : ℕ) → 81 * n / 81 ≡ n
    each n = omega arith

-- ---- lines that are packed

length-unpacked_line : (line : PackedLine) (text : List ℕ) → length (unpacked_line line text) ≡ 81
length-unpacked_line line text = length-append (filled text) ((if line.long then 1 else 0) ∷ []) ∙ ap (λ n. n + 1) (length-filled text)

-- as many cards as lines
pub length-unpacked : (lines : List PackedLine) (text : List ℕ) → length (unpacked lines text) ≡ length lines
length-unpacked [] text = refl
length-unpacked (line ∷ rest) text = omega (arith, length-unpacked rest (drop line.length text))

unpacked-whole : (lines : List PackedLine) (text : List ℕ) → AreWhole (unpacked lines text)
unpacked-whole [] text = tt
unpacked-whole (line ∷ rest) text = (length-unpacked_line line (take line.length text), unpacked-whole rest (drop line.length text))

pub all-whole : (cards : List (List ℕ)) (lines : List PackedLine) (text : List ℕ) → AreWhole cards → AreWhole (cards ++ unpacked lines text)
all-whole cards lines text whole = each-append (λ card. length card ≡ 81) cards (unpacked lines text) whole (unpacked-whole lines text)

-- a line more
unpacked-more : (lines : List PackedLine) (text : List ℕ) (line : PackedLine) (front : List ℕ) → width lines ≡ length text → line.length ≡ length front → unpacked (lines ++ line ∷ []) (text ++ front) ≡ unpacked lines text ++ unpacked_line line front ∷ []
unpacked-more [] [] line front same size = ap (λ t. unpacked_line line t ∷ []) (take_all line.length front (omega arith))
unpacked-more [] (byte ∷ text) line front same size = absurd (omega (arith, same))
unpacked-more (first ∷ rest) text line front same size =
    ap₂ (λ t more. unpacked_line first t ∷ more) (take-append-le first.length text front (omega arith))
    (ap (λ t. unpacked (rest ++ line ∷ []) t) (drop-append-le first.length text front (omega arith)) ∙ unpacked-more rest (drop first.length text) line front (omega (arith, length-drop first.length text)) size)

width-more : (lines : List PackedLine) (line : PackedLine) → width (lines ++ line ∷ []) ≡ width lines + line.length
width-more [] line = omega arith
width-more (first ∷ rest) line = omega (arith, width-more rest line)

-- a line is filled as its first 80 bytes are
filled-front : (line : List ℕ) → filled (take 80 line) ≡ filled line
unfolding filled
filled-front line = by (nat_le (length line) 80) refl
  where
    longer : (n : ℕ) → nat_le n 80 ≡ false → 80 ≤ n
    longer n is = grind (arith, nat_tests)

    by : (short : Bool) → nat_le (length line) 80 ≡ short → take 80 (take 80 line ++ replicate 80 32) ≡ take 80 (line ++ replicate 80 32)
    by true is = ap (λ front. take 80 (front ++ replicate 80 32)) (take_all 80 line (nat_le-true (length line) 80 is))
    by false is =
        let long = longer (length line) is in
        take-append-le 80 (take 80 line) (replicate 80 32) (omega (arith, length-take-le 80 line long)) ∙ (take-take 80 80 line (omega arith) ∙ sym (take-append-le 80 line (replicate 80 32) long))

take-most80 : (line : List ℕ) (count : ℕ) → count ≡ min (length line) 80 → take count line ≡ take 80 line
take-most80 line count few = ap (λ n. take n line) (few ∙ min-sym (length line) 80) ∙ take_min 80 line
  where
    min-sym : (a b : ℕ) → min a b ≡ min b a
    min-sym a b = omega arith

-- how a line is packed of which a number of bytes is kept
abbrev pub packed_line : ℕ → List ℕ → PackedLine
packed_line count line = record { length = length (take count line); long = nat_lt 80 (length line) }

-- its card is that of the line
unpacked-packed : (line : List ℕ) (count : ℕ) → count ≡ min (length line) 80 → unpacked_line (packed_line count line) (take count line) ≡ stored_line line
unpacked-packed line count few =
    ap (λ columns. columns ++ (if nat_lt 80 (length line) then 1 else 0) ∷ []) (ap filled (take-most80 line count few) ∙ filled-front line)

-- ---- a deck

-- the bytes of its cards
abbrev pub deck_bytes : List (List ℕ) → List PackedLine → List ℕ → List ℕ
deck_bytes cards lines text = joined (cards ++ unpacked lines text)

pub deck-size : {cards : List (List ℕ)} {lines : List PackedLine} {text : List ℕ} → IsPacked cards lines text → length (deck_bytes cards lines text) ≡ 81 * length (cards ++ unpacked lines text)
deck-size {cards} {lines} {text} packed = length-joined (cards ++ unpacked lines text) (all-whole cards lines text packed.whole)

-- more cards than it may have are more bytes, and the other way round
pub deck-many : {cards : List (List ℕ)} {lines : List PackedLine} {text : List ℕ} → IsPacked cards lines text → 100000 < length cards → 8100000 < length (deck_bytes cards lines text)
deck-many {cards} {lines} {text} packed many = omega (arith, deck-size packed, length-append cards (unpacked lines text))

deck-stored : {cards : List (List ℕ)} {lines : List PackedLine} {text : List ℕ} → IsPacked cards lines text → 8100000 < length (deck_bytes cards lines text) → 100000 < length cards
deck-stored {cards} {lines} {text} packed many = by (nat_le (length cards) 100000) refl
  where
    more : (n : ℕ) → nat_le n 100000 ≡ false → 100000 < n
    more n is = grind (arith, nat_tests)

    by : (few : Bool) → nat_le (length cards) 100000 ≡ few → 100000 < length cards
    by true is =
        let few = nat_le-true (length cards) 100000 is in
        let none : length (unpacked lines text) ≡ 0 = ap (λ l. length (unpacked l text)) (packed.few few) in
        omega (arith, deck-size packed, length-append cards (unpacked lines text))
    by false is = more (length cards) is

-- it has no bytes exactly where no card is stored
pub deck-empty : (cards : List (List ℕ)) (lines : List PackedLine) (text : List ℕ) → IsPacked cards lines text → (length cards == 0) ≡ (length (deck_bytes cards lines text) == 0)
deck-empty [] lines text packed = ap (λ l. length (joined (unpacked l text)) == 0) (sym (packed.few (omega arith)))
deck-empty (card ∷ rest) lines text packed = both (length (card ∷ rest)) (length (deck_bytes (card ∷ rest) lines text)) (omega arith) (omega (arith, deck-size packed))
  where
    both : (m n : ℕ) → 0 < m → 0 < n → (m == 0) ≡ (n == 0)
    both m n some more = grind (arith, nat_tests)

-- a line more is packed
pub deck-packed : {cards : List (List ℕ)} {lines : List PackedLine} {text : List ℕ} (front : List ℕ) (mark : PackedLine) → IsPacked cards lines text → 8100000 < length (deck_bytes cards lines text) → mark.length ≡ length front → IsPacked cards (lines ++ mark ∷ []) (text ++ front)
deck-packed {cards} {lines} {text} front mark packed many size = record {
  whole = packed.whole;
  few = λ few. absurd (omega (arith, few, deck-stored packed many));
  width = omega (arith, width-more lines mark, packed.width, length-append text front, size);
}

pub deck-more : {cards : List (List ℕ)} {lines : List PackedLine} {text : List ℕ} (line : List ℕ) (count : ℕ) → IsPacked cards lines text → count ≡ min (length line) 80 → deck_bytes cards (lines ++ packed_line count line ∷ []) (text ++ take count line) ≡ deck_bytes cards lines text ++ stored_line line
deck-more {cards} {lines} {text} line count packed few =
    ap (λ more. joined (cards ++ more)) (unpacked-more lines text (packed_line count line) (take count line) packed.width refl ∙ ap (λ card. unpacked lines text ++ card ∷ []) (unpacked-packed line count few))
    ∙ (ap joined (sym (append_assoc cards (unpacked lines text) (stored_line line ∷ [])))
    ∙ (flat_map-append (λ card. card) (cards ++ unpacked lines text) (stored_line line ∷ []) ∙ ap (λ bytes. deck_bytes cards lines text ++ bytes) (append-nil (stored_line line))))
