-- Cards that are stored in 81 bytes each.
use Rattle.std.proofs.Common.{◌≡◌, ℕ, zero, suc, ◌+◌, ◌*◌, ◌/◌, ◌==◌, Bool, true, false, List, [], ◌∷◌, ◌++◌, length, take, drop, map, refl, ap, ap₂, sym, ◌∙◌, arith, length-append, if◌then◌else◌}
use Rattle.std.proofs.Math.Seq.{get_or-append_seam}
use Rattle.std.specs.Prelude.{nat_lt, slice_index}
use Rattle.std.specs.Simd.{first_chunks}
use Rattle.ckr_base.proofs.Sequences.{drop-front, take-front}
use Rattle.ckr_cards.specs.Card.{card_of, cards_of_lines, filled, stored_line, stored_lines, stored_card, stored_cards, cards_in_bytes}
use Rattle.ckr_cards.proofs.Fills.{length-filled}

pub drop_stored : (k n : ℕ) (cards : List (List ℕ)) → drop k (stored_cards n cards) ≡ stored_cards (n + k) (drop k cards)
drop_stored zero n cards = ap (λ m. stored_cards m cards) (omega arith)
drop_stored (suc k) n [] = refl
drop_stored (suc k) n (card ∷ rest) = drop_stored k (n + 1) rest ∙ ap (λ m. stored_cards m (drop k rest)) (omega arith)

-- ---- lines that are stored are the cards of the lines

abbrev pub mark_of : Bool → ℕ
mark_of long = if long then 1 else 0

pub mark_of-one : (long : Bool) → (mark_of long == 1) ≡ long
mark_of-one true = refl
mark_of-one false = refl

pub length-stored_line : (line : List ℕ) → length (stored_line line) ≡ 81
length-stored_line line = length-append (filled line) (mark_of (nat_lt 80 (length line)) ∷ []) ∙ ap (λ n. n + 1) (length-filled line)

pub index-front : (n : ℕ) (xs : List ℕ) (y : ℕ) (ys : List ℕ) → length xs ≡ n → slice_index (xs ++ y ∷ ys) n ≡ y
index-front n xs y ys size = ap (λ k. slice_index (xs ++ y ∷ ys) k) (sym size) ∙ get_or-append_seam xs y ys 0

-- a card is what is stored of its line
pub stored_card-line : (number : ℕ) (line : List ℕ) → stored_card number (stored_line line) ≡ card_of number line
stored_card-line number line = ap₂ (λ bytes long. record { number = number; bytes = bytes; long = long }) front mark
  where
    front : take 80 (stored_line line) ≡ filled line
    front = take-front 80 (filled line) (mark_of (nat_lt 80 (length line)) ∷ []) (length-filled line)

    mark : (slice_index (stored_line line) 80 == 1) ≡ nat_lt 80 (length line)
    mark = ap (λ x. x == 1) (index-front 80 (filled line) (mark_of (nat_lt 80 (length line))) [] (length-filled line)) ∙ mark_of-one (nat_lt 80 (length line))

pub stored_cards-lines : (number : ℕ) (lines : List (List ℕ)) → stored_cards number (map stored_line lines) ≡ cards_of_lines number lines
stored_cards-lines number [] = refl
stored_cards-lines number (line ∷ rest) = ap₂ (λ card more. card ∷ more) (stored_card-line number line) (stored_cards-lines (number + 1) rest)

pub first_chunks-lines : (lines : List (List ℕ)) → first_chunks 81 (length lines) (stored_lines lines) ≡ map stored_line lines
first_chunks-lines [] = refl
first_chunks-lines (line ∷ rest) =
    ap₂ (λ chunk more. chunk ∷ more) (take-front 81 (stored_line line) (stored_lines rest) (length-stored_line line))
    (ap (λ bytes. first_chunks 81 (length rest) bytes) (drop-front 81 (stored_line line) (stored_lines rest) (length-stored_line line)) ∙ first_chunks-lines rest)

pub length-stored_lines : (lines : List (List ℕ)) → length (stored_lines lines) ≡ 81 * length lines
length-stored_lines [] = refl
length-stored_lines (line ∷ rest) =
    length-append (stored_line line) (stored_lines rest) ∙ (ap₂ (λ a b. a + b) (length-stored_line line) (length-stored_lines rest) ∙ next (length rest))
  where
    next : (n : ℕ) → 81 + 81 * n ≡ 81 * suc n
    next n = omega arith

-- the cards that are stored of lines are the cards of the lines
pub cards_in_bytes-lines : (lines : List (List ℕ)) → cards_in_bytes (stored_lines lines) ≡ cards_of_lines 1 lines
unfolding cards_in_bytes
cards_in_bytes-lines lines =
    ap (λ count. stored_cards 1 (first_chunks 81 count (stored_lines lines))) (ap (λ n. n / 81) (length-stored_lines lines) ∙ whole (length lines))
    ∙ (ap (λ stored. stored_cards 1 stored) (first_chunks-lines lines) ∙ stored_cards-lines 1 lines)
  where
    whole : (n : ℕ) → 81 * n / 81 ≡ n
    whole n = omega arith
