-- Cutting loses no line and moves none.
use Rattle.std.proofs.Common.{◌≡◌, ℕ, zero, suc, ◌+◌, ◌≤◌, Bool, true, false, List, [], ◌∷◌, ◌++◌, length, take, drop, refl, ap, sym, subst, arith, if◌then◌else◌, take-append-drop}
use Rattle.std.proofs.lemmas.Grind.{common_steps}
use Rattle.ckr_cards.specs.Card.{card_of, cards_of_lines}
use Rattle.ckr_cards.specs.declared.statement.Statement.{Statement}
use Rattle.ckr_cards.specs.Statement.{statement_at}
use Rattle.ckr_cards.specs.Cut.{items_from, items_of_lines, item_at, single_item, lines_taken, deck_length, cards_from_start, starts_line, columns_of, is_command, is_ignored, lines_in, all_lines}
use Rattle.ckr_cards.specs.Cut.Item.{DeckOf, Command, Refused, Ignored}
use Rattle.ckr_cards.proofs.Statements.{statements_of-cons}

pub cards_from_start-pos : (s : Statement) (rest : List Statement) → 1 ≤ cards_from_start (s ∷ rest)
cards_from_start-pos s rest = grind (arith, common_steps)

-- a deck has at least its JOB card
pub deck_length-pos : (line : List ℕ) (rest : List (List ℕ)) → 1 ≤ deck_length (line ∷ rest)
unfolding deck_length
deck_length-pos line rest =
    subst (λ statements. 1 ≤ cards_from_start statements) (sym (statements_of-cons (card_of 1 line) (cards_of_lines 2 rest)))
    (cards_from_start-pos (statement_at (card_of 1 line) (cards_of_lines 2 rest)) _)

pub lines_taken-pos : (line : List ℕ) (rest : List (List ℕ)) → 1 ≤ lines_taken line rest
unfolding lines_taken
lines_taken-pos line rest = choose (starts_line line)
  where
    choose : (starts : Bool) → 1 ≤ (if starts then deck_length (line ∷ rest) else 1)
    choose true = deck_length-pos line rest
    choose false = omega arith

pub single_item-line : (line : List ℕ) → lines_in (single_item line) ≡ line ∷ []
unfolding single_item
single_item-line line = choose (is_command (columns_of line)) (is_ignored line)
  where
    choose : (command ignored : Bool) → lines_in (if command then Command line else (if ignored then Ignored line else Refused line)) ≡ line ∷ []
    choose true ignored = refl
    choose false true = refl
    choose false false = refl

pub item_at-lines : (line : List ℕ) (rest : List (List ℕ)) → lines_in (item_at (lines_taken line rest) line rest) ++ drop (lines_taken line rest) (line ∷ rest) ≡ line ∷ rest
unfolding item_at lines_taken
item_at-lines line rest = choose (starts_line line)
  where
    choose : (starts : Bool) → lines_in (if starts then DeckOf (take (if starts then deck_length (line ∷ rest) else 1) (line ∷ rest)) else single_item line) ++ drop (if starts then deck_length (line ∷ rest) else 1) (line ∷ rest) ≡ line ∷ rest
    choose true = take-append-drop (deck_length (line ∷ rest)) (line ∷ rest)
    choose false = ap (λ front. front ++ rest) (single_item-line line)

pub drop-fits_pos : {X : Type 0} (k m : ℕ) (x : X) (xs : List X) → 1 ≤ k → length (x ∷ xs) ≤ suc m → length (drop k (x ∷ xs)) ≤ m
drop-fits_pos k m x xs positive fits = grind (arith, common_steps)

pub all_lines-items_from : (fuel number : ℕ) (lines : List (List ℕ)) → length lines ≤ fuel → all_lines (items_from fuel number lines) ≡ lines
all_lines-items_from zero number [] fits = refl
all_lines-items_from (suc fuel) number [] fits = refl
all_lines-items_from zero number (line ∷ rest) fits = grind arith
all_lines-items_from (suc fuel) number (line ∷ rest) fits =
    rw (all_lines-items_from fuel (number + lines_taken line rest) (drop (lines_taken line rest) (line ∷ rest)) (drop-fits_pos (lines_taken line rest) fuel line rest (lines_taken-pos line rest) fits))
    (item_at-lines line rest)

-- the items of a stream have its lines, in their order
pub all_lines-items_of_lines : (lines : List (List ℕ)) → all_lines (items_of_lines lines) ≡ lines
unfolding items_of_lines
all_lines-items_of_lines lines = all_lines-items_from (length lines) 1 lines (grind arith)
