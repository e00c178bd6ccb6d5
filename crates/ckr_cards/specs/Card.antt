-- A card, and how the columns of a statement are read.
use Rattle.std.specs.Prelude.{ℕ, ◌+◌, ◌/◌, ◌==◌, ◌&&◌, ◌||◌, Bool, if◌then◌else◌, nat_lt, nat_eq, List, [], ◌∷◌, ◌++◌, length, take, drop, replicate, slice_index, codes}
use Rattle.std.specs.List.{list_all, starts_with}
use Rattle.std.specs.Simd.{first_chunks}
use Rattle.ckr_cards.specs.declared.card.Card.{Card}

-- a line filled with blanks to 80 columns
unfoldable pub filled : List ℕ → List ℕ
filled line = take 80 (line ++ replicate 80 32)

abbrev pub card_of : ℕ → List ℕ → Card
card_of number line = record { number = number; bytes = filled line; long = nat_lt 80 (length line) }

-- the cards of lines, numbered from `number` on
abbrev pub cards_of_lines : ℕ → List (List ℕ) → List Card
cards_of_lines number [] = []
cards_of_lines number (line ∷ rest) = card_of number line ∷ cards_of_lines (number + 1) rest

-- a line as it is stored in 81 bytes: 80 columns, and 1 behind them where the line was longer
abbrev pub stored_line : List ℕ → List ℕ
stored_line line = filled line ++ (if nat_lt 80 (length line) then 1 else 0) ∷ []

-- lines as they are stored, one after the other
abbrev pub stored_lines : List (List ℕ) → List ℕ
stored_lines [] = []
stored_lines (line ∷ rest) = stored_line line ++ stored_lines rest

-- the card that is stored in 81 bytes
abbrev pub stored_card : ℕ → List ℕ → Card
stored_card number stored = record { number = number; bytes = take 80 stored; long = slice_index stored 80 == 1 }

abbrev pub stored_cards : ℕ → List (List ℕ) → List Card
stored_cards number [] = []
stored_cards number (stored ∷ rest) = stored_card number stored ∷ stored_cards (number + 1) rest

-- the cards that are stored one after the other
unfoldable pub cards_in_bytes : List ℕ → List Card
cards_in_bytes bytes = stored_cards 1 (first_chunks 81 (length bytes / 81) bytes)

abbrev pub is_blank : ℕ → Bool
is_blank byte = byte == 32 || byte == 9

-- whether a text begins with another
abbrev pub begins : List ℕ → List ℕ → Bool
begins text front = starts_with nat_eq text front

-- what stands before the first blank
abbrev pub word : List ℕ → List ℕ
word [] = []
word (byte ∷ rest) = if is_blank byte then [] else byte ∷ word rest

-- what stands from the first blank on
abbrev pub behind_word : List ℕ → List ℕ
behind_word [] = []
behind_word (byte ∷ rest) = if is_blank byte then byte ∷ rest else behind_word rest

-- what stands from the first byte on that is no blank
abbrev pub behind_blanks : List ℕ → List ℕ
behind_blanks [] = []
behind_blanks (byte ∷ rest) = if is_blank byte then behind_blanks rest else byte ∷ rest

-- how many blanks stand before that byte
abbrev pub blanks_before : List ℕ → ℕ
blanks_before [] = 0
blanks_before (byte ∷ rest) = if is_blank byte then blanks_before rest + 1 else 0

-- columns 1 to 71, which are those that are read
abbrev pub columns : Card → List ℕ
columns card = take 71 card.bytes

-- ---- of the columns that are read

-- columns 3 to 71
abbrev pub behind_slashes : List ℕ → List ℕ
behind_slashes text = drop 2 text

unfoldable pub has_slashes : List ℕ → Bool
has_slashes text = begins text (codes "//")

unfoldable pub is_comment : List ℕ → Bool
is_comment text = begins text (codes "//*")

unfoldable pub is_delimiter : List ℕ → Bool
is_delimiter text = begins text (codes "/*")

-- `//`, and blanks
unfoldable pub is_null : List ℕ → Bool
is_null text = has_slashes text && list_all is_blank (behind_slashes text)

-- the name field stands directly in column 3, up to a blank
unfoldable pub name_of : List ℕ → List ℕ
name_of text = word (behind_slashes text)

unfoldable pub behind_name : List ℕ → List ℕ
behind_name text = behind_blanks (behind_word (behind_slashes text))

unfoldable pub operation_of : List ℕ → List ℕ
operation_of text = word (behind_name text)

-- what stands behind the operation: operands, and after a blank a comment
unfoldable pub behind_operation : List ℕ → List ℕ
behind_operation text = behind_blanks (behind_word (behind_name text))
