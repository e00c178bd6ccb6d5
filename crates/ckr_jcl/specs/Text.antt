-- Small readers of a text: numbers, lists in parentheses, texts in apostrophes, words.
use Rattle.std.specs.Prelude.{ℕ, zero, suc, ◌-◌, ◌==◌, ◌&&◌, ◌||◌, not, Bool, true, false, if◌then◌else◌, nat_le, List, [], ◌∷◌, length, Option, Some, None, bytes_eq, slice_get, take, drop}
use Rattle.std.specs.List.{list_all}
use Rattle.std.specs.Option.{option_map}
use Rattle.ckr_base.specs.Grammar.{is_digit, is_text_of}
use Rattle.ckr_base.specs.Words.{number_in_digits}
use Rattle.ckr_cards.specs.Field.{is_apostrophe, is_opening, is_closing, is_comma}

-- a test as a value
abbrev pub if_holds : {X : Type 0} → Bool → X → Option X
if_holds true x = Some x
if_holds false x = None

-- ---- numbers

-- 1 to 9 decimal digits
unfoldable pub number_value : List ℕ → Option ℕ
number_value text = if is_text_of is_digit 9 text then Some (number_in_digits text) else None

-- ---- marks

-- what stands before the first byte of a kind
abbrev pub before : ℕ → List ℕ → List ℕ
before mark [] = []
before mark (byte ∷ rest) = if byte == mark then [] else byte ∷ before mark rest

-- what stands behind it; nothing where there is none
abbrev pub behind : ℕ → List ℕ → List ℕ
behind mark [] = []
behind mark (byte ∷ rest) = if byte == mark then rest else behind mark rest

-- ---- parentheses and apostrophes

abbrev pub is_mark : ℕ → Option ℕ → Bool
is_mark mark None = false
is_mark mark (Some byte) = byte == mark

unfoldable pub is_enclosed : ℕ → ℕ → List ℕ → Bool
is_enclosed left right text = is_mark left (slice_get text 0) && is_mark right (slice_get text (length text - 1))

-- what stands between a first byte and a last one
unfoldable pub enclosed : ℕ → ℕ → List ℕ → Option (List ℕ)
enclosed left right text = if_holds (nat_le 2 (length text) && is_enclosed left right text) (take (length text - 1 - 1) (drop 1 text))

abbrev pub in_parentheses : List ℕ → Option (List ℕ)
in_parentheses text = enclosed 40 41 text

abbrev pub in_apostrophes : List ℕ → Option (List ℕ)
in_apostrophes text = enclosed 39 39 text

abbrev pub begins_list : List ℕ → Bool
begins_list [] = false
begins_list (byte ∷ rest) = is_opening byte

abbrev pub begins_quoted : List ℕ → Bool
begins_quoted [] = false
begins_quoted (byte ∷ rest) = is_apostrophe byte

-- the items of a list in parentheses, or of a text that stands without them
abbrev pub opened : List ℕ → Option (List ℕ)
opened text = if begins_list text then in_parentheses text else Some text

-- an item of a list by its place from 0; nothing where there is none
abbrev pub item_at : ℕ → List (List ℕ) → List ℕ
item_at place [] = []
item_at zero (item ∷ rest) = item
item_at (suc place) (item ∷ rest) = item_at place rest

-- ---- words

-- no empty text, and without commas, parentheses and apostrophes
abbrev pub is_special : ℕ → Bool
is_special byte = is_comma byte || is_opening byte || is_closing byte || is_apostrophe byte

abbrev pub is_word : List ℕ → Bool
is_word text = nat_le 1 (length text) && list_all (λ byte. not (is_special byte)) text

-- an empty text, or the one word that may stand there
abbrev pub is_empty_or : List ℕ → List ℕ → Bool
is_empty_or most [] = true
is_empty_or most (byte ∷ rest) = bytes_eq (byte ∷ rest) most

-- what an empty text, or one of a grammar, stands for
abbrev pub or_empty : {X : Type 0} → (List ℕ → Option X) → List ℕ → Option (Option X)
or_empty value [] = Some None
or_empty value (byte ∷ rest) = option_map (λ x. Some x) (value (byte ∷ rest))
