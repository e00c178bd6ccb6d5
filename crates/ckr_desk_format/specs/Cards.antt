-- What one installation card says.
use Rattle.std.specs.Prelude.{ℕ, ◌&&◌, not, Bool, nat_lt, nat_le, IsTrue, if◌then◌else◌, List, [], ◌∷◌, ◌++◌, length, codes, bytes_eq, Option, Some, None}
use Rattle.std.specs.List.{list_all, list_any, slice_split, before_first, after_first}
use Rattle.ckr_base.specs.declared.code.Code.{Code}
use Rattle.ckr_base.specs.CodeText.{code_of, number_of, same_code}
use Rattle.ckr_base.specs.Grammar.{is_serial}
use Rattle.ckr_base.specs.Words.{is_blank, plain_number}
use Rattle.ckr_volumes.specs.Header.{is_within, codes_fit}
use Rattle.ckr_desk_format.specs.declared.cards.InstallationCard.{InstallationCard}
use Rattle.ckr_desk_format.specs.declared.cards.InstallationCard.TheVariants.{Initiators, Units, Book, Volume, Eligible}

-- a line that says nothing
abbrev pub is_blank_line : List ℕ → Bool
is_blank_line line = list_all is_blank line

abbrev pub initiators_of : Option ℕ → Option InstallationCard
initiators_of None = None
initiators_of (Some count) = if is_within 1 8 count then Some (Initiators count) else None

abbrev pub units_of : Option ℕ → Option InstallationCard
units_of None = None
units_of (Some count) = if is_within 1 16 count then Some (Units count) else None

abbrev pub book_of : Option ℕ → Option InstallationCard
book_of None = None
book_of (Some bytes) = if is_within 256 268435456 bytes then Some (Book bytes) else None

abbrev pub volume_with : List ℕ → Option ℕ → Option InstallationCard
volume_with serial None = None
volume_with serial (Some bytes) = if is_serial serial && is_within 1024 268435456 bytes then Some (Volume serial bytes) else None

-- a serial, a blank and a length
abbrev pub volume_of : List ℕ → Option InstallationCard
volume_of text = volume_with (before_first is_blank text) (plain_number (after_first is_blank text))

-- whether a code may stand behind others: there is room, and none of them is the same
abbrev pub is_new_code : List Code → Code → Bool
is_new_code made code = nat_lt (length made) 32 && (nat_le (number_of code) 4095 && not (list_any (same_code code) made))

abbrev pub codes_with : List Code → Option Code → Option (List Code)
codes_with made None = None
codes_with made (Some code) = if is_new_code made code then Some (made ++ code ∷ []) else None

-- the codes behind others that the words stand for
abbrev pub codes_by : List Code → List (List ℕ) → Option (List Code)
codes_by made [] = Some made
codes_by made (word ∷ rest) = elim (codes_with made (code_of word)) [
  | Some more ↦ codes_by more rest
  | None ↦ None
]

abbrev pub eligible_with : Option (List Code) → Option InstallationCard
eligible_with None = None
eligible_with (Some list) = Some (Eligible (record { items = list }))

-- different codes, parted by one blank
unfoldable pub eligible_of : List ℕ → Option InstallationCard
eligible_of text = eligible_with (codes_by [] (slice_split is_blank text))

-- the card that a line is: a word, one blank, and what the word wants; nothing stands behind it
abbrev pub card_of : List ℕ → Option InstallationCard
card_of line =
    if bytes_eq (before_first is_blank line) (codes "INITIATORS") then initiators_of (plain_number (after_first is_blank line))
    else if bytes_eq (before_first is_blank line) (codes "UNITS") then units_of (plain_number (after_first is_blank line))
    else if bytes_eq (before_first is_blank line) (codes "ELIGIBLE") then eligible_of (after_first is_blank line)
    else if bytes_eq (before_first is_blank line) (codes "BOOK") then book_of (plain_number (after_first is_blank line))
    else if bytes_eq (before_first is_blank line) (codes "VOLUME") then volume_of (after_first is_blank line)
    else None

-- what a card says is within the limits of a header
abbrev pub IsWithinLimits : InstallationCard → Type 0
IsWithinLimits (Initiators count) = IsTrue (is_within 1 8 count)
IsWithinLimits (Units count) = IsTrue (is_within 1 16 count)
IsWithinLimits (Book bytes) = IsTrue (is_within 256 268435456 bytes)
IsWithinLimits (Volume serial bytes) = IsTrue (is_serial serial) × IsTrue (is_within 1024 268435456 bytes)
IsWithinLimits (Eligible list) = IsTrue (is_within 1 32 (length list.items)) × IsTrue (codes_fit [] list.items)
