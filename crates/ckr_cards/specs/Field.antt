-- An operand field: where it ends, whether it goes on, how it parts into operands, whether it closes.
use Rattle.ckr_cards.specs.declared.parts.Reading.{Reading}
use Rattle.ckr_cards.specs.declared.parts.Reading.TheVariants.{Free, Quoted, Unquoted, Closed}
use Rattle.std.specs.Prelude.{ℕ, ◌+◌, ◌-◌, ◌==◌, ◌&&◌, ◌||◌, not, Bool, true, false, if◌then◌else◌, List, [], ◌∷◌, map}
use Rattle.ckr_cards.specs.declared.field.FieldSpot.{FieldSpot}
use Rattle.ckr_cards.specs.Card.{is_blank}

abbrev pub spots : ℕ → List ℕ → List FieldSpot
spots card text = map (λ byte. record { byte = byte; card = card }) text

abbrev pub is_apostrophe : ℕ → Bool
is_apostrophe byte = byte == 39

abbrev pub is_opening : ℕ → Bool
is_opening byte = byte == 40

abbrev pub is_closing : ℕ → Bool
is_closing byte = byte == 41

abbrev pub is_comma : ℕ → Bool
is_comma byte = byte == 44

-- ---- the field on one card

abbrev pub quoted_after : Bool → ℕ → Bool
quoted_after quoted byte = if is_apostrophe byte then not quoted else quoted

abbrev pub field_on : Bool → ℕ → List ℕ → List ℕ
field_on true byte rest = []
field_on false byte rest = byte ∷ rest

-- the front of a text up to a blank outside apostrophes
abbrev pub field_from : Bool → List ℕ → List ℕ
field_from quoted [] = []
field_from quoted (byte ∷ rest) = field_on (is_blank byte && not quoted) byte (field_from (quoted_after quoted byte) rest)

abbrev pub field_of : List ℕ → List ℕ
field_of text = field_from false text

-- whether a field ends with a comma outside apostrophes, and so goes on with the next card
abbrev pub goes_on_from : Bool → List ℕ → Bool
goes_on_from quoted [] = false
goes_on_from quoted (byte ∷ []) = is_comma byte && not quoted
goes_on_from quoted (byte ∷ next ∷ rest) = goes_on_from (quoted_after quoted byte) (next ∷ rest)

abbrev pub goes_on : List ℕ → Bool
goes_on field = goes_on_from false field

-- ---- what the bytes before a place leave open

abbrev pub outside_after : ℕ → Reading
outside_after byte = if is_apostrophe byte then Quoted else (if is_closing byte then Closed else Free)

abbrev pub reading_after : Reading → ℕ → Reading
reading_after Quoted byte = if is_apostrophe byte then Unquoted else Quoted
reading_after Free byte = outside_after byte
reading_after Unquoted byte = outside_after byte
reading_after Closed byte = outside_after byte

abbrev pub is_outside : Reading → Bool
is_outside Quoted = false
is_outside Free = true
is_outside Unquoted = true
is_outside Closed = true

-- how many parentheses are open
abbrev pub depth_after : Reading → ℕ → ℕ → ℕ
depth_after reading depth byte =
    if is_outside reading && is_opening byte then depth + 1 else (if is_outside reading && is_closing byte then depth - 1 else depth)

-- ---- the operands

abbrev pub is_parting : Reading → ℕ → ℕ → Bool
is_parting reading depth byte = is_comma byte && depth == 0 && is_outside reading

abbrev pub onto_head : {X : Type 0} → X → List (List X) → List (List X)
onto_head x [] = (x ∷ []) ∷ []
onto_head x (part ∷ rest) = (x ∷ part) ∷ rest

abbrev pub part_on : {X : Type 0} → Bool → X → List (List X) → List (List X)
part_on true x parts = [] ∷ parts
part_on false x parts = onto_head x parts

-- what stands between the commas outside parentheses and apostrophes
abbrev pub parts_from : {X : Type 0} → (X → ℕ) → Reading → ℕ → List X → List (List X)
parts_from byte reading depth [] = [] ∷ []
parts_from byte reading depth (x ∷ rest) =
    part_on (is_parting reading depth (byte x)) x (parts_from byte (reading_after reading (byte x)) (depth_after reading depth (byte x)) rest)

abbrev pub parts_of_field : List FieldSpot → List (List FieldSpot)
parts_of_field field = parts_from (λ spot. spot.byte) Free 0 field

abbrev pub parts_of : List ℕ → List (List ℕ)
parts_of text = parts_from (λ byte. byte) Free 0 text

-- ---- whether it closes

abbrev pub is_end_of_part : ℕ → ℕ → Bool
is_end_of_part depth byte = is_comma byte || is_closing byte && not (depth == 0)

-- a parenthesis closes only where one is open, and behind a closing one no text stands
abbrev pub may_follow : Reading → ℕ → ℕ → Bool
may_follow Quoted depth byte = true
may_follow Free depth byte = not (is_closing byte && depth == 0)
may_follow Unquoted depth byte = is_apostrophe byte || is_end_of_part depth byte
may_follow Closed depth byte = is_end_of_part depth byte

abbrev pub closes_from : Reading → ℕ → List ℕ → Bool
closes_from reading depth [] = is_outside reading && depth == 0
closes_from reading depth (byte ∷ rest) = closes_from (reading_after reading byte) (depth_after reading depth byte) rest

-- whether no parenthesis and no apostrophe is open at the end
abbrev pub closes : List ℕ → Bool
closes text = closes_from Free 0 text

abbrev pub is_orderly_from : Reading → ℕ → List ℕ → Bool
is_orderly_from reading depth [] = true
is_orderly_from reading depth (byte ∷ rest) =
    may_follow reading depth byte && is_orderly_from (reading_after reading byte) (depth_after reading depth byte) rest

abbrev pub is_orderly : List ℕ → Bool
is_orderly text = is_orderly_from Free 0 text
