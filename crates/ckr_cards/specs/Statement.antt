-- The statements of a deck: what their cards are, how far each goes, and its operands.
use Rattle.ckr_cards.specs.declared.lines.InStream.{InStream}
use Rattle.ckr_cards.specs.declared.lines.InStream.TheVariants.{NoRecords, UpToSlashes, UpToDelimiter}
use Rattle.ckr_cards.specs.declared.kind.StatementKind.{StatementKind}
use Rattle.ckr_cards.specs.declared.kind.StatementKind.TheVariants.{Job as JobStatement, Exec as ExecStatement, Dd as DdStatement, Comment as CommentStatement, Delimiter as DelimiterStatement, Null as NullStatement, Unknown as NoStatement}
use Rattle.ckr_cards.specs.declared.operand.Operand.{Operand}
use Rattle.ckr_cards.specs.declared.statement.Statement.{Statement}
use Rattle.ckr_cards.specs.declared.field.FieldSpot.{FieldSpot}
use Rattle.std.specs.List.{list_all}
use Rattle.std.specs.Option.{is_some}
use Rattle.std.specs.Prelude.{ℕ, zero, suc, ◌+◌, ◌==◌, ◌&&◌, ◌||◌, not, Bool, true, false, if◌then◌else◌, nat_le, List, [], ◌∷◌, ◌++◌, length, map, drop, Option, Some, None, codes, bytes_eq, unwrap_or, filter_map}
use Rattle.ckr_cards.specs.declared.card.Card.{Card}
use Rattle.ckr_cards.specs.Card.{columns, is_blank, has_slashes, behind_slashes, is_comment, is_delimiter, is_null, name_of, operation_of, behind_operation, behind_blanks, blanks_before}
use Rattle.ckr_cards.specs.Field.{parts_of, spots, field_of, goes_on, parts_of_field, closes, is_orderly, is_opening, is_apostrophe}
use Rattle.ckr_cards.specs.Tables.{look_up}

-- ---- what a first card begins

abbrev pub operations : List (List ℕ × StatementKind)
operations = (codes "JOB", JobStatement) ∷ (codes "EXEC", ExecStatement) ∷ (codes "DD", DdStatement) ∷ []

unfoldable pub kind_of : List ℕ → StatementKind
kind_of text =
    if is_comment text then CommentStatement
    else (if is_delimiter text then DelimiterStatement
    else (if not (has_slashes text) then NoStatement
    else (if is_null text then NullStatement
    else unwrap_or (look_up operations (operation_of text)) NoStatement)))

abbrev pub is_job : StatementKind → Bool
is_job JobStatement = true
is_job _ = false

abbrev pub is_exec : StatementKind → Bool
is_exec ExecStatement = true
is_exec _ = false

abbrev pub is_dd : StatementKind → Bool
is_dd DdStatement = true
is_dd _ = false

-- whether the statement has a name and operands
abbrev pub is_named : StatementKind → Bool
is_named kind = is_job kind || is_exec kind || is_dd kind

-- ---- continuation

abbrev pub is_blank_first : List ℕ → Bool
is_blank_first [] = false
is_blank_first (byte ∷ rest) = is_blank byte

-- `//` and a blank in column 3, and no null card
unfoldable pub is_continuation : List ℕ → Bool
is_continuation text = has_slashes text && is_blank_first (behind_slashes text) && not (is_null text)

-- the operand of a continuation card begins in columns 4 to 16
unfoldable pub is_well_placed : List ℕ → Bool
is_well_placed text = nat_le (blanks_before (behind_slashes text)) 13

unfoldable pub first_field : List ℕ → List ℕ
first_field text = field_of (behind_operation text)

unfoldable pub continued_field : List ℕ → List ℕ
continued_field text = field_of (behind_blanks (behind_slashes text))

abbrev pub continuation_on : Bool → Card → List Card → List Card
continuation_on true card more = card ∷ more
continuation_on false card more = []

-- whether a continuation card calls for another one: one that is wrong ends the statement
unfoldable pub calls_again : List ℕ → Bool
calls_again text = is_well_placed text && goes_on (continued_field text)

-- the cards with which a field goes on, where it does
abbrev pub continuation : Bool → List Card → List Card
continuation calls [] = []
continuation calls (card ∷ rest) =
    continuation_on (calls && is_continuation (columns card)) card (continuation (calls_again (columns card)) rest)

-- the cards up to the first one whose operand begins in the wrong column
abbrev pub well_placed : List Card → List Card
well_placed [] = []
well_placed (card ∷ rest) = if is_well_placed (columns card) then card ∷ well_placed rest else []

-- whether a field comes to its end with its continuation: no card of it is wrong, and none is missing
abbrev pub comes_to_end : Bool → List Card → Bool
comes_to_end calls [] = not calls
comes_to_end calls (card ∷ rest) = is_well_placed (columns card) && comes_to_end (goes_on (continued_field (columns card))) rest

abbrev pub continued_spots : List Card → List FieldSpot
continued_spots [] = []
continued_spots (card ∷ rest) = spots card.number (continued_field (columns card)) ++ continued_spots rest

-- the operand field over all cards of a statement
unfoldable pub whole_field : Card → List Card → List FieldSpot
whole_field first more = spots first.number (first_field (columns first)) ++ continued_spots (well_placed more)

abbrev pub text_of : List FieldSpot → List ℕ
text_of field = map (λ spot. spot.byte) field

-- ---- operands

abbrev pub is_equals : ℕ → Bool
is_equals byte = byte == 61

-- what stands before the first `=`, parenthesis or apostrophe
abbrev pub before_mark : List ℕ → List ℕ
before_mark [] = []
before_mark (byte ∷ rest) = if is_equals byte || is_opening byte || is_apostrophe byte then [] else byte ∷ before_mark rest

-- DSNAME and VOLUME are other spellings of DSN and VOL
abbrev pub spelled : List ℕ → List ℕ
spelled key =
    if bytes_eq key (codes "DSNAME") then codes "DSN" else (if bytes_eq key (codes "VOLUME") then codes "VOL" else key)

-- an operand is a keyword one where `=` stands before each parenthesis and apostrophe
abbrev pub operand_at : ℕ → List ℕ → List ℕ → List ℕ → Operand
operand_at card text key [] = record { card = card; is_keyword = false; key = []; value = text }
operand_at card text key (byte ∷ rest) =
    if is_equals byte
    then record { card = card; is_keyword = true; key = spelled key; value = rest }
    else record { card = card; is_keyword = false; key = []; value = text }

unfoldable pub operand_of_text : ℕ → List ℕ → Operand
operand_of_text card text = operand_at card text (before_mark text) (drop (length (before_mark text)) text)

abbrev pub is_empty : {X : Type 0} → List X → Bool
is_empty [] = true
is_empty (x ∷ rest) = false

-- a part of a field is an operand where it isn't empty, closes, and has no text behind a closing parenthesis or apostrophe
unfoldable pub is_whole : List ℕ → Bool
is_whole text = not (is_empty text) && closes text && is_orderly text

-- an operand begins on the card of its first byte
abbrev pub operand_of : List FieldSpot → Option Operand
operand_of [] = None
operand_of (spot ∷ rest) =
    if is_whole (text_of (spot ∷ rest)) then Some (operand_of_text spot.card (text_of (spot ∷ rest))) else None

unfoldable pub operands_of : List FieldSpot → List Operand
operands_of field = filter_map operand_of (parts_of_field field)

abbrev pub is_operand : List FieldSpot → Bool
is_operand part = is_some (operand_of part)

-- whether each part of a field is an operand; an empty field has none
unfoldable pub is_tidy : List FieldSpot → Bool
is_tidy field = is_empty field || list_all is_operand (parts_of_field field)

-- ---- in-stream records

abbrev pub is_star : Operand → Bool
is_star operand = not operand.is_keyword && bytes_eq operand.value (codes "*")

abbrev pub is_data : Operand → Bool
is_data operand = not operand.is_keyword && bytes_eq operand.value (codes "DATA")

-- the first part of a field, which no continuation card changes where it is `*` or DATA
abbrev pub first_part : List (List ℕ) → List ℕ
first_part [] = []
first_part (part ∷ rest) = part

-- by the first operand of a DD, which stands on its first card
unfoldable pub records_behind : StatementKind → List ℕ → InStream
records_behind DdStatement operand = if bytes_eq operand (codes "*") then UpToSlashes else (if bytes_eq operand (codes "DATA") then UpToDelimiter else NoRecords)
records_behind _ _ = NoRecords

-- the records behind the statement that begins with a text
unfoldable pub records_after : List ℕ → InStream
records_after text = records_behind (kind_of text) (first_part (parts_of (first_field text)))

unfoldable pub is_record : InStream → List ℕ → Bool
is_record NoRecords text = false
is_record UpToSlashes text = not (is_delimiter text) && not (has_slashes text)
is_record UpToDelimiter text = not (is_delimiter text)

-- where a field hasn't come to its end no records begin
abbrev pub records_if : Bool → InStream → InStream
records_if true behind = behind
records_if false behind = NoRecords

-- the records up to the card that ends them; a `/*` card there is a delimiter of its own
abbrev pub records_in : InStream → List Card → List Card
records_in ends [] = []
records_in ends (card ∷ rest) = if is_record ends (columns card) then card ∷ records_in ends rest else []

-- ---- the statements

unfoldable pub with_field : StatementKind → Card → List Card → Bool → List FieldSpot → List Card → Statement
with_field kind first more ended field behind = record {
  kind = kind;
  first = first;
  more = more;
  ended = ended;
  tidy = is_tidy field;
  operands = operands_of field;
  records = records_in (records_if ended (records_after (columns first))) behind;
}

unfoldable pub with_more : StatementKind → Card → List Card → List Card → Statement
with_more kind first more rest =
    with_field kind first more (comes_to_end (goes_on (first_field (columns first))) more) (whole_field first more) (drop (length more) rest)

-- a comment, a delimiter, a null card or no statement at all is one card
unfoldable pub bare : StatementKind → Card → Statement
bare kind first = record { kind = kind; first = first; more = []; ended = true; tidy = true; operands = []; records = [] }

-- the statement of a first card and of the cards with which its field goes on, without records
unfoldable pub statement_of_cards : Card → List Card → Statement
statement_of_cards first more =
    if is_named (kind_of (columns first))
    then with_field (kind_of (columns first)) first more (comes_to_end (goes_on (first_field (columns first))) more) (whole_field first more) []
    else bare (kind_of (columns first)) first

-- by what the records behind a statement end
abbrev pub in_stream : Statement → InStream
in_stream s = records_if s.ended (records_after (columns s.first))

-- whether the field of a first card calls for a continuation card
abbrev pub calls_first : List ℕ → Bool
calls_first text = is_named (kind_of text) && goes_on (first_field text)

-- the statement that begins with a card, before the rest of the cards
unfoldable pub statement_at : Card → List Card → Statement
statement_at first rest =
    if is_named (kind_of (columns first))
    then with_more (kind_of (columns first)) first (continuation (goes_on (first_field (columns first))) rest) rest
    else bare (kind_of (columns first)) first

-- how many cards a statement has behind its first one
abbrev pub cards_behind : Statement → ℕ
cards_behind statement = length statement.more + length statement.records

abbrev pub statements_from : ℕ → List Card → List Statement
statements_from zero cards = []
statements_from (suc fuel) [] = []
statements_from (suc fuel) (card ∷ rest) =
    let statement = statement_at card rest in
    statement ∷ statements_from fuel (drop (cards_behind statement) rest)

-- all cards, split into statements
unfoldable pub statements_of : List Card → List Statement
statements_of cards = statements_from (length cards) cards

abbrev pub name_in : Statement → List ℕ
name_in statement = name_of (columns statement.first)

abbrev pub number_in : Statement → ℕ
number_in statement = statement.first.number

-- the cards of statements, one after the other
abbrev pub cards_in : List Statement → List Card
cards_in [] = []
cards_in (s ∷ rest) = s.first ∷ (s.more ++ (s.records ++ cards_in rest))
