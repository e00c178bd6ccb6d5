-- The faults of one statement, each with the card where it holds.
use Rattle.std.specs.Prelude.{ℕ, ◌-◌, ◌==◌, ◌&&◌, ◌||◌, not, Bool, true, false, if◌then◌else◌, nat_le, List, [], ◌∷◌, ◌++◌, Option, Some, None, codes, bytes_eq, find}
use Rattle.std.specs.List.{list_any, list_all}
use Rattle.std.specs.Option.{option_map, option_or}
use Rattle.ckr_base.specs.Grammar.{is_name8}
use Rattle.ckr_cards.specs.declared.card.Card.{Card}
use Rattle.ckr_cards.specs.Card.{columns}
use Rattle.ckr_cards.specs.Tables.{is_among, words}
use Rattle.ckr_jcl_faults.specs.declared.faults.Fault.{Fault}
use Rattle.ckr_jcl_faults.specs.declared.faults.MetFaults.{MetFaults}
use Rattle.ckr_jcl.specs.Text.{if_holds}
use Rattle.ckr_cards.specs.declared.kind.StatementKind.{StatementKind}
use Rattle.ckr_cards.specs.declared.operand.Operand.{Operand}
use Rattle.ckr_cards.specs.declared.statement.Statement.{Statement}
use Rattle.ckr_cards.specs.Statement.{is_job, is_exec, is_dd, is_named, is_star, is_data, name_in, number_in}
use Rattle.ckr_cards.specs.declared.kind.StatementKind.TheVariants.{Null as NullStatement, Unknown as NoStatement}
use Rattle.ckr_jcl_operands.specs.Keywords.{is_known_keyword, is_left_out, is_left_out_alone, is_positional, positional_room, is_right_value}

abbrev pub number_of_card : Option Card → Option ℕ
number_of_card card = option_map (λ c. c.number) card

-- ---- cards

-- the first card of a line that is longer than 80 bytes
abbrev pub long_card : List Card → Option ℕ
long_card cards = number_of_card (find (λ card. card.long) cards)

-- a line is longer than 80 bytes, in-stream records included
unfoldable pub long_line : Statement → Option ℕ
long_line s = option_or (long_card (s.first ∷ s.more)) (long_card s.records)

abbrev pub is_printable : ℕ → Bool
is_printable byte = nat_le 32 byte && nat_le byte 126

abbrev pub is_misprinted : Card → Bool
is_misprinted card = not (list_all is_printable (columns card))

-- a card outside in-stream records has a byte outside 20 to 7E hex in columns 1 to 71
unfoldable pub byte_fault : Statement → Option ℕ
byte_fault s = number_of_card (find is_misprinted (s.first ∷ s.more))

-- the name of a JOB, EXEC or DD is missing or ill formed
unfoldable pub name_fault : Statement → Option ℕ
name_fault s = if_holds (is_named s.kind && not (is_name8 (name_in s))) (number_in s)

-- `//` alone, or neither a comment, a delimiter, JOB, EXEC nor DD
abbrev pub is_no_statement : StatementKind → Bool
is_no_statement NoStatement = true
is_no_statement NullStatement = true
is_no_statement _ = false

-- card 1 begins a JOB statement, and no later card does
abbrev pub is_in_place : StatementKind → ℕ → Bool
is_in_place kind number = if number == 1 then is_job kind else not (is_job kind)

-- the card begins no statement of this desk, or isn't JOB as the first, or is JOB as a later one
unfoldable pub kind_fault : Statement → Option ℕ
kind_fault s = if_holds (is_no_statement s.kind || not (is_in_place s.kind (number_in s))) (number_in s)

abbrev pub is_syschk : Statement → Bool
is_syschk s = is_dd s.kind && bytes_eq (codes "SYSCHK") (name_in s)

-- before the first statement
abbrev pub nothing_seen : MetFaults
nothing_seen = record { exec = false; syschk = false }

-- behind a statement
abbrev pub seen_behind : MetFaults → Statement → MetFaults
seen_behind seen s = record { exec = seen.exec || is_exec s.kind; syschk = seen.syschk || is_syschk s }

-- a DD stands before the first EXEC, and isn't SYSCHK or stands behind another SYSCHK
unfoldable pub early_dd : MetFaults → Statement → Option ℕ
early_dd seen s = if_holds (is_dd s.kind && not seen.exec && (not (is_syschk s) || seen.syschk)) (number_in s)

-- ---- the field

-- the number of the last card
abbrev pub last_number : ℕ → List Card → ℕ
last_number number [] = number
last_number number (card ∷ rest) = last_number card.number rest

-- the card where a statement's field ends
abbrev pub last_card : Statement → ℕ
last_card s = last_number (number_in s) s.more

-- a continuation card is wrong, which is the last card then, or none follows the last card, which calls for it
unfoldable pub continuation_fault : Statement → Option ℕ
continuation_fault s = if_holds (not s.ended) (last_card s)

-- a part of a field that has come to its end is no operand: parentheses or apostrophes don't close, text follows a
-- closing one, or the part is empty. The card is where the field ends.
unfoldable pub closing_fault : Statement → Option ℕ
closing_fault s = if_holds (s.ended && not s.tidy) (last_card s)

-- ---- the operands

-- whether a positional operand is in the tables
abbrev pub is_known_text : StatementKind → List ℕ → Bool
is_known_text kind text = is_positional kind text || is_left_out_alone kind text

-- `room` is how many positional operands may still come
unfoldable pub is_known : StatementKind → ℕ → Operand → Bool
is_known kind room operand =
    if operand.is_keyword then is_known_keyword kind operand.key else nat_le 1 room && is_known_text kind operand.value

-- behind a keyword none may come
abbrev pub room_behind : ℕ → Operand → ℕ
room_behind room operand = if operand.is_keyword then 0 else room - 1

abbrev pub unknown_from : StatementKind → ℕ → List Operand → Option ℕ
unknown_from kind room [] = None
unknown_from kind room (operand ∷ rest) =
    option_or (if_holds (not (is_known kind room operand)) operand.card) (unknown_from kind (room_behind room operand) rest)

-- a positional operand or a keyword isn't in the tables
unfoldable pub unknown_operand : Statement → Option ℕ
unknown_operand s = unknown_from s.kind (positional_room s.kind) s.operands

abbrev pub card_where : (Operand → Bool) → Statement → Option ℕ
card_where test s = option_map (λ operand. operand.card) (find test s.operands)

unfoldable pub is_left_out_operand : StatementKind → Operand → Bool
is_left_out_operand kind operand =
    if operand.is_keyword then is_left_out kind operand.key else is_left_out_alone kind operand.value

-- an operand is left out by name
unfoldable pub left_out_keyword : Statement → Option ℕ
left_out_keyword s = card_where (is_left_out_operand s.kind) s

abbrev pub is_wrong : StatementKind → Operand → Bool
is_wrong kind operand = operand.is_keyword && not (is_right_value kind operand.key operand.value)

-- a value isn't in its grammar
unfoldable pub wrong_value : Statement → Option ℕ
wrong_value s = card_where (is_wrong s.kind) s

abbrev pub has_key_among : List (List ℕ) → Operand → Bool
has_key_among keys operand = operand.is_keyword && is_among keys operand.key

-- `*` or DATA, and what doesn't stand with it
abbrev pub is_apart_from_records : Operand → Operand → Bool
is_apart_from_records a b = (is_star a || is_data a) && has_key_among (words (codes "DSN DISP VOL SPACE SYSOUT")) b

-- SYSOUT, and what doesn't stand with it
abbrev pub is_apart_from_sysout : Operand → Operand → Bool
is_apart_from_sysout a b = has_key_among (words (codes "SYSOUT")) a && has_key_among (words (codes "DSN DISP VOL")) b

unfoldable pub are_apart : Operand → Operand → Bool
are_apart a b = is_apart_from_records a b || is_apart_from_sysout a b

unfoldable pub are_alike : Operand → Operand → Bool
are_alike a b = a.is_keyword && b.is_keyword && bytes_eq a.key b.key

unfoldable pub clashes_with : Operand → Operand → Bool
clashes_with a b = are_alike a b || are_apart a b || are_apart b a

abbrev pub clash_from : List Operand → List Operand → Option ℕ
clash_from before [] = None
clash_from before (operand ∷ rest) =
    option_or (if_holds (list_any (clashes_with operand) before) operand.card) (clash_from (before ++ operand ∷ []) rest)

-- the operands before the first one that isn't in the tables
abbrev pub known_front : StatementKind → ℕ → List Operand → List Operand
known_front kind room [] = []
known_front kind room (operand ∷ rest) =
    if is_known kind room operand then operand ∷ known_front kind (room_behind room operand) rest else []

-- a keyword stands twice, or beside one that it doesn't stand with: the later one. Where an operand isn't in the
-- tables, that is a lesser fault than each clash of it and of those behind it, which aren't looked at.
unfoldable pub clashing_operand : Statement → Option ℕ
clashing_operand s = clash_from [] (known_front s.kind (positional_room s.kind) s.operands)

-- ---- the table

-- the faults of a statement by their numbers
unfoldable pub faults_of_operands : Statement → List (ℕ × Option ℕ)
faults_of_operands s =
    (8, unknown_operand s) ∷
    (9, left_out_keyword s) ∷
    (10, wrong_value s) ∷
    (11, clashing_operand s) ∷ []

unfoldable pub faults_of_field : Statement → List (ℕ × Option ℕ)
faults_of_field s =
    (6, continuation_fault s) ∷
    (7, closing_fault s) ∷ faults_of_operands s

unfoldable pub faults_of : MetFaults → Statement → List (ℕ × Option ℕ)
faults_of seen s =
    (1, long_line s) ∷
    (2, byte_fault s) ∷
    (3, name_fault s) ∷
    (4, kind_fault s) ∷
    (5, early_dd seen s) ∷ faults_of_field s

abbrev pub least_of : Fault → Option Fault → Fault
least_of fault None = fault
least_of fault (Some later) = if nat_le fault.card later.card then fault else later

abbrev pub fault_at : ℕ → Option ℕ → Option Fault → Option Fault
fault_at number None later = later
fault_at number (Some card) later = Some (least_of (record { number = number; card = card }) later)

-- the fault of the least card, and of these the one of the least number
abbrev pub least_fault : List (ℕ × Option ℕ) → Option Fault
least_fault [] = None
least_fault (row ∷ rest) = fault_at row.0 row.1 (least_fault rest)

-- the least fault of the first statement that has one
abbrev pub first_fault : MetFaults → List Statement → Option Fault
first_fault seen [] = None
first_fault seen (s ∷ rest) = option_or (least_fault (faults_of seen s)) (first_fault (seen_behind seen s) rest)

unfoldable pub statement_fault : List Statement → Option Fault
statement_fault statements = first_fault nothing_seen statements
