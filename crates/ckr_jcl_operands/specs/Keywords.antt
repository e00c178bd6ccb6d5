-- The operands of each statement, and which values are in the grammar.
use Rattle.std.specs.Prelude.{ℕ, ◌&&◌, ◌||◌, Bool, true, false, if◌then◌else◌, List, [], ◌∷◌, Option, codes, bytes_eq, find}
use Rattle.std.specs.Option.{option_map, option_and_then, is_some}
use Rattle.ckr_cards.specs.declared.kind.StatementKind.{StatementKind}
use Rattle.ckr_cards.specs.declared.kind.StatementKind.TheVariants.{Job as JobStatement, Exec as ExecStatement, Dd as DdStatement}
use Rattle.ckr_cards.specs.declared.operand.Operand.{Operand}
use Rattle.ckr_cards.specs.declared.statement.Statement.{Statement}
use Rattle.ckr_cards.specs.Tables.{is_among, words}
use Rattle.ckr_jcl_operands.specs.JobValues.{rd_value, restart_value, parm_value}
use Rattle.ckr_jcl_operands.specs.DdValues.{disp_value, vol_value, space_value, is_sysout}
use Rattle.ckr_jcl_operands.specs.DcbValues.{dcb_value}
use Rattle.ckr_base.specs.Grammar.{is_name8}

-- ---- the tables

unfoldable pub is_read : StatementKind → List ℕ → Bool
is_read JobStatement key = is_among (words (codes "RD RESTART")) key
is_read ExecStatement key = is_among (words (codes "PGM PARM RD")) key
is_read DdStatement key = is_among (words (codes "DSN DISP VOL SPACE DCB SYSOUT")) key
is_read _ key = false

unfoldable pub is_without_effect : StatementKind → List ℕ → Bool
is_without_effect JobStatement key = is_among (words (codes "CLASS MSGCLASS MSGLEVEL PRTY REGION TIME")) key
is_without_effect ExecStatement key = is_among (words (codes "REGION TIME ACCT")) key
is_without_effect DdStatement key = is_among (words (codes "UNIT LABEL")) key
is_without_effect _ key = false

unfoldable pub is_left_out : StatementKind → List ℕ → Bool
is_left_out JobStatement key = is_among (words (codes "COND TYPRUN ADDRSPC ROLL NOTIFY")) key
is_left_out ExecStatement key = is_among (words (codes "COND ADDRSPC DPRTY ROLL")) key
is_left_out DdStatement key = is_among (words (codes "DDNAME AFF SEP SPLIT SUBALLOC UCS OUTLIM DLM QNAME DYNAM")) key
is_left_out _ key = false

unfoldable pub is_known_keyword : StatementKind → List ℕ → Bool
is_known_keyword kind key = is_read kind key || is_without_effect kind key || is_left_out kind key

-- ---- positional operands

-- accounting and programmer on JOB; `*`, DATA, DUMMY or DYNAM on DD
abbrev pub positional_room : StatementKind → ℕ
positional_room JobStatement = 2
positional_room DdStatement = 1
positional_room _ = 0

unfoldable pub is_positional : StatementKind → List ℕ → Bool
is_positional JobStatement text = true
is_positional DdStatement text = is_among (words (codes "* DATA DUMMY DYNAM")) text
is_positional _ text = false

-- DYNAM is left out by name
unfoldable pub is_left_out_alone : StatementKind → List ℕ → Bool
is_left_out_alone DdStatement text = bytes_eq (codes "DYNAM") text
is_left_out_alone _ text = false

-- ---- values

-- PGM takes a name
unfoldable pub is_right_job_value : List ℕ → List ℕ → Bool
is_right_job_value key value =
    if bytes_eq (codes "RD") key then is_some (rd_value value)
    else (if bytes_eq (codes "RESTART") key then is_some (restart_value value)
    else (if bytes_eq (codes "PGM") key then is_name8 value
    else is_some (parm_value value)))

-- the form of DSN is looked at with the whole deck
unfoldable pub is_right_dd_value : List ℕ → List ℕ → Bool
is_right_dd_value key value =
    if bytes_eq (codes "DSN") key then true
    else (if bytes_eq (codes "DISP") key then is_some (disp_value value)
    else (if bytes_eq (codes "VOL") key then is_some (vol_value value)
    else (if bytes_eq (codes "SPACE") key then is_some (space_value value)
    else (if bytes_eq (codes "DCB") key then is_some (dcb_value value)
    else is_sysout value))))

unfoldable pub is_right_read_value : StatementKind → List ℕ → List ℕ → Bool
is_right_read_value DdStatement key value = is_right_dd_value key value
is_right_read_value _ key value = is_right_job_value key value

abbrev pub is_some_text : List ℕ → Bool
is_some_text [] = false
is_some_text (byte ∷ rest) = true

-- one without effect takes a word, or any text in which parentheses close
unfoldable pub is_right_value : StatementKind → List ℕ → List ℕ → Bool
is_right_value kind key value =
    if is_read kind key then is_right_read_value kind key value
    else (if is_without_effect kind key then is_some_text value
    else true)

-- ---- looking up

abbrev pub has_key : List ℕ → Operand → Bool
has_key key operand = operand.is_keyword && bytes_eq key operand.key

-- the value of a keyword, where it stands
unfoldable pub value_of : List ℕ → Statement → Option (List ℕ)
value_of key statement = option_map (λ operand. operand.value) (find (has_key key) statement.operands)

-- what it stands for
abbrev pub meaning_of : {X : Type 0} → List ℕ → (List ℕ → Option X) → Statement → Option X
meaning_of key value statement = option_and_then value (value_of key statement)
