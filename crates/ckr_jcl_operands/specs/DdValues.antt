-- The values of DSN, DISP, VOL, SPACE and SYSOUT.
use Rattle.std.specs.Prelude.{ℕ, ◌*◌, ◌==◌, ◌&&◌, ◌||◌, not, Bool, false, if◌then◌else◌, nat_le, List, [], ◌∷◌, length, drop, Option, Some, None, codes, bytes_eq, unwrap_or, min}
use Rattle.std.specs.List.{list_any, list_all}
use Rattle.std.specs.Option.{option_map, option_and_then, option_or, is_some}
use Rattle.ckr_base.specs.Grammar.{is_letter, is_digit, is_name8, is_ds_name, is_serial}
use Rattle.ckr_jcl.specs.declared.deck.Disp.{Disp}
use Rattle.ckr_jcl.specs.declared.deck.Status.{Status}
use Rattle.ckr_jcl.specs.declared.deck.Status.TheVariants.{New, Old, Shr, Mod}
use Rattle.ckr_jcl.specs.declared.deck.After.{After}
use Rattle.ckr_jcl.specs.declared.deck.After.TheVariants.{Delete, Keep, Pass, Catlg, Uncatlg}
use Rattle.ckr_jcl_operands.specs.declared.dd_values.DsnText.{DsnText}
use Rattle.ckr_jcl_operands.specs.declared.dd_values.DsnText.TheVariants.{Permanent, Passing, Referring, IllFormed}
use Rattle.ckr_jcl_operands.specs.declared.dd_values.VolText.{VolText}
use Rattle.ckr_jcl_operands.specs.declared.dd_values.VolText.TheVariants.{Serial, Private, Elsewhere}
use Rattle.ckr_cards.specs.Card.{begins}
use Rattle.ckr_cards.specs.Field.{is_opening, is_closing, parts_of}
use Rattle.ckr_cards.specs.Tables.{look_up}
use Rattle.ckr_jcl.specs.Qualifiers.{is_kept_name}
use Rattle.ckr_jcl.specs.Text.{number_value, begins_quoted, begins_list, in_parentheses, opened, item_at, is_empty_or, or_empty, if_holds}

-- ---- DSN

unfoldable pub is_backward : List ℕ → Bool
is_backward text = begins text (codes "*.")

abbrev pub is_parenthesis : ℕ → Bool
is_parenthesis byte = is_opening byte || is_closing byte

-- a member or a generation stands in parentheses; a backward reference begins with `*.`
unfoldable pub is_referring : List ℕ → Bool
is_referring text = begins_quoted text || is_backward text || list_any is_parenthesis text

unfoldable pub is_passing : List ℕ → Bool
is_passing text = begins text (codes "&&")

abbrev pub passing_name : List ℕ → DsnText
passing_name name = if is_name8 name then Passing name else IllFormed

abbrev pub permanent_name : List ℕ → DsnText
permanent_name text = if is_ds_name text && not (is_kept_name text) then Permanent text else IllFormed

unfoldable pub dsn_value : List ℕ → DsnText
dsn_value text =
    if is_referring text then Referring
    else (if is_passing text then passing_name (drop 2 text)
    else permanent_name text)

-- ---- DISP

abbrev pub statuses : List (List ℕ × Status)
statuses = (codes "NEW", New) ∷ (codes "OLD", Old) ∷ (codes "SHR", Shr) ∷ (codes "MOD", Mod) ∷ []

abbrev pub abnormal_ends : List (List ℕ × After)
abnormal_ends = (codes "DELETE", Delete) ∷ (codes "KEEP", Keep) ∷ (codes "CATLG", Catlg) ∷ (codes "UNCATLG", Uncatlg) ∷ []

abbrev pub passes : List (List ℕ × After)
passes = (codes "PASS", Pass) ∷ []

abbrev pub status_named : List ℕ → Option Status
status_named text = look_up statuses text

abbrev pub abnormal_end : List ℕ → Option After
abnormal_end text = look_up abnormal_ends text

-- PASS is no abnormal disposition
abbrev pub normal_end : List ℕ → Option After
normal_end text = option_or (look_up passes text) (abnormal_end text)

-- an omitted status is NEW
abbrev pub disp_of : Option Status → Option After → Option After → Disp
disp_of status normal abnormal = record { status = unwrap_or status New; normal = normal; abnormal = abnormal }

abbrev pub disp_from : Option (Option Status) → Option (Option After) → Option (Option After) → Option Disp
disp_from (Some status) (Some normal) (Some abnormal) = Some (disp_of status normal abnormal)
disp_from _ _ _ = None

-- each part may be empty or omitted
unfoldable pub disp_in : List (List ℕ) → Option Disp
disp_in items =
    if nat_le (length items) 3
    then disp_from (or_empty status_named (item_at 0 items)) (or_empty normal_end (item_at 1 items)) (or_empty abnormal_end (item_at 2 items))
    else None

abbrev pub disp_listed : List ℕ → Option Disp
disp_listed list = disp_in (parts_of list)

unfoldable pub disp_value : List ℕ → Option Disp
disp_value text = option_and_then disp_listed (opened text)

-- ---- VOL

abbrev pub serial_value : List ℕ → Option VolText
serial_value text = if_holds (is_serial text) (Serial text)

-- one serial, or several
unfoldable pub serials_value : List (List ℕ) → Option VolText
serials_value items =
    if length items == 1 then serial_value (item_at 0 items) else if_holds (list_all is_serial items) Elsewhere

abbrev pub serials_listed : List ℕ → Option VolText
serials_listed list = serials_value (parts_of list)

-- `SER=v`, `SER=(v)`, `SER=(v,w)` or `REF=` and any text
unfoldable pub volume_part : List ℕ → Option VolText
volume_part text =
    if begins text (codes "SER=") then option_and_then serials_listed (opened (drop 4 text))
    else if_holds (begins text (codes "REF=")) Elsewhere

-- `p,SER=v` or `p,r,SER=v`
unfoldable pub volume_in : List (List ℕ) → Option VolText
volume_in items =
    if not (is_empty_or (codes "PRIVATE") (item_at 0 items)) then None
    else (if length items == 2 then volume_part (item_at 1 items)
    else (if length items == 3 && is_empty_or (codes "RETAIN") (item_at 1 items) then volume_part (item_at 2 items)
    else None))

abbrev pub volume_listed : List ℕ → Option VolText
volume_listed list = volume_in (parts_of list)

unfoldable pub vol_value : List ℕ → Option VolText
vol_value text =
    if begins_list text then option_and_then volume_listed (in_parentheses text)
    else (if bytes_eq (codes "PRIVATE") text then Some Private else volume_part text)

-- ---- SPACE

abbrev pub one_record : ℕ → ℕ
one_record length = 1

-- how many records one unit has: 100 on a track, 2000 on a cylinder, and one where a block length is given
unfoldable pub unit_value : List ℕ → Option ℕ
unit_value text =
    if bytes_eq (codes "TRK") text then Some 100
    else (if bytes_eq (codes "CYL") text then Some 2000
    else option_map one_record (number_value text))

-- `q` or `q,q2`; the second quantity has no effect
unfoldable pub quantity_in : List (List ℕ) → Option ℕ
quantity_in items =
    if length items == 1 || length items == 2 && is_some (number_value (item_at 1 items)) then number_value (item_at 0 items) else None

abbrev pub quantity_listed : List ℕ → Option ℕ
quantity_listed list = quantity_in (parts_of list)

unfoldable pub quantity_value : List ℕ → Option ℕ
quantity_value text = option_and_then quantity_listed (opened text)

-- nothing, `RLSE`, `RLSE,CONTIG` or `,CONTIG` behind the quantity
unfoldable pub is_release : List (List ℕ) → Bool
is_release items =
    length items == 2
    || length items == 3 && bytes_eq (codes "RLSE") (item_at 2 items)
    || length items == 4 && is_empty_or (codes "RLSE") (item_at 2 items) && bytes_eq (codes "CONTIG") (item_at 3 items)

-- 1,000,001 stands for each space that is too large
abbrev pub product : Option ℕ → Option ℕ → Option ℕ
product (Some unit) (Some quantity) = Some (min (unit * quantity) 1000001)
product _ _ = None

unfoldable pub space_in : List (List ℕ) → Option ℕ
space_in items = if is_release items then product (unit_value (item_at 0 items)) (quantity_value (item_at 1 items)) else None

abbrev pub space_listed : List ℕ → Option ℕ
space_listed list = space_in (parts_of list)

-- the space in records
unfoldable pub space_value : List ℕ → Option ℕ
space_value text = option_and_then space_listed (in_parentheses text)

-- ---- SYSOUT

-- 42 is `*`
abbrev pub is_class : List ℕ → Bool
is_class (byte ∷ []) = is_letter byte || is_digit byte || byte == 42
is_class _ = false

abbrev pub is_class_first : List ℕ → Bool
is_class_first list = is_class (item_at 0 (parts_of list))

-- a class, or a list that begins with one
unfoldable pub is_sysout : List ℕ → Bool
is_sysout text = unwrap_or (option_map is_class_first (opened text)) false
