-- PARM: the items that each program takes, and what they say.
use Rattle.std.specs.Prelude.{ℕ, ◌+◌, ◌==◌, ◌&&◌, ◌||◌, not, Bool, true, false, if◌then◌else◌, nat_le, List, [], ◌∷◌, length, Option, Some, None, Result, Ok, Err, codes}
use Rattle.std.specs.Option.{option_map, option_or}
use Rattle.ckr_base.specs.Grammar.{is_digit, is_name_byte, is_text_of}
use Rattle.ckr_base.specs.Words.{number_in_digits}
use Rattle.ckr_jcl.specs.declared.deck.Kind.{Kind}
use Rattle.ckr_jcl.specs.declared.deck.Kind.TheVariants.{Select, Merge, Master, Update, Print, Br14}
use Rattle.ckr_jcl.specs.declared.deck.Parm.{Parm}
use Rattle.ckr_jcl.specs.declared.refusal.ParmError.{ParmError}
use Rattle.ckr_jcl.specs.declared.parm.ParmKey.{ParmKey}
use Rattle.ckr_jcl.specs.declared.parm.ParmKey.TheVariants.{Chk, Ids, Cancel, Key, Col, Val, Title, Sum}
use Rattle.ckr_cards.specs.Field.{is_comma}
use Rattle.ckr_cards.specs.Tables.{look_up, pieces_between}
use Rattle.ckr_jcl.specs.Text.{if_holds, before, behind}

-- ---- an item `K=V`

-- what each program but IEFBR14 takes
abbrev pub checkpoint_keys : List (List ℕ × ParmKey)
checkpoint_keys = (codes "CHK", Chk) ∷ (codes "IDS", Ids) ∷ (codes "CANCEL", Cancel) ∷ []

-- what those take that choose or match records
abbrev pub record_keys : List (List ℕ × ParmKey)
record_keys = (codes "KEY", Key) ∷ (codes "COL", Col) ∷ (codes "VAL", Val) ∷ []

abbrev pub print_keys : List (List ℕ × ParmKey)
print_keys = (codes "TITLE", Title) ∷ (codes "SUM", Sum) ∷ []

unfoldable pub key_named : List ℕ → Option ParmKey
key_named text = option_or (look_up checkpoint_keys text) (option_or (look_up record_keys text) (look_up print_keys text))

-- 61 is `=`; an item without one has an empty value, which is in no grammar
unfoldable pub key_of : List ℕ → Option ParmKey
key_of item = key_named (before 61 item)

abbrev pub value_of : List ℕ → List ℕ
value_of item = behind 61 item

-- ---- values

abbrev pub begins_with_zero : List ℕ → Bool
begins_with_zero [] = false
begins_with_zero (first ∷ rest) = first == 48

-- a number from 1 to `most` without a leading zero; no such number of more than 7 digits is at most 9,999,999
unfoldable pub plain_number : ℕ → List ℕ → Option ℕ
plain_number most text =
    if is_text_of is_digit 7 text && not (begins_with_zero text) && nat_le (number_in_digits text) most
    then Some (number_in_digits text)
    else None

abbrev pub pair_within : ℕ → Option ℕ → Option ℕ → Option (ℕ × ℕ)
pair_within most (Some column) (Some length) = if_holds (nat_le (column + length) most) (column, length)
pair_within most _ _ = None

-- `c:l`, both from 1, with l at most `longest` and c + l at most `most`; 58 is `:`
unfoldable pub column_and_length : ℕ → ℕ → List ℕ → Option (ℕ × ℕ)
column_and_length longest most value =
    pair_within most (plain_number most (before 58 value)) (plain_number longest (behind 58 value))

-- 1 to 40 bytes, which have no comma since a comma ends the item
abbrev pub is_title : List ℕ → Bool
is_title value = nat_le 1 (length value) && nat_le (length value) 40

-- nothing is given
abbrev pub no_parm : Parm
no_parm = record {
  chk = 0;
  ids = record { items = [] };
  cancel = 0;
  key = (0, 0);
  col = 0;
  val = record { items = [] };
  title = record { items = [] };
  sum = (0, 0);
}

-- with the value of an item, where it is in the grammar of the key
unfoldable pub with_value : ParmKey → List ℕ → Parm → Option Parm
with_value Chk value parm = option_map (λ number. record parm { chk = number }) (plain_number 9999999 value)
with_value Cancel value parm = option_map (λ number. record parm { cancel = number }) (plain_number 9999999 value)
with_value Ids value parm = if_holds (is_text_of is_name_byte 8 value) (record parm { ids = record { items = value } })
with_value Key value parm = option_map (λ pair. record parm { key = pair }) (column_and_length 32 256 value)
with_value Col value parm = option_map (λ number. record parm { col = number }) (plain_number 256 value)
with_value Val value parm = if_holds (is_title value) (record parm { val = record { items = value } })
with_value Title value parm = if_holds (is_title value) (record parm { title = record { items = value } })
with_value Sum value parm = option_map (λ pair. record parm { sum = pair }) (column_and_length 15 257 value)

-- ---- what each program takes and needs

abbrev pub takes : Kind → ParmKey → Bool
takes kind Chk = true
takes kind Ids = true
takes kind Cancel = true
takes Select Col = true
takes Select Val = true
takes Merge Key = true
takes Master Key = true
takes Update Key = true
takes Print Title = true
takes Print Sum = true
takes _ _ = false

abbrev pub is_empty_text : List ℕ → Bool
is_empty_text [] = true
is_empty_text (byte ∷ rest) = false

-- no item says 0 or the empty text, so these stand for what wasn't given
abbrev pub is_given : ParmKey → Parm → Bool
is_given Chk parm = not (parm.chk == 0)
is_given Ids parm = not (is_empty_text parm.ids.items)
is_given Cancel parm = not (parm.cancel == 0)
is_given Key parm = not (parm.key.0 == 0)
is_given Col parm = not (parm.col == 0)
is_given Val parm = not (is_empty_text parm.val.items)
is_given Title parm = not (is_empty_text parm.title.items)
is_given Sum parm = not (parm.sum.0 == 0)

abbrev pub lacks_own : Kind → Parm → Bool
lacks_own Select parm = not (is_given Col parm && is_given Val parm)
lacks_own Merge parm = not (is_given Key parm)
lacks_own Master parm = not (is_given Key parm)
lacks_own Update parm = not (is_given Key parm)
lacks_own _ parm = false

-- a required item is missing; CANCEL and IDS need CHK
unfoldable pub lacks_item : Kind → Parm → Bool
lacks_item kind parm = lacks_own kind parm || (is_given Cancel parm || is_given Ids parm) && not (is_given Chk parm)

-- ---- the grammar

abbrev pub with_key : Kind → Option ParmKey → List ℕ → Parm → Option Parm
with_key kind None value parm = None
with_key kind (Some key) value parm = if takes kind key && not (is_given key parm) then with_value key value parm else None

-- with an item, where it is right: the program takes it, it stands for the first time, and its value is in the grammar
unfoldable pub with_item : Kind → List ℕ → Parm → Option Parm
with_item kind item parm = with_key kind (key_of item) (value_of item) parm

abbrev pub read_on : Option Parm → ℕ → (Parm → Result Parm ParmError) → Result Parm ParmError
read_on None place rest = Err (record { place = place })
read_on (Some parm) place rest = rest parm

-- the items from a place on, up to the first wrong one, whose place is the error
abbrev pub items_read : Kind → ℕ → List (List ℕ) → Parm → Result Parm ParmError
items_read kind place [] parm = Ok parm
items_read kind place (item ∷ rest) parm =
    read_on (with_item kind item parm) place (λ next. items_read kind (place + length item + 1) rest next)

-- an empty PARM has no items
unfoldable pub all_items_read : Kind → List ℕ → Result Parm ParmError
all_items_read kind [] = Ok no_parm
all_items_read kind (byte ∷ rest) = items_read kind 0 (pieces_between is_comma (byte ∷ rest)) no_parm

abbrev pub if_complete : Kind → ℕ → Result Parm ParmError → Result Parm ParmError
if_complete kind length (Err error) = Err error
if_complete kind length (Ok parm) = if lacks_item kind parm then Err (record { place = length }) else Ok parm

-- what PARM says to a program: the error is at the first wrong item, or at the end where a required one is missing
unfoldable pub read_parm_text : Kind → List ℕ → Result Parm ParmError
read_parm_text Br14 text = Ok no_parm
read_parm_text kind text = if_complete kind (length text) (all_items_read kind text)
