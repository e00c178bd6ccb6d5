-- The values of RD, RESTART, PGM and PARM.
use Rattle.std.specs.Prelude.{ℕ, ◌==◌, ◌&&◌, not, Bool, true, false, if◌then◌else◌, nat_le, List, [], ◌∷◌, ◌++◌, length, Option, Some, None, codes, bytes_eq}
use Rattle.std.specs.Option.{option_map, option_and_then}
use Rattle.ckr_base.specs.Grammar.{is_name8, is_check_id}
use Rattle.ckr_jcl.specs.declared.deck.Rd.{Rd}
use Rattle.ckr_jcl.specs.declared.deck.Rd.TheVariants.{R, Rnc, Nr, Nc}
use Rattle.ckr_jcl_operands.specs.declared.job_values.StepReference.{StepReference}
use Rattle.ckr_jcl_operands.specs.declared.job_values.StepReference.TheVariants.{FirstStep, NamedStep}
use Rattle.ckr_jcl_operands.specs.declared.job_values.RestartText.{RestartText}
use Rattle.ckr_cards.specs.Tables.{look_up}
use Rattle.ckr_cards.specs.Field.{is_apostrophe, parts_of}
use Rattle.ckr_jcl.specs.Text.{begins_quoted, begins_list, in_apostrophes, in_parentheses, opened, item_at, is_word, if_holds}

-- ---- RD

abbrev pub rd_values : List (List ℕ × Rd)
rd_values = (codes "R", R) ∷ (codes "RNC", Rnc) ∷ (codes "NR", Nr) ∷ (codes "NC", Nc) ∷ []

unfoldable pub rd_value : List ℕ → Option Rd
rd_value text = look_up rd_values text

-- ---- RESTART

-- `*` or the name of a step
unfoldable pub step_reference : List ℕ → Option StepReference
step_reference text = if bytes_eq (codes "*") text then Some FirstStep else if_holds (is_name8 text) (NamedStep text)

-- an identifier may stand in apostrophes
abbrev pub unquoted_id : List ℕ → Option (List ℕ)
unquoted_id text = if begins_quoted text then in_apostrophes text else Some text

abbrev pub check_id : List ℕ → Option (List ℕ)
check_id text = if_holds (is_check_id text) text

unfoldable pub id_value : List ℕ → Option (List ℕ)
id_value text = option_and_then check_id (unquoted_id text)

abbrev pub restart_at : StepReference → RestartText
restart_at step = record { step = step; id = None }

abbrev pub restart_with : Option StepReference → Option (List ℕ) → Option RestartText
restart_with (Some step) (Some id) = Some (record { step = step; id = Some id })
restart_with _ _ = None

-- `x` or `x,checkid`
unfoldable pub restart_in : List (List ℕ) → Option RestartText
restart_in items =
    if length items == 1 then option_map restart_at (step_reference (item_at 0 items))
    else (if length items == 2 then restart_with (step_reference (item_at 0 items)) (id_value (item_at 1 items))
    else None)

abbrev pub restart_listed : List ℕ → Option RestartText
restart_listed list = restart_in (parts_of list)

-- `x`, `(x)` or `(x,checkid)`
unfoldable pub restart_value : List ℕ → Option RestartText
restart_value text = option_and_then restart_listed (opened text)

-- ---- PARM

-- two apostrophes stand for one; `half` says that the byte before is the first of two
abbrev pub undoubled_on : Bool → ℕ → Option (List ℕ) → Option (List ℕ)
undoubled_on true byte rest = if is_apostrophe byte then option_map (λ more. byte ∷ more) rest else None
undoubled_on false byte rest = if is_apostrophe byte then rest else option_map (λ more. byte ∷ more) rest

abbrev pub undoubled : Bool → List ℕ → Option (List ℕ)
undoubled half [] = if_holds (not half) []
undoubled half (byte ∷ rest) = undoubled_on half byte (undoubled (not half && is_apostrophe byte) rest)

abbrev pub undoubled_text : List ℕ → Option (List ℕ)
undoubled_text inside = undoubled false inside

-- a word, or a text in apostrophes
unfoldable pub parm_item : List ℕ → Option (List ℕ)
parm_item text = if begins_quoted text then option_and_then undoubled_text (in_apostrophes text) else if_holds (is_word text) text

abbrev pub with_comma : Option (List ℕ) → Option (List ℕ) → Option (List ℕ)
with_comma (Some text) (Some rest) = Some (text ++ 44 ∷ rest)
with_comma _ _ = None

-- items joined by commas
abbrev pub joined : List (List ℕ) → Option (List ℕ)
joined [] = Some []
joined (item ∷ []) = parm_item item
joined (item ∷ next ∷ rest) = with_comma (parm_item item) (joined (next ∷ rest))

abbrev pub joined_list : List ℕ → Option (List ℕ)
joined_list list = joined (parts_of list)

-- the text of PARM without the parentheses of a list
unfoldable pub parm_text : List ℕ → Option (List ℕ)
parm_text text = if begins_list text then option_and_then joined_list (in_parentheses text) else parm_item text

abbrev pub short : List ℕ → Option (List ℕ)
short text = if_holds (nat_le (length text) 100) text

-- a text behind a front, where both have at most 100 bytes
unfoldable pub onto : List ℕ → Option (List ℕ) → Option (List ℕ)
onto front text = option_and_then short (option_map (λ more. front ++ more) text)

-- at most 100 bytes
unfoldable pub parm_value : List ℕ → Option (List ℕ)
parm_value text = onto [] (parm_text text)
