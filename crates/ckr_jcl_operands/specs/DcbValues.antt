-- The value of DCB.
use Rattle.std.specs.Prelude.{ℕ, ◌==◌, ◌&&◌, ◌||◌, Bool, true, false, if◌then◌else◌, List, [], ◌∷◌, Option, Some, None, codes, bytes_eq, unwrap_or, min}
use Rattle.std.specs.List.{list_all}
use Rattle.std.specs.Option.{option_map, option_and_then, option_or, is_some}
use Rattle.ckr_base.specs.Grammar.{is_ds_name}
use Rattle.ckr_jcl_operands.specs.declared.dcb_values.DcbKey.{DcbKey}
use Rattle.ckr_jcl_operands.specs.declared.dcb_values.DcbKey.TheVariants.{Format, Length, Organisation, Block, Buffers, Density}
use Rattle.ckr_jcl_operands.specs.declared.dcb_values.DcbText.{DcbText}
use Rattle.ckr_cards.specs.Field.{parts_of}
use Rattle.ckr_cards.specs.Tables.{look_up}
use Rattle.ckr_jcl.specs.Text.{number_value, before, behind, opened, if_holds}
use Rattle.ckr_jcl_operands.specs.DdValues.{is_backward}

-- ---- the parts

abbrev pub record_keys : List (List ℕ × DcbKey)
record_keys = (codes "RECFM", Format) ∷ (codes "LRECL", Length) ∷ (codes "BLKSIZE", Block) ∷ []

abbrev pub device_keys : List (List ℕ × DcbKey)
device_keys = (codes "DSORG", Organisation) ∷ (codes "BUFNO", Buffers) ∷ (codes "DEN", Density) ∷ []

unfoldable pub dcb_key : List ℕ → Option DcbKey
dcb_key text = option_or (look_up record_keys text) (look_up device_keys text)

-- B is 66, S 83, A 65, M 77
abbrev pub is_format_suffix : ℕ → Bool
is_format_suffix byte = byte == 66 || byte == 83 || byte == 65 || byte == 77

-- F is 70
abbrev pub is_fixed : List ℕ → Bool
is_fixed [] = false
is_fixed (first ∷ rest) = first == 70 && list_all is_format_suffix rest

-- V is 86, U 85
abbrev pub is_unfixed : List ℕ → Bool
is_unfixed [] = false
is_unfixed (first ∷ rest) = (first == 86 || first == 85) && list_all is_format_suffix rest

-- no part was read
abbrev pub no_dcb : DcbText
no_dcb = record {
  refers = false;
  unfixed = None;
  length = None;
  organisation = false;
  block = false;
  buffers = false;
  density = false;
}

abbrev pub stands : DcbKey → DcbText → Bool
stands Format dcb = is_some dcb.unfixed
stands Length dcb = is_some dcb.length
stands Organisation dcb = dcb.organisation
stands Block dcb = dcb.block
stands Buffers dcb = dcb.buffers
stands Density dcb = dcb.density

abbrev pub is_number : List ℕ → Bool
is_number text = is_some (number_value text)

-- 257 stands for each length that is too large
abbrev pub capped : ℕ → ℕ
capped length = min length 257

-- with the value of a part, where it is in the grammar of the key
unfoldable pub with_part_value : DcbKey → List ℕ → DcbText → Option DcbText
with_part_value Format value dcb =
    if is_fixed value then Some (record dcb { unfixed = Some false }) else if_holds (is_unfixed value) (record dcb { unfixed = Some true })
with_part_value Length value dcb = option_map (λ number. record dcb { length = Some (capped number) }) (number_value value)
with_part_value Organisation value dcb = if_holds (bytes_eq (codes "PS") value) (record dcb { organisation = true })
with_part_value Block value dcb = if_holds (is_number value) (record dcb { block = true })
with_part_value Buffers value dcb = if_holds (is_number value) (record dcb { buffers = true })
with_part_value Density value dcb = if_holds (is_number value) (record dcb { density = true })

abbrev pub with_keyed : Option DcbKey → List ℕ → DcbText → Option DcbText
with_keyed None value dcb = None
with_keyed (Some key) value dcb = if stands key dcb then None else with_part_value key value dcb

-- with a part `K=V`, where it stands for the first time and is in the grammar; 61 is `=`
unfoldable pub with_part : List ℕ → DcbText → Option DcbText
with_part text dcb = with_keyed (dcb_key (before 61 text)) (behind 61 text) dcb

abbrev pub parts_read : List (List ℕ) → DcbText → Option DcbText
parts_read [] dcb = Some dcb
parts_read (part ∷ rest) dcb = option_and_then (parts_read rest) (with_part part dcb)

-- ---- the value

-- a data set name
unfoldable pub is_model : List ℕ → Bool
is_model text = is_ds_name text

-- whatever follows a backward reference, it is one
abbrev pub referring : DcbText
referring = record no_dcb { refers = true }

-- a data set name stands alone or first
abbrev pub dcb_in : List (List ℕ) → Option DcbText
dcb_in [] = None
dcb_in (first ∷ rest) =
    if is_backward first then Some referring
    else (if is_model first then parts_read rest referring
    else parts_read (first ∷ rest) no_dcb)

abbrev pub dcb_listed : List ℕ → Option DcbText
dcb_listed list = dcb_in (parts_of list)

unfoldable pub dcb_value : List ℕ → Option DcbText
dcb_value text = option_and_then dcb_listed (opened text)

abbrev pub is_unfixed_dcb : DcbText → Bool
is_unfixed_dcb dcb = unwrap_or dcb.unfixed false
