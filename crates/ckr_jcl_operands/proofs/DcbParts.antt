-- How the parts of a DCB are read, one after the other.
use Rattle.std.proofs.Common.{◌≡◌, ℕ, ◌+◌, ◌<◌, true, false, List, length, drop, refl, Some, None}
use Rattle.ckr_cards.specs.Field.{parts_of}
use Rattle.ckr_jcl_operands.specs.declared.dcb_values.DcbText.{DcbText}
use Rattle.ckr_jcl_operands.specs.DdValues.{is_backward}
use Rattle.ckr_jcl_operands.specs.DcbValues.{with_part, parts_read, is_model, no_dcb, referring, dcb_in}
use Rattle.ckr_jcl.proofs.ListItems.{first_length, first_item, items_cons, no_more, more}

pub wrong_part : (list : List ℕ) (dcb : DcbText) → with_part (first_item list) dcb ≡ None → parts_read (parts_of list) dcb ≡ None
wrong_part list dcb wrong = rw (items_cons list, wrong) refl

pub last_part : (list : List ℕ) (dcb next : DcbText) → with_part (first_item list) dcb ≡ Some next → first_length list ≡ length list → parts_read (parts_of list) dcb ≡ Some next
last_part list dcb next right whole = rw (items_cons list, right, no_more list whole) refl

pub next_part : (list : List ℕ) (dcb next : DcbText) → with_part (first_item list) dcb ≡ Some next → first_length list < length list → parts_read (parts_of list) dcb ≡ parts_read (parts_of (drop (first_length list + 1) list)) next
next_part list dcb next right inside = rw (items_cons list, right, more list inside) refl

pub backward_dcb : (list : List ℕ) → is_backward (first_item list) ≡ true → dcb_in (parts_of list) ≡ Some referring
backward_dcb list backward = rw (items_cons list, backward) refl

pub own_dcb : (list : List ℕ) → is_backward (first_item list) ≡ false → is_model (first_item list) ≡ false → dcb_in (parts_of list) ≡ parts_read (parts_of list) no_dcb
own_dcb list backward model = rw (items_cons list, backward, model) refl

pub model_dcb : (list : List ℕ) → is_backward (first_item list) ≡ false → is_model (first_item list) ≡ true → first_length list ≡ length list → dcb_in (parts_of list) ≡ Some referring
model_dcb list backward model whole = rw (items_cons list, backward, model, no_more list whole) refl

pub model_with_parts : (list : List ℕ) → is_backward (first_item list) ≡ false → is_model (first_item list) ≡ true → first_length list < length list → dcb_in (parts_of list) ≡ parts_read (parts_of (drop (first_length list + 1) list)) referring
model_with_parts list backward model inside = rw (items_cons list, backward, model, more list inside) refl
