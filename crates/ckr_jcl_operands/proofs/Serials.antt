-- Whether each item of a list is a serial, one item after the other.
use Rattle.std.proofs.Common.{◌≡◌, ℕ, ◌+◌, ◌<◌, true, false, List, length, drop, refl}
use Rattle.std.specs.List.{list_all}
use Rattle.ckr_base.specs.Grammar.{is_serial}
use Rattle.ckr_cards.specs.Field.{parts_of}
use Rattle.ckr_jcl.proofs.ListItems.{first_length, first_item, items_cons, no_more, more}

pub no_serial : (list : List ℕ) → is_serial (first_item list) ≡ false → list_all is_serial (parts_of list) ≡ false
no_serial list wrong = rw (items_cons list, wrong) refl

pub last_serial : (list : List ℕ) → is_serial (first_item list) ≡ true → first_length list ≡ length list → list_all is_serial (parts_of list) ≡ true
last_serial list right whole = rw (items_cons list, right, no_more list whole) refl

pub more_serials : (list : List ℕ) → is_serial (first_item list) ≡ true → first_length list < length list → list_all is_serial (parts_of list) ≡ list_all is_serial (parts_of (drop (first_length list + 1) list))
more_serials list right inside = rw (items_cons list, right, more list inside) refl
