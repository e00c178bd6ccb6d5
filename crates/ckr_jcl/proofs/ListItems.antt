-- The items of a list: the first one, and those behind the comma.
use Rattle.std.proofs.Common.{◌≡◌, ℕ, suc, ◌+◌, ◌<◌, ◌∙◌, Bool, true, false, List, [], ◌∷◌, length, take, drop, refl, sym, ap, arith}
use Rattle.ckr_cards.specs.declared.parts.Reading.TheVariants.{Free}
use Rattle.ckr_cards.specs.Field.{parts_of, parts_from, part_on, is_parting, reading_after, depth_after}
use Rattle.ckr_cards.specs.Parts.{part_length}
use Rattle.ckr_cards.specs.Statement.{first_part}
use Rattle.ckr_cards.proofs.FieldParts.{parts_from-one, parts_from-cons, first_part_of_parts}
use Rattle.ckr_jcl.specs.Text.{item_at}

abbrev pub tail_of : List (List ℕ) → List (List ℕ)
tail_of [] = []
tail_of (item ∷ rest) = rest

-- the items behind the first one
abbrev pub items_behind : List ℕ → List (List ℕ)
items_behind list = tail_of (parts_of list)

-- how many bytes the first item has
abbrev pub first_length : List ℕ → ℕ
first_length list = part_length (λ byte. byte) Free 0 list

abbrev pub first_item : List ℕ → List ℕ
first_item list = take (first_length list) list

part_on-cons : (test : Bool) (byte : ℕ) (parts : List (List ℕ)) → part_on test byte parts ≡ first_part (part_on test byte parts) ∷ tail_of (part_on test byte parts)
part_on-cons true byte parts = refl
part_on-cons false byte [] = refl
part_on-cons false byte (part ∷ rest) = refl

some_items : (list : List ℕ) → parts_of list ≡ first_part (parts_of list) ∷ items_behind list
some_items [] = refl
some_items (byte ∷ rest) = part_on-cons (is_parting Free 0 byte) byte (parts_from (λ b. b) (reading_after Free byte) (depth_after Free 0 byte) rest)

-- a list has a first item
pub items_cons : (list : List ℕ) → parts_of list ≡ first_item list ∷ items_behind list
items_cons list = some_items list ∙ ap (λ first. first ∷ items_behind list) (sym (first_part_of_parts list))

pub no_more : (list : List ℕ) → first_length list ≡ length list → items_behind list ≡ []
no_more list whole = rw (parts_from-one (λ byte. byte) Free 0 list whole) refl

pub more : (list : List ℕ) → first_length list < length list → items_behind list ≡ parts_of (drop (first_length list + 1) list)
more list inside = rw (parts_from-cons (λ byte. byte) Free 0 list inside) refl

-- by their places
pub item_zero : (list : List ℕ) → first_item list ≡ item_at 0 (parts_of list)
item_zero list = rw (items_cons list) refl

pub no_item : (list : List ℕ) (place : ℕ) → first_length list ≡ length list → item_at (suc place) (parts_of list) ≡ []
no_item list place whole = rw (items_cons list, no_more list whole) refl

pub later_item : (list : List ℕ) (place : ℕ) → first_length list < length list → item_at (suc place) (parts_of list) ≡ item_at place (parts_of (drop (first_length list + 1) list))
later_item list place inside = rw (items_cons list, more list inside) refl

-- how many there are
pub one_counted : (list : List ℕ) → first_length list ≡ length list → length (parts_of list) ≡ 1
one_counted list whole = rw (parts_from-one (λ byte. byte) Free 0 list whole) refl

pub more_counted : (list : List ℕ) → first_length list < length list → length (parts_of list) ≡ length (parts_of (drop (first_length list + 1) list)) + 1
more_counted list inside = rw (parts_from-cons (λ byte. byte) Free 0 list inside) (omega arith)
