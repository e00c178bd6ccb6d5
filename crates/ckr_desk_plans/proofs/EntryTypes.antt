-- An entry whose parts are as their types have them has its form, where its state has.
use Rattle.std.proofs.Common.{◌≡◌, ◌≤◌, ◌<◌, true, List, [], ◌∷◌, length, arith, refl, IsTrue, nat_le, ◌&&◌, Option, None, Some}
use Rattle.std.specs.List.{AllByRecursion, list_all}
use Rattle.std.specs.Ordering.{is_lt}
use Rattle.std.specs.Prelude.{◌^◌}
use Rattle.std.specs.FinMap.Entries.{below_all, is_sorted}
use Rattle.std.proofs.lemmas.Bool.{and_from, false≢true}
use Rattle.ckr_base.proofs.Bools.{and-first, and-second}
use Rattle.ckr_base.proofs.Numbers.{nat_le-from, nat_le-true}
use Rattle.ckr_base.specs.Grammar.{is_check_id, is_ds_name, is_name8, is_name_byte, is_name_start, pieces}
use Rattle.ckr_entry.specs.declared.point.Mark.{Mark}
use Rattle.ckr_entry.specs.Sets.{is_behind, marks, rising_fits}
use Rattle.ckr_fields.specs.Fields.{check_id, ds_name, name8}
use Rattle.ckr_library.specs.NameMaps.{Name, name_cmp}
use Rattle.ckr_points_tables.specs.MarkOrder.{are_in_order, marked}
use Rattle.ckr_desk_plans.specs.EntryTypes.{IsTypedMark}

-- ---- names

pub check_id-fits : (id : Name) → IsTrue (is_check_id id) → check_id.fits id
check_id-fits id grammar =
    let sized : (nat_le 1 (length id) && nat_le (length id) 16) ≡ true = and-first (nat_le 1 (length id) && nat_le (length id) 16) (list_all is_name_byte id) grammar in
    let few : length id ≤ 16 = nat_le-true (length id) 16 (and-second (nat_le 1 (length id)) (nat_le (length id) 16) sized) in
    ((omega (arith, few), sized), grammar)

pub name8-fits : (name : Name) → IsTrue (is_name8 name) → name8.fits name
name8-fits [] grammar = absurd (false≢true grammar)
name8-fits (first ∷ rest) grammar =
    let few : nat_le (length (first ∷ rest)) 8 ≡ true = and-second (is_name_start first) (nat_le (length (first ∷ rest)) 8) (and-first (is_name_start first && nat_le (length (first ∷ rest)) 8) (list_all is_name_byte (first ∷ rest)) grammar) in
    let most : length (first ∷ rest) ≤ 8 = nat_le-true (length (first ∷ rest)) 8 few in
    ((omega (arith, most), and_from (nat_le 1 (length (first ∷ rest))) (nat_le (length (first ∷ rest)) 8) (nat_le-from 1 (length (first ∷ rest)) (omega arith)) few), grammar)

pub ds_name-fits : (name : Name) → IsTrue (is_ds_name name) → ds_name.fits name
ds_name-fits [] grammar = absurd (false≢true grammar)
ds_name-fits (first ∷ rest) grammar =
    let few : nat_le (length (first ∷ rest)) 44 ≡ true = and-first (nat_le (length (first ∷ rest)) 44) (list_all is_name8 (pieces (first ∷ rest))) grammar in
    let most : length (first ∷ rest) ≤ 44 = nat_le-true (length (first ∷ rest)) 44 few in
    ((omega (arith, most), and_from (nat_le 1 (length (first ∷ rest))) (nat_le (length (first ∷ rest)) 44) (nat_le-from 1 (length (first ∷ rest)) (omega arith)) few), grammar)

-- ---- marks

-- the first of these marks, if there is one, has a name behind this one
abbrev Leads : Option Name → List Mark → Type 0
Leads before [] = Unit {0}
Leads before (mark ∷ rest) = IsTrue (is_behind before mark.name)

below-leads : (name : Name) (rest : List Mark) → below_all name_cmp name (marked rest) ≡ true → Leads (Some name) rest
below-leads name [] below = tt
below-leads name (mark ∷ rest) below = and-first (is_lt (name_cmp name mark.name)) (below_all name_cmp name (marked rest)) below

rising : (before : Option Name) (items : List Mark) → Leads before items → IsTrue (are_in_order items) → AllByRecursion IsTypedMark items → rising_fits before items
rising before [] leads order typed = tt
rising before (mark ∷ rest) leads order typed =
    let lower = below_all name_cmp mark.name (marked rest) in
    let sorted = is_sorted name_cmp (marked rest) in
    (((typed.0.name, leads), typed.0.set), rising (Some mark.name) rest (below-leads mark.name rest (and-first lower sorted order)) (and-second lower sorted order) typed.1)

leads-none : (items : List Mark) → Leads None items
leads-none [] = tt
leads-none (mark ∷ rest) = refl

pub marks-fit : (items : List Mark) → length items < 2 ^ 16 → IsTrue (are_in_order items) → AllByRecursion IsTypedMark items → marks.fits items
marks-fit items few order typed = (few, rising None items (leads-none items) order typed)
