-- What the allocation of a step gives follows: the items of the DDs that make their data sets, which stand clear.
use Rattle.std.proofs.Common.{◌≡◌, ◌≤◌, ◌+◌, ℕ, suc, Bool, true, false, cond, ◌&&◌, nat_eq, List, [], ◌∷◌, ◌++◌, map, length, refl, ap, sym, ◌∙◌, subst, Option, Some, None, Result, Ok, Err, arith}
use Rattle.std.specs.Prelude.{◌==◌, unwrap_or}
use Rattle.std.specs.List.{AllByRecursion, list_all}
use Rattle.std.specs.Cmp.Lexicographic.{pointwise}
use Rattle.std.specs.FinMap.Entries.{by_order}
use Rattle.std.specs.declared.cmp.Ordering.TheVariants.{Less, Equal, Greater}
use Rattle.std.proofs.lemmas.Bool.Decides.{nat_tests}
use Rattle.std.proofs.lemmas.Bool.{and_from, or_left, or_right}
use Rattle.ckr_base.proofs.Bools.{bool-cases}
use Rattle.ckr_base.proofs.Numbers.{equal-from, equal-itself, equal-true, nat_le-from}
use Rattle.ckr_base.proofs.Sequences.{all-implies, each-implies}
use Rattle.ckr_points_library.specs.declared.cause.Cause.{Cause}
use Rattle.ckr_points_library.specs.declared.cause.Cause.TheVariants.{WrongVolume}
use Rattle.ckr_points_library.specs.declared.cause.Refusal.{Refusal}
use Rattle.ckr_points_library.specs.Allocation.{Allocation, allocated_all, allocated_dd, behind, fits_dd, found_parts, fresh_set, made_of, part_on, parts_for, space_of, then_more, with_new}
use Rattle.ckr_points_library.proofs.FreeSpace.{asked}
use Rattle.ckr_events.specs.declared.event.Made.{Made}
use Rattle.ckr_jcl.specs.declared.deck.Dd.{Dd}
use Rattle.ckr_library.specs.declared.sets.DataSet.{DataSet}
use Rattle.ckr_library.specs.declared.sets.Part.{Part}
use Rattle.ckr_library.specs.declared.sets.Stamp.{Stamp}
use Rattle.ckr_library.specs.Catalog.{Holding}
use Rattle.ckr_library.specs.NameMaps.{EachEntry, Name, Named, name_cmp, with_entry}
use Rattle.ckr_library.proofs.Named.{each-with_entry}
use Rattle.ckr_meaning.specs.Allotments.{AllotmentModel, DdAllotment, found, made, refused}
use Rattle.ckr_volumes.specs.declared.layout.Layout.{Layout}
use Rattle.ckr_volumes.specs.Layouts.{StandsIn, lie_apart}
use Rattle.ckr_points.specs.Tables.{fresh_table, part_of, parts_from}
use Rattle.ckr_points.specs.Follows.{are_items, are_made_clear, is_part_whole, items_of, lies_clear, made_dds, part_numbers, stands_in}
use Rattle.ckr_points.specs.Rows.{TableSet, holding_of}
use Rattle.ckr_desk_turn.specs.Allocation.{items_in}
use Rattle.ckr_desk_turn.proofs.Start.NewParts.{IsNewPart, new-parts}
use Rattle.ckr_points.specs.Staleness.{held_sets}

-- ---- the data sets of the tables as the library has them

holdings-with : (name : Name) (table : TableSet) (sets : Named TableSet) → held_sets (with_entry name table sets) ≡ with_entry name (holding_of table) (held_sets sets)
holdings-with name table [] = refl
holdings-with name table (entry ∷ rest) =
    elim (name_cmp name entry.0) as (λ r. held_sets (by_order r ((name, table) ∷ entry ∷ rest) ((entry.0, table) ∷ rest) (entry ∷ with_entry name table rest)) ≡ by_order r ((name, holding_of table) ∷ held_sets (entry ∷ rest)) ((entry.0, holding_of table) ∷ held_sets rest) ((entry.0, holding_of entry.1) ∷ with_entry name (holding_of table) (held_sets rest))) [
      | Less ↦ refl
      | Equal ↦ refl
      | Greater ↦ ap (λ others. (entry.0, holding_of entry.1) ∷ others) (holdings-with name table rest)
    ]

holdings-stand : (layout : Layout) (sets : Named TableSet) → EachEntry (λ (table : TableSet). StandsIn layout table.set) sets → EachEntry (λ (h : Holding). StandsIn layout h.set) (held_sets sets)
holdings-stand layout [] stand = tt
holdings-stand layout (entry ∷ rest) stand = (stand.0, holdings-stand layout rest stand.1)

holdings-clear : (set : DataSet) (sets : Named TableSet) → list_all (λ (entry : Name × Holding). lie_apart set entry.1.set) (held_sets sets) ≡ lies_clear sets set
holdings-clear set [] = refl
holdings-clear set (entry ∷ rest) = ap (λ b. lie_apart set entry.1.set && b) (holdings-clear set rest)

-- a data set that stands in a layout passes the test
stands-so : (layout : Layout) (set : DataSet) → StandsIn layout set → stands_in layout set ≡ true
stands-so layout set stands =
    and_from _ _ (and_from _ _ (and_from _ _ (and_from _ _ (and_from _ _ (and_from _ _ (and_from _ _ (and_from _ _ (and_from _ _ stands.volumes_exist stands.inside) stands.apart) stands.parts)
    (equal-from _ set.space stands.sum)) (nat_le-from set.length set.space stands.length_fits)) (nat_le-from 1 set.lrecl stands.lrecl_above)) (nat_le-from set.lrecl 256 stands.lrecl_below)) (nat_le-from 1 set.space stands.space_above)) (nat_le-from set.space 1000000 stands.space_below)

-- ---- one item

-- the part that an event gives of an item is the one that was allocated
part-again : (number volume space start : ℕ) → part_of (made_of number (part_on volume space (record { start = start; records = space } ∷ []))) ≡ part_on volume space (record { start = start; records = space } ∷ [])
part-again number volume space start = ap (λ records. let part : Part = record { volume = volume; extents = record { items = record { start = start; records = space } ∷ [] }; records = records } in part) (let e : 0 + space ≡ space = omega arith in e)

one-number : (number : ℕ) (serials : List Name) → length serials ≤ 1 → part_numbers number serials ≡ number ∷ []
one-number number [] single = refl
one-number number (serial ∷ []) single = refl
one-number number (serial ∷ other ∷ more) single = absurd (omega (arith, single))

none-of : (number : ℕ) (items : List Made) → AllByRecursion (λ (item : Made). suc number ≤ item.dd) items → items_of number items ≡ []
none-of number [] above = refl
none-of number (item ∷ items) above =
    bool-cases (item.dd == number)
    (λ same. let apart : suc number ≤ item.dd = above.0 in absurd (omega (arith, apart, equal-true item.dd number same)))
    (λ isnt. ap (λ b. cond b (item ∷ items_of number items) (items_of number items)) isnt ∙ none-of number items above.1)

-- ---- what is asked of the DDs

-- each number is above those before
abbrev pub Rises : ℕ → List DdAllotment → Type 0
Rises low [] = Unit {0}
Rises low (one ∷ rest) = (low ≤ one.number) × Rises (suc one.number) rest

pub record IsAsked (one : DdAllotment) : Type 0 where
  pub fits : fits_dd one.dd ≡ true
  pub space : one.allotment ≡ made → 1 ≤ space_of one.dd

-- what follows of the items of DDs, of which the numbers are so high
pub record AreMade (layout : Layout) (stamp : Stamp) (low : ℕ) (all : List DdAllotment) (sets : Named TableSet) (items : List Made) : Type 0 where
  pub numbers : pointwise nat_eq (made_dds all) (map (λ item. item.dd) items) ≡ true
  pub whole : list_all (is_part_whole all) items ≡ true
  pub clear : (others : List Made) → ((number : ℕ) → low ≤ number → items_of number others ≡ items_of number items) → are_made_clear layout stamp others all sets ≡ true
  pub above : AllByRecursion (λ (item : Made). low ≤ item.dd) items

found-none : (layout : Layout) (dd : Dd) (set : Option DataSet) (parts : List Part) → found_parts layout dd set ≡ Ok parts → parts ≡ []
found-none layout dd None parts is = cc
found-none layout dd (Some set) parts is = by _ is
  where
    by : (b : Bool) → ◌≡◌ {A = Result (List Part) Cause} (cond b (Ok []) (Err WrongVolume)) (Ok parts) → parts ≡ []
    by true is = cc
    by false is = cc

items-behind : {A : Type 0} (front : List Made) (more : Result Allocation Refusal) (items : List Made) → items_in (behind front more) ≡ Ok items → ((rest : List Made) → items ≡ front ++ rest → items_in more ≡ Ok rest → A) → A
items-behind front (Ok done) items is use_it = use_it done.items (let same : items ≡ front ++ done.items = cc in same) refl
items-behind front (Err refusal) items is use_it = cc

module _ (layout : Layout) (stamp : Stamp) where
  abbrev pub Stand : Named TableSet → Type 0
  Stand sets = EachEntry (λ (table : TableSet). StandsIn layout table.set) sets

  -- what follows of the DDs behind one
  abbrev Rest : List DdAllotment → ℕ → Type 0
  Rest rest low = (sets : Named TableSet) (items : List Made) → Stand sets → items_in (allocated_all layout stamp rest (held_sets sets)) ≡ Ok items → AreMade layout stamp low rest sets items

  weaker-whole : (one : DdAllotment) (rest : List DdAllotment) (items : List Made) → list_all (is_part_whole rest) items ≡ true → list_all (is_part_whole (one ∷ rest)) items ≡ true
  weaker-whole one rest items whole =
      all-implies (is_part_whole rest) (is_part_whole (one ∷ rest)) items
      (λ item is. or_right (one.number == item.dd && (part_of item).records == unwrap_or one.dd.space 0) (is_part_whole rest item) is) whole

  -- a DD whose data set is found
  found-made : (dd : Dd) (number : ℕ) (name : Name) (rest : List DdAllotment) (low : ℕ) → low ≤ number → Rest rest (suc number) → (sets : Named TableSet) (items : List Made) → Stand sets
      → items_in (allocated_all layout stamp (record { dd = dd; number = number; name = name; allotment = found } ∷ rest) (held_sets sets)) ≡ Ok items
      → AreMade layout stamp low (record { dd = dd; number = number; name = name; allotment = found } ∷ rest) sets items
  found-made dd number name rest low high more sets items stand is =
      by (allocated_dd layout (held_sets sets) dd name found) (λ parts e. found-none layout dd _ parts e) is
    where
      one : DdAllotment
      one = record { dd = dd; number = number; name = name; allotment = found }

      behind-none : (rest_items : List Made) → items ≡ rest_items → AreMade layout stamp (suc number) rest sets rest_items → AreMade layout stamp low (one ∷ rest) sets items
      behind-none rest_items same are =
          subst (AreMade layout stamp low (one ∷ rest) sets) (sym same)
          (record {
            numbers = are.numbers;
            whole = weaker-whole one rest rest_items are.whole;
            clear = λ others agree. are.clear others (λ n above. agree n (omega (arith, above, high)));
            above = each-implies (λ (item : Made). suc number ≤ item.dd) (λ item. low ≤ item.dd) rest_items (λ item above. omega (arith, above, high)) are.above;
          })

      by : (parts : Result (List Part) Cause) → ((list : List Part) → parts ≡ Ok list → list ≡ []) → items_in (then_more number parts (λ parts. allocated_all layout stamp rest (with_new stamp dd name parts (held_sets sets)))) ≡ Ok items → AreMade layout stamp low (one ∷ rest) sets items
      by (Err cause) none is = cc
      by (Ok parts) none is =
          items-behind (map (made_of number) parts) (allocated_all layout stamp rest (with_new stamp dd name parts (held_sets sets))) items is
          (λ rest_items same got.
          let empty : parts ≡ [] = none parts refl in
          behind-none rest_items (same ∙ ap (λ (list : List Part). map (made_of number) list ++ rest_items) empty)
          (more sets rest_items stand (sym (ap (λ (list : List Part). items_in (allocated_all layout stamp rest (with_new stamp dd name list (held_sets sets)))) empty) ∙ got)))

  -- a DD that makes its data set
  made-made : (dd : Dd) (number : ℕ) (name : Name) (rest : List DdAllotment) (low : ℕ) → low ≤ number → fits_dd dd ≡ true → 1 ≤ space_of dd → Rest rest (suc number) → (sets : Named TableSet) (items : List Made) → Stand sets
      → items_in (allocated_all layout stamp (record { dd = dd; number = number; name = name; allotment = made } ∷ rest) (held_sets sets)) ≡ Ok items
      → AreMade layout stamp low (record { dd = dd; number = number; name = name; allotment = made } ∷ rest) sets items
  made-made dd number name rest low high fits some more sets items stand is =
      by (parts_for layout (held_sets sets) dd dd.volumes.items) refl is
    where
      one : DdAllotment
      one = record { dd = dd; number = number; name = name; allotment = made }

      with-part : (part : Part) (rest_items : List Made) → IsNewPart layout (held_sets sets) stamp dd part → items ≡ made_of number part ∷ rest_items → AreMade layout stamp (suc number) rest (with_entry name (fresh_table stamp one (part ∷ [])) sets) rest_items → AreMade layout stamp low (one ∷ rest) sets items
      with-part part rest_items new same are =
          let again : part_of (made_of number part) ≡ part =
          ap (λ p. part_of (made_of number p)) new.one ∙ part-again number new.volume (space_of dd) new.start ∙ sym new.one in
          subst (AreMade layout stamp low (one ∷ rest) sets) (sym same)
          (record {
            numbers =
                ap (λ front. pointwise nat_eq (front ++ made_dds rest) (number ∷ map (λ (item : Made). item.dd) rest_items)) (one-number number dd.volumes.items (asked dd fits).single)
                ∙ and_from (nat_eq number number) _ (itself number) are.numbers;
            whole =
                and_from (is_part_whole (one ∷ rest) (made_of number part)) _
                (or_left (number == number && (part_of (made_of number part)).records == unwrap_or dd.space 0) (is_part_whole rest (made_of number part))
                (and_from (number == number) _ (equal-itself number) (ap (λ (p : Part). p.records == unwrap_or dd.space 0) (again ∙ new.one) ∙ equal-itself (space_of dd))))
                (weaker-whole one rest rest_items are.whole);
            clear = λ others agree.
                let parts : parts_from number others ≡ part ∷ [] =
                ap (map part_of) (agree number high ∙ ap (λ b. cond b (made_of number part ∷ items_of number rest_items) (items_of number rest_items)) (equal-itself number) ∙ ap (λ list. made_of number part ∷ list) (none-of number rest_items are.above))
                ∙ ap (λ p. p ∷ []) again in
                subst (λ list. ((stands_in layout (fresh_table stamp one list).set && lies_clear sets (fresh_table stamp one list).set) && are_made_clear layout stamp others rest (with_entry name (fresh_table stamp one list) sets)) ≡ true) (sym parts)
                (and_from _ _
                (and_from _ _ (stands-so layout (fresh_set stamp dd (part ∷ [])) new.stands) (sym (holdings-clear (fresh_set stamp dd (part ∷ [])) sets) ∙ new.clear))
                (are.clear others (λ n above. agree n (omega (arith, above, high)) ∙ ap (λ b. cond b (made_of number part ∷ items_of n rest_items) (items_of n rest_items)) (other number n above))));
            above = (high, each-implies (λ (item : Made). suc number ≤ item.dd) (λ item. low ≤ item.dd) rest_items (λ item above. omega (arith, above, high)) are.above);
          })
        where
          itself : (n : ℕ) → nat_eq n n ≡ true
          itself n = grind (arith, nat_tests)

          other : (one n : ℕ) → suc one ≤ n → (one == n) ≡ false
          other one n above = grind (arith, nat_tests)

      by : (parts : Result (List Part) Cause) → parts_for layout (held_sets sets) dd dd.volumes.items ≡ parts → items_in (then_more number parts (λ parts. allocated_all layout stamp rest (with_new stamp dd name parts (held_sets sets)))) ≡ Ok items → AreMade layout stamp low (one ∷ rest) sets items
      by (Err cause) e is = cc
      by (Ok parts) e is =
          new-parts layout (held_sets sets) stamp dd fits some (holdings-stand layout sets stand) parts e
          (λ part single new.
          items-behind (map (made_of number) parts) (allocated_all layout stamp rest (with_new stamp dd name parts (held_sets sets))) items is
          (λ rest_items same got.
          with-part part rest_items new (same ∙ ap (λ (list : List Part). map (made_of number) list ++ rest_items) single)
          (more (with_entry name (fresh_table stamp one (part ∷ [])) sets) rest_items
          (each-with_entry (λ (table : TableSet). StandsIn layout table.set) name (fresh_table stamp one (part ∷ [])) sets new.stands stand)
          (ap (λ all. items_in (allocated_all layout stamp rest all)) (holdings-with name (fresh_table stamp one (part ∷ [])) sets)
          ∙ sym (ap (λ (list : List Part). items_in (allocated_all layout stamp rest (with_new stamp dd name list (held_sets sets)))) single) ∙ got))))

  one-made : (dd : Dd) (number : ℕ) (name : Name) (allotment : AllotmentModel) (rest : List DdAllotment) (low : ℕ) → low ≤ number → IsAsked (record { dd = dd; number = number; name = name; allotment = allotment }) → Rest rest (suc number) → (sets : Named TableSet) (items : List Made) → Stand sets
      → items_in (allocated_all layout stamp (record { dd = dd; number = number; name = name; allotment = allotment } ∷ rest) (held_sets sets)) ≡ Ok items
      → AreMade layout stamp low (record { dd = dd; number = number; name = name; allotment = allotment } ∷ rest) sets items
  one-made dd number name found rest low high asks more sets items stand is = found-made dd number name rest low high more sets items stand is
  one-made dd number name made rest low high asks more sets items stand is = made-made dd number name rest low high asks.fits (asks.space refl) more sets items stand is
  one-made dd number name (refused flaw) rest low high asks more sets items stand is = cc

  -- what all the DDs make follows
  pub all-made : (low : ℕ) (all : List DdAllotment) → Rises low all → AllByRecursion IsAsked all → (sets : Named TableSet) (items : List Made) → Stand sets → items_in (allocated_all layout stamp all (held_sets sets)) ≡ Ok items → AreMade layout stamp low all sets items
  all-made low [] rises asks sets items stand is =
      subst (AreMade layout stamp low [] sets) (let none : [] ≡ items = cc in none) (record { numbers = refl; whole = refl; clear = λ others agree. refl; above = tt })
  all-made low (one ∷ rest) rises asks sets items stand is =
      one-made one.dd one.number one.name one.allotment rest low rises.0 asks.0
      (λ sets items stand is. all-made (suc one.number) rest rises.1 asks.1 sets items stand is) sets items stand is

  pub items-follow : (low : ℕ) (all : List DdAllotment) → Rises low all → AllByRecursion IsAsked all → (sets : Named TableSet) (items : List Made) → Stand sets → items_in (allocated_all layout stamp all (held_sets sets)) ≡ Ok items → are_items layout stamp sets all items ≡ true
  items-follow low all rises asks sets items stand is =
      let are : AreMade layout stamp low all sets items = all-made low all rises asks sets items stand is in
      and_from _ _ (and_from _ _ are.numbers are.whole) (are.clear items (λ n above. refl))
