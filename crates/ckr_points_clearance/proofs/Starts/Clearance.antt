-- What a step makes is clear of what it made before where it is clear of what was there and of each that the step makes.
use Rattle.std.proofs.Common.{◌≡◌, ℕ, suc, ◌&&◌, ◌||◌, Bool, true, false, not, cond, List, [], ◌∷◌, ◌++◌, map, refl, ap, sym, ◌∙◌, subst, Some, None, Option}
use Rattle.std.specs.declared.cmp.Ordering.TheVariants.{Less, Equal, Greater}
use Rattle.std.specs.Option.{option_map}
use Rattle.std.specs.Ordering.{is_eq}
use Rattle.std.specs.Cmp.Lexicographic.{nat_list_cmp_total}
use Rattle.std.specs.Cmp.{tied_itself}
use Rattle.std.specs.FinMap.Entries.{by_order}
use Rattle.std.specs.List.{cons_option, filter_map, list_all, list_any}
use Rattle.std.proofs.lemmas.Bool.{and_from, false≢true}
use Rattle.ckr_base.proofs.Bools.{and-assoc, and-first, and-second}
use Rattle.ckr_base.proofs.Options.{some-not-none}
use Rattle.ckr_meaning.specs.SetUses.Uses.{are_distinct}
use Rattle.ckr_events.specs.declared.event.Made.{Made}
use Rattle.ckr_jcl.specs.declared.deck.Dd.{Dd}
use Rattle.ckr_library.specs.declared.sets.DataSet.{DataSet}
use Rattle.ckr_library.specs.declared.sets.Stamp.{Stamp}
use Rattle.ckr_library.specs.NameMaps.{Name, Named, entry_at, name_cmp, same_name, with_entry}
use Rattle.ckr_library.proofs.Named.{at-with_entry-other, name-same}
use Rattle.ckr_meaning.specs.Allotments.{AllotmentModel, found, made, refused, DdAllotment, is_made, is_passed}
use Rattle.ckr_meaning.specs.Dispositions.{Stock}
use Rattle.ckr_meaning.specs.EffectiveJob.{OwnedStep, name_of, names_of, placed_from, placed_in, placed_one}
use Rattle.ckr_points.specs.Tables.{fresh_table, made_table, made_tables, parts_from}
use Rattle.ckr_points.specs.Follows.{are_made_clear, is_made_clear, lies_clear, stands_in}
use Rattle.ckr_points.specs.Rows.{TableSet, table_ways}
use Rattle.ckr_points_tables.proofs.Starts.Items.{made_absent}
use Rattle.ckr_volumes.specs.declared.layout.Layout.{Layout}
use Rattle.ckr_volumes.specs.Layouts.{lie_apart}
use Rattle.ckr_points_clearance.specs.Placements.{are_clear_beside, is_apart_from, is_clear_beside, set_made}
use Rattle.ckr_points_clearance.proofs.Lists.{and-swap}

-- ---- names that aren't there

-- a name that is made isn't there
abbrev IsNew : Named TableSet → DdAllotment → Type 0
IsNew sets one = is_made one.allotment ≡ true → entry_at sets one.name ≡ None

abbrev AreNew : Named TableSet → List DdAllotment → Type 0
AreNew sets [] = Unit {0}
AreNew sets (one ∷ rest) = IsNew sets one × AreNew sets rest

-- no name stands twice
abbrev AreApart : List DdAllotment → Type 0
AreApart placed = are_distinct (map (λ (one : DdAllotment). one.name) placed) ≡ true

apart : (name other : Name) (names : List Name) → not (list_any (same_name name) (other ∷ names)) ≡ true → same_name other name ≡ false
apart name other names distinct = by (same_name other name) refl
  where
    taken : (a b : Bool) → not (a || b) ≡ true → a ≡ true → ⊥
    taken true b e f = false≢true e
    taken false b e f = false≢true f

    by : (b : Bool) → same_name other name ≡ b → b ≡ false
    by false e = refl
    by true e =
        absurd (taken (same_name name other) (list_any (same_name name) names) distinct
        (ap (same_name name) (name-same other name e) ∙ ap is_eq (tied_itself nat_list_cmp_total name)))

later : (a b : Bool) → not (a || b) ≡ true → not b ≡ true
later true b e = absurd (false≢true e)
later false b e = e

-- what is made leaves the other names as they are
still-new : (name : Name) (table : TableSet) (sets : Named TableSet) (placed : List DdAllotment) → not (list_any (same_name name) (map (λ (one : DdAllotment). one.name) placed)) ≡ true → AreNew sets placed → AreNew (with_entry name table sets) placed
still-new name table sets [] distinct new = tt
still-new name table sets (one ∷ placed) distinct new = (
  λ makes. at-with_entry-other name one.name table sets (apart name one.name (map (λ (p : DdAllotment). p.name) placed) distinct) ∙ new.0 makes,
  still-new name table sets placed (later (same_name name one.name) (list_any (same_name name) (map (λ (p : DdAllotment). p.name) placed)) distinct) new.1,
)

-- ---- a data set more

clear-more : (name : Name) (table : TableSet) (sets : Named TableSet) (set : DataSet) → entry_at sets name ≡ None → lies_clear (with_entry name table sets) set ≡ (lie_apart set table.set && lies_clear sets set)
clear-more name table [] set none = refl
clear-more name table (entry ∷ sets) set none =
    elim (name_cmp name entry.0) as
    (λ r. cond (is_eq r) (Some entry.1) (entry_at sets name) ≡ None →
    lies_clear (by_order r ((name, table) ∷ entry ∷ sets) ((entry.0, table) ∷ sets) (entry ∷ with_entry name table sets)) set ≡ (lie_apart set table.set && (lie_apart set entry.1.set && lies_clear sets set))) [
      | Less ↦ λ none. refl
      | Equal ↦ λ none. absurd (some-not-none _ none)
      | Greater ↦ λ none. ap (λ b. lie_apart set entry.1.set && b) (clear-more name table sets set none) ∙ and-swap (lie_apart set entry.1.set) (lie_apart set table.set) (lies_clear sets set)
    ] none

module _ (layout : Layout) (stamp : Stamp) (items : List Made) where
  -- the data sets with what one makes, and the names that are still new
  clear-one : (one : DdAllotment) (allotment : AllotmentModel) (sets : Named TableSet) (set : DataSet) → (is_made allotment ≡ true → entry_at sets one.name ≡ None)
      → lies_clear (made_table stamp items one allotment sets) set ≡ ((not (is_made allotment) || lie_apart set (set_made items one)) && lies_clear sets set)
  clear-one one found sets set new = refl
  clear-one one made sets set new = clear-more one.name (fresh_table stamp one (parts_from one.number items)) sets set (new refl)
  clear-one one (refused flaw) sets set new = refl

  new-one : (one : DdAllotment) (allotment : AllotmentModel) (sets : Named TableSet) (placed : List DdAllotment) → not (list_any (same_name one.name) (map (λ (p : DdAllotment). p.name) placed)) ≡ true → AreNew sets placed → AreNew (made_table stamp items one allotment sets) placed
  new-one one found sets placed distinct new = new
  new-one one made sets placed distinct new = still-new one.name (fresh_table stamp one (parts_from one.number items)) sets placed distinct new
  new-one one (refused flaw) sets placed distinct new = new

  and-true : (b : Bool) → b ≡ (b && true)
  and-true true = refl
  and-true false = refl

  -- clear of what was there and of what these make
  clear-made : (before : List DdAllotment) (sets : Named TableSet) (set : DataSet) → AreApart before → AreNew sets before
      → lies_clear (made_tables stamp items before sets) set ≡ (lies_clear sets set && list_all (λ other. not (is_made other.allotment) || lie_apart set (set_made items other)) before)
  clear-made [] sets set distinct new = and-true (lies_clear sets set)
  clear-made (one ∷ before) sets set distinct new =
      let first = and-first (not (list_any (same_name one.name) (map (λ (p : DdAllotment). p.name) before))) (are_distinct (map (λ (p : DdAllotment). p.name) before)) distinct in
      let rest = list_all (λ (other : DdAllotment). not (is_made other.allotment) || lie_apart set (set_made items other)) before in
      clear-made before (made_table stamp items one one.allotment sets) set (and-second (not (list_any (same_name one.name) (map (λ (p : DdAllotment). p.name) before))) _ distinct) (new-one one one.allotment sets before first new.1)
      ∙ ap (λ b. b && rest) (clear-one one one.allotment sets set new.0)
      ∙ sym (and-assoc (not (is_made one.allotment) || lie_apart set (set_made items one)) (lies_clear sets set) rest)
      ∙ and-swap (not (is_made one.allotment) || lie_apart set (set_made items one)) (lies_clear sets set) rest

  made-append : (before : List DdAllotment) (one : DdAllotment) (sets : Named TableSet) → made_tables stamp items (before ++ one ∷ []) sets ≡ made_table stamp items one one.allotment (made_tables stamp items before sets)
  made-append [] one sets = refl
  made-append (first ∷ before) one sets = made-append before one (made_table stamp items first first.allotment sets)

  is-beside : (one : DdAllotment) (allotment : AllotmentModel) (before : List DdAllotment) (sets : Named TableSet) → AreApart before → AreNew sets before
      → is_made_clear layout stamp items one allotment (made_tables stamp items before sets)
      ≡ (not (is_made allotment) || (stands_in layout (set_made items one) && lies_clear sets (set_made items one) && list_all (is_apart_from items one) before))
  is-beside one found before sets distinct new = refl
  is-beside one made before sets distinct new =
      ap (λ b. stands_in layout (set_made items one) && b) (clear-made before sets (set_made items one) distinct new)
      ∙ and-assoc (stands_in layout (set_made items one)) (lies_clear sets (set_made items one)) (list_all (is_apart_from items one) before)
  is-beside one (refused flaw) before sets distinct new = refl

  -- ---- in turn

  distinct-front : (before rest : List DdAllotment) → AreApart (before ++ rest) → AreApart before
  distinct-front [] rest distinct = refl
  distinct-front (one ∷ before) rest distinct =
      let more = distinct-front before rest (and-second (not (list_any (same_name one.name) (map (λ (p : DdAllotment). p.name) (before ++ rest)))) _ distinct) in
      (and_from _ _) (front one.name before (and-first (not (list_any (same_name one.name) (map (λ (p : DdAllotment). p.name) (before ++ rest)))) (are_distinct (map (λ (p : DdAllotment). p.name) (before ++ rest))) distinct)) more
    where
      neither : (a b c : Bool) → (not b ≡ true → not c ≡ true) → not (a || b) ≡ true → not (a || c) ≡ true
      neither true b c next e = e
      neither false b c next e = next e

      front : (name : Name) (some : List DdAllotment) → not (list_any (same_name name) (map (λ (p : DdAllotment). p.name) (some ++ rest))) ≡ true → not (list_any (same_name name) (map (λ (p : DdAllotment). p.name) some)) ≡ true
      front name [] e = refl
      front name (p ∷ some) e = neither (same_name name p.name) (list_any (same_name name) (map (λ (q : DdAllotment). q.name) (some ++ rest))) (list_any (same_name name) (map (λ (q : DdAllotment). q.name) some)) (front name some) e

  new-front : (before rest : List DdAllotment) (sets : Named TableSet) → AreNew sets (before ++ rest) → AreNew sets before
  new-front [] rest sets new = tt
  new-front (one ∷ before) rest sets new = (new.0, new-front before rest sets new.1)

  append-one : (before : List DdAllotment) (one : DdAllotment) (rest : List DdAllotment) → before ++ one ∷ rest ≡ (before ++ one ∷ []) ++ rest
  append-one [] one rest = refl
  append-one (first ∷ before) one rest = ap (λ all. first ∷ all) (append-one before one rest)

  clear-beside : (before rest : List DdAllotment) (sets : Named TableSet) → AreApart (before ++ rest) → AreNew sets (before ++ rest)
      → are_made_clear layout stamp items rest (made_tables stamp items before sets) ≡ are_clear_beside layout items sets before rest
  clear-beside before [] sets distinct new = refl
  clear-beside before (one ∷ rest) sets distinct new =
      ap (λ b. b && are_made_clear layout stamp items rest (made_table stamp items one one.allotment (made_tables stamp items before sets))) (is-beside one one.allotment before sets (distinct-front before (one ∷ rest) distinct) (new-front before (one ∷ rest) sets new))
      ∙ ap (λ all. is_clear_beside layout items sets before one && are_made_clear layout stamp items rest all) (sym (made-append before one sets))
      ∙ ap (λ b. is_clear_beside layout items sets before one && b) (clear-beside (before ++ one ∷ []) rest sets (subst AreApart (append-one before one rest) distinct) (subst (AreNew sets) (append-one before one rest) new))

-- ---- the DDs of a step

module _ (layout : Layout) (stamp : Stamp) (items : List Made) (before : Stock TableSet) (root : ℕ) (own : OwnedStep) where
  names-placed : (number : ℕ) (dds : List Dd) → map (λ (one : DdAllotment). one.name) (placed_from table_ways before root own number dds) ≡ filter_map (name_of root own) dds
  names-placed number [] = refl
  names-placed number (dd ∷ dds) = by (name_of root own dd) (names-placed (suc number) dds)
    where
      by : (named : Option Name) → map (λ (one : DdAllotment). one.name) (placed_from table_ways before root own (suc number) dds) ≡ filter_map (name_of root own) dds → map (λ (one : DdAllotment). one.name) (cons_option (option_map (placed_one table_ways before number dd) named) (placed_from table_ways before root own (suc number) dds)) ≡ cons_option named (filter_map (name_of root own) dds)
      by None rest = rest
      by (Some name) rest = ap (λ names. name ∷ names) rest

  absent : (known : Option TableSet) → option_map table_ways.known known ≡ None → known ≡ None
  absent None e = refl
  absent (Some table) e = absurd (some-not-none _ e)

  new-placed : (number : ℕ) (dds : List Dd) → AreNew before.sets (placed_from table_ways before root own number dds)
  new-placed number [] = tt
  new-placed number (dd ∷ dds) = by (name_of root own dd) (new-placed (suc number) dds)
    where
      by : (named : Option Name) → AreNew before.sets (placed_from table_ways before root own (suc number) dds) → AreNew before.sets (cons_option (option_map (placed_one table_ways before number dd) named) (placed_from table_ways before root own (suc number) dds))
      by None rest = rest
      by (Some name) rest = (
        λ makes. absent (entry_at before.sets name) (made_absent dd (is_passed before.passed name) (option_map table_ways.known (entry_at before.sets name)) makes),
        rest,
      )

  -- what a step makes is clear
  pub step-clear : are_distinct (names_of root own) ≡ true → are_made_clear layout stamp items (placed_in table_ways before root own) before.sets ≡ are_clear_beside layout items before.sets [] (placed_in table_ways before root own)
  step-clear distinct =
      clear-beside layout stamp items [] (placed_in table_ways before root own) before.sets (ap are_distinct (names-placed 1 own.step.dds) ∙ distinct) (new-placed 1 own.step.dds)
