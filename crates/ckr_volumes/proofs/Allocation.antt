-- Allocation keeps its promises.
use Rattle.std.proofs.Common.{◌≡◌, ◌≤◌, ◌<◌, ℕ, ◌+◌, ◌-◌, ◌*◌, ◌/◌, Bool, true, false, not, ◌||◌, IsTrue, nat_le, nat_lt, eqb, List, [], ◌∷◌, ◌++◌, length, find, map, flat_map, Option, Some, None, Result, Ok, Err, refl, ap, sym, ◌∙◌, subst, ⊎_elim, arith}
use Rattle.std.specs.List.{list_all}
use Rattle.std.specs.Option.{option_map}
use Rattle.std.proofs.Math.Nat.{div-mul-le_self, mul-le-mul_right}
use Rattle.std.proofs.lemmas.Bool.{leb-true, eqb-true, and_parts, and_from, or_cases, or_left, or_right}
use Rattle.std.proofs.lemmas.Bool.Decides.{nat_tests}
use Rattle.std.proofs.lemmas.List.{map-append}
use Rattle.std.proofs.lemmas.Option.{none-some, same_Some}
use Rattle.ckr_base.proofs.Numbers.{nat_le-from}
use Rattle.ckr_library.specs.declared.sets.DataSet.{DataSet}
use Rattle.ckr_library.specs.declared.sets.Extent.{Extent}
use Rattle.ckr_library.specs.declared.sets.Part.{Part}
use Rattle.ckr_library.specs.declared.spread.Span.{Span}
use Rattle.ckr_library.specs.Catalog.{Catalog, Holding, set_of}
use Rattle.ckr_library.specs.NameMaps.{Name, Named, EachEntry, entry_at}
use Rattle.ckr_library.specs.Spread.{is_clear, is_on, span_of, spans_of, spans_of_all, spans_of_part, spread_on}
use Rattle.ckr_library.proofs.Laws.{spread_on-ascends, spans-each, spans-all, all-filter, filter-all}
use Rattle.ckr_library.proofs.Named.{each-at}
use Rattle.ckr_volumes.specs.declared.layout.Layout.{Layout}
use Rattle.ckr_volumes.specs.declared.layout.NoSpace.{NoSpace}
use Rattle.ckr_volumes.specs.declared.space.Hole.{Hole}
use Rattle.ckr_volumes.specs.Places.{StretchModel, stretch_on, stretches_of_part, stretches_of, end_of, bytes_of}
use Rattle.ckr_volumes.specs.Layouts.{is_inside, are_disjoint, are_apart, lists_apart, StandsIn}
use Rattle.ckr_volumes.specs.Space.{holes_from, room_in, largest, at_front, ends_by, is_free, allocated}
use Rattle.ckr_volumes.specs.Spots.{by_test}
use Rattle.ckr_volumes.specs.Allocation.{Allotted, Refused}
use Rattle.ckr_volumes.proofs.Holes.{IsHole, EachHole, holes-each, found-each, largest-each, largest-most, lowest-found, clear_fewer, clear_none, none-found}

-- the span of a stretch
abbrev pub span_in : ℕ → StretchModel → Span
span_in lrecl stretch = record { volume = stretch.volume; start = stretch.start; bytes = stretch.records * lrecl }

spans_in : (lrecl volume : ℕ) (extents : List Extent) → map (span_of lrecl volume) extents ≡ map (span_in lrecl) (map (stretch_on volume) extents)
spans_in lrecl volume [] = refl
spans_in lrecl volume (extent ∷ extents) = ap (λ spans. span_of lrecl volume extent ∷ spans) (spans_in lrecl volume extents)

-- the spans of a data set are those of its stretches
spans-stretches : (lrecl : ℕ) (parts : List Part) → flat_map (spans_of_part lrecl) parts ≡ map (span_in lrecl) (flat_map stretches_of_part parts)
spans-stretches lrecl [] = refl
spans-stretches lrecl (part ∷ parts) =
    (λ i. spans_in lrecl part.volume part.extents.items i ++ spans-stretches lrecl parts i)
    ∙ sym (map-append (span_in lrecl) (stretches_of_part part) (flat_map stretches_of_part parts))

all_mapped : {A B : Type 0} (f : A → B) (Q : A → Bool) (P : B → Bool) → ((x : A) → IsTrue (Q x) → IsTrue (P (f x))) → (xs : List A) → IsTrue (list_all Q xs) → IsTrue (list_all P (map f xs))
all_mapped f Q P so [] all = refl
all_mapped f Q P so (x ∷ xs) all =
    let both = and_parts (Q x) (list_all Q xs) all in
    and_from _ _ (so x both.0) (all_mapped f Q P so xs both.1)

mapped_all : {A B : Type 0} (f : A → B) (P : B → Bool) (Q : A → Bool) → ((x : A) → IsTrue (P (f x)) → IsTrue (Q x)) → (xs : List A) → IsTrue (list_all P (map f xs)) → IsTrue (list_all Q xs)
mapped_all f P Q so [] all = refl
mapped_all f P Q so (x ∷ xs) all =
    let both = and_parts (P (f x)) (list_all P (map f xs)) all in
    and_from _ _ (so x both.0) (mapped_all f P Q so xs both.1)

-- a test of the spans of a data set, by its stretches
spans-from : (set : DataSet) (Q : StretchModel → Bool) (P : Span → Bool) → ((s : StretchModel) → IsTrue (Q s) → IsTrue (P (span_in set.lrecl s))) → IsTrue (list_all Q (stretches_of set)) → IsTrue (list_all P (spans_of set))
spans-from set Q P so all = subst (λ spans. IsTrue (list_all P spans)) (sym (spans-stretches set.lrecl set.parts.items)) (all_mapped (span_in set.lrecl) Q P so (stretches_of set) all)

stretches-from : (set : DataSet) (P : Span → Bool) (Q : StretchModel → Bool) → ((s : StretchModel) → IsTrue (P (span_in set.lrecl s)) → IsTrue (Q s)) → IsTrue (list_all P (spans_of set)) → IsTrue (list_all Q (stretches_of set))
stretches-from set P Q so all = mapped_all (span_in set.lrecl) P Q so (stretches_of set) (subst (λ spans. IsTrue (list_all P spans)) (spans-stretches set.lrecl set.parts.items) all)

module _ (layout : Layout) (volume : ℕ) where
  abbrev end : ℕ
  end = bytes_of layout.volumes.items volume

  one_ends : (lrecl : ℕ) (s : StretchModel) → IsTrue (is_inside layout.volumes.items lrecl s) → IsTrue (not (is_on volume (span_in lrecl s)) || ends_by end (span_in lrecl s))
  one_ends lrecl s inside =
      let both = and_parts (nat_lt s.volume (length layout.volumes.items)) (nat_le (end_of lrecl s) (bytes_of layout.volumes.items s.volume)) inside in
      elim (eqb s.volume volume) as (λ b. eqb s.volume volume ≡ b → IsTrue (not b || ends_by end (span_in lrecl s))) [
        | true ↦ λ same. subst (λ v. IsTrue (nat_le (end_of lrecl s) (bytes_of layout.volumes.items v))) (eqb-true s.volume volume same) both.1
        | false ↦ λ other. refl
      ] refl

  each_ends : (sets : Named Holding) → EachEntry (λ (h : Holding). StandsIn layout h.set) sets → EachEntry (λ (h : Holding). IsTrue (list_all (λ span. not (is_on volume span) || ends_by end span) (spans_of h.set))) sets
  each_ends [] stand = tt
  each_ends (entry ∷ rest) stand =
      (spans-from entry.1.set (is_inside layout.volumes.items entry.1.set.lrecl) (λ span. not (is_on volume span) || ends_by end span) (one_ends entry.1.set.lrecl) stand.0.inside, each_ends rest stand.1)

  -- the spans on a volume end inside it
  pub spread-ends : (sets : Named Holding) → EachEntry (λ (h : Holding). StandsIn layout h.set) sets → IsTrue (list_all (ends_by end) (spread_on volume sets))
  spread-ends sets stand = all-filter (is_on volume) (ends_by end) (spans_of_all sets) (spans-all (λ span. not (is_on volume span) || ends_by end span) sets (each_ends sets stand))

-- bytes that are clear of the span of a stretch are apart from it
one_apart : (volume lrecl at records other_lrecl : ℕ) (s : StretchModel) → 1 ≤ other_lrecl → IsTrue (not (is_on volume (span_in other_lrecl s)) || is_clear at (records * lrecl) (span_in other_lrecl s)) → IsTrue (are_apart lrecl other_lrecl (record { volume = volume; start = at; records = records }) s)
one_apart volume lrecl at records other_lrecl s wide clear =
    let one : StretchModel = record { volume = volume; start = at; records = records } in
    elim (eqb volume s.volume) as (λ b. eqb volume s.volume ≡ b → IsTrue (not b || are_disjoint lrecl other_lrecl one s)) [
      | false ↦ λ other. refl
      | true ↦ λ same.
          let here : IsTrue (is_clear at (records * lrecl) (span_in other_lrecl s)) = by_same (eqb s.volume volume) (turned volume s.volume same) _ clear in
          ⊎_elim
          (λ none. or_left (eqb records 0 || eqb s.records 0) _ (or_right (eqb records 0) (eqb s.records 0) (none_is s.records other_lrecl wide none)))
          (λ near. or_right (eqb records 0 || eqb s.records 0) _ (⊎_elim
          (λ behind. or_right (nat_le (end_of lrecl one) s.start) (nat_le (end_of other_lrecl s) at) behind)
          (λ before. or_left (nat_le (end_of lrecl one) s.start) (nat_le (end_of other_lrecl s) at) before)
          (or_cases (nat_le (end_of other_lrecl s) at) (nat_le (at + records * lrecl) s.start) near)))
          (or_cases (eqb (s.records * other_lrecl) 0) (nat_le (end_of other_lrecl s) at || nat_le (at + records * lrecl) s.start) here)
    ] refl
  where
    turned : (p q : ℕ) → eqb p q ≡ true → eqb q p ≡ true
    turned p q e = grind (arith, nat_tests)

    by_same : (b : Bool) → b ≡ true → (c : Bool) → IsTrue (not b || c) → IsTrue c
    by_same b e c h = subst (λ (x : Bool). IsTrue (not x || c)) e h

    none_is : (n k : ℕ) → 1 ≤ k → IsTrue (eqb (n * k) 0) → IsTrue (eqb n 0)
    none_is n k some none = is_none n (by_test 0 n (λ _. n ≡ 0) (λ more. let rows : 1 * k ≤ n * k = mul-le-mul_right k more in absurd (omega (arith, rows, some, eqb-true (n * k) 0 none))) (λ past. omega (arith, past)))
      where
        is_none : (n : ℕ) → n ≡ 0 → IsTrue (eqb n 0)
        is_none n e = grind (arith, nat_tests)

set_found : (found : Option Holding) (set : DataSet) → option_map (λ (h : Holding). h.set) found ≡ Some set → (h : Holding) × (found ≡ Some h) × (h.set ≡ set)
set_found None set is = absurd (none-some set is)
set_found (Some h) set is = (h, refl, same_Some h.set set is)

module _ (layout : Layout) (catalog : Catalog) (volume lrecl space : ℕ) (there : volume < length layout.volumes.items) (wide : 1 ≤ lrecl) (some : 1 ≤ space) (stand : EachEntry (λ (h : Holding). StandsIn layout h.set) catalog.sets) where
  each_hole : EachHole (IsHole 0 (bytes_of layout.volumes.items volume) (spread_on volume catalog.sets)) (holes_from 0 (bytes_of layout.volumes.items volume) (spread_on volume catalog.sets))
  each_hole = holes-each 0 0 (bytes_of layout.volumes.items volume) (spread_on volume catalog.sets) (spread_on-ascends volume catalog.sets) (spread-ends layout volume catalog.sets stand)

  -- as many records as a hole has room for are free at its front
  free_in : (hole : Hole) (records : ℕ) → IsHole 0 (bytes_of layout.volumes.items volume) (spread_on volume catalog.sets) hole → records ≤ (hole.to - hole.from) / lrecl → IsTrue (is_free layout catalog volume hole.from (records * lrecl))
  free_in hole records is holds =
      let rows : records * lrecl ≤ (hole.to - hole.from) / lrecl * lrecl = mul-le-mul_right lrecl holds in
      let whole : (hole.to - hole.from) / lrecl * lrecl ≤ hole.to - hole.from = div-mul-le_self (hole.to - hole.from) lrecl in
      and_from _ _ (nat_le-from (hole.from + records * lrecl) (bytes_of layout.volumes.items volume) (omega (arith, rows, whole, is.high, is.some)))
      (clear_fewer hole.from (hole.to - hole.from) (records * lrecl) (spread_on volume catalog.sets) (omega (arith, rows, whole)) is.clear)

  apart_from : (at records : ℕ) → IsTrue (is_free layout catalog volume at (records * lrecl)) → (name : Name) (set : DataSet) → set_of catalog name ≡ Some set → IsTrue (lists_apart lrecl set.lrecl (stretch_on volume (record { start = at; records = records }) ∷ []) (stretches_of set))
  apart_from at records free name set is =
      let found = set_found (entry_at catalog.sets name) set is in
      let stands : StandsIn layout set = subst (λ (s : DataSet). StandsIn layout s) found.2 (each-at (λ (h : Holding). StandsIn layout h.set) catalog.sets stand name found.0 found.1) in
      let clear = (and_parts (nat_le (at + records * lrecl) (bytes_of layout.volumes.items volume)) (list_all (is_clear at (records * lrecl)) (spread_on volume catalog.sets)) free).1 in
      let all = filter-all (is_on volume) (is_clear at (records * lrecl)) (spans_of_all catalog.sets) clear in
      let those : IsTrue (list_all (λ span. not (is_on volume span) || is_clear at (records * lrecl) span) (spans_of set)) =
      subst (λ (s : DataSet). IsTrue (list_all (λ span. not (is_on volume span) || is_clear at (records * lrecl) span) (spans_of s))) found.2
      (spans-each (λ span. not (is_on volume span) || is_clear at (records * lrecl) span) catalog.sets name found.0 found.1 all) in
      and_from _ _ (stretches-from set (λ span. not (is_on volume span) || is_clear at (records * lrecl) span) (are_apart lrecl set.lrecl (record { volume = volume; start = at; records = records })) (λ s. one_apart volume lrecl at records set.lrecl s stands.lrecl_above) those) refl

  -- what is allocated
  pub allotted : (extents : List Extent) → allocated layout catalog volume lrecl space ≡ Ok extents → Allotted layout catalog volume lrecl space extents
  allotted extents is = by (find (λ h. nat_le space (room_in lrecl h)) (holes_from 0 (bytes_of layout.volumes.items volume) (spread_on volume catalog.sets))) refl is
    where
      by : (found : Option Hole) → find (λ h. nat_le space (room_in lrecl h)) (holes_from 0 (bytes_of layout.volumes.items volume) (spread_on volume catalog.sets)) ≡ found
          → at_front space (largest lrecl (holes_from 0 (bytes_of layout.volumes.items volume) (spread_on volume catalog.sets))) found ≡ Ok extents → Allotted layout catalog volume lrecl space extents
      by None e is = absurd (no _ _ is)
        where
          no : (cause : NoSpace) (extents : List Extent) → Err cause ≡ Ok extents → ⊥
          no cause extents e = cc
      by (Some hole) e is =
          let at = found-each (IsHole 0 (bytes_of layout.volumes.items volume) (spread_on volume catalog.sets)) (λ h. nat_le space (room_in lrecl h)) (holes_from 0 (bytes_of layout.volumes.items volume) (spread_on volume catalog.sets)) hole each_hole e in
          let free = free_in hole space at.0 (leb-true space (room_in lrecl hole) at.1) in
          record {
            start = hole.from;
            one = sym (same _ _ is);
            inside = and_from _ _ (lt_true volume (length layout.volumes.items) there) (and_parts (nat_le (hole.from + space * lrecl) (bytes_of layout.volumes.items volume)) (list_all (is_clear hole.from (space * lrecl)) (spread_on volume catalog.sets)) free).0;
            free = free;
            lowest = λ from clear.
                let both = and_parts (nat_le (from + space * lrecl) (bytes_of layout.volumes.items volume)) (list_all (is_clear from (space * lrecl)) (spread_on volume catalog.sets)) clear in
                lowest-found lrecl wide 0 (bytes_of layout.volumes.items volume) (spread_on volume catalog.sets) from space hole some (omega arith) (leb-true (from + space * lrecl) (bytes_of layout.volumes.items volume) both.0) both.1 e;
            apart = apart_from hole.from space free;
          }
        where
          same : (a b : List Extent) → ◌≡◌ {A = Result (List Extent) NoSpace} (Ok a) (Ok b) → a ≡ b
          same a b e = cc

          lt_true : (a b : ℕ) → a < b → IsTrue (nat_lt a b)
          lt_true a b less = grind (arith, nat_tests)

  -- what is refused
  pub refused : (cause : NoSpace) → allocated layout catalog volume lrecl space ≡ Err cause → Refused layout catalog volume lrecl space cause
  refused cause is = by (find (λ h. nat_le space (room_in lrecl h)) (holes_from 0 (bytes_of layout.volumes.items volume) (spread_on volume catalog.sets))) refl is
    where
      by : (found : Option Hole) → find (λ h. nat_le space (room_in lrecl h)) (holes_from 0 (bytes_of layout.volumes.items volume) (spread_on volume catalog.sets)) ≡ found
          → at_front space (largest lrecl (holes_from 0 (bytes_of layout.volumes.items volume) (spread_on volume catalog.sets))) found ≡ Err cause → Refused layout catalog volume lrecl space cause
      by (Some hole) e is = absurd (no _ _ is)
        where
          no : (extents : List Extent) (cause : NoSpace) → Ok extents ≡ Err cause → ⊥
          no extents cause e = cc
      by None e is =
          let room = largest lrecl (holes_from 0 (bytes_of layout.volumes.items volume) (spread_on volume catalog.sets)) in
          subst (λ (c : NoSpace). Refused layout catalog volume lrecl space c) (same (record { need = space; free = room }) cause is) (record {
            need = refl;
            less = none-found lrecl space (holes_from 0 (bytes_of layout.volumes.items volume) (spread_on volume catalog.sets)) some e;
            most = λ from records clear.
                let both = and_parts (nat_le (from + records * lrecl) (bytes_of layout.volumes.items volume)) (list_all (is_clear from (records * lrecl)) (spread_on volume catalog.sets)) clear in
                largest-most lrecl wide 0 (bytes_of layout.volumes.items volume) (spread_on volume catalog.sets) from records (omega arith) (leb-true (from + records * lrecl) (bytes_of layout.volumes.items volume) both.0) both.1;
            there = by_test 0 room (λ _. (from : ℕ) × IsTrue (is_free layout catalog volume from (room * lrecl)))
                (λ more.
                let hole = largest-each (IsHole 0 (bytes_of layout.volumes.items volume) (spread_on volume catalog.sets)) lrecl (holes_from 0 (bytes_of layout.volumes.items volume) (spread_on volume catalog.sets)) each_hole more in
                (hole.0.from, free_in hole.0 room hole.1 (omega (arith, hole.2))))
                (λ none. (0, nothing room (omega (arith, none))));
          })
        where
          same : (a b : NoSpace) → ◌≡◌ {A = Result (List Extent) NoSpace} (Err a) (Err b) → a ≡ b
          same a b e = cc

          nothing : (room : ℕ) → room ≡ 0 → IsTrue (is_free layout catalog volume 0 (room * lrecl))
          nothing room none = subst (λ n. IsTrue (is_free layout catalog volume 0 n)) (sym (ap (λ n. n * lrecl) none ∙ zero_times lrecl)) (and_from _ _ (nat_le-from 0 (bytes_of layout.volumes.items volume) (omega arith)) (clear_none (spread_on volume catalog.sets)))
            where
              zero_times : (n : ℕ) → 0 * n ≡ 0
              zero_times n = omega arith
