-- A new part lies in free bytes, and the data set that it makes stands there.
use Rattle.std.proofs.Common.{◌≡◌, ◌≤◌, ◌+◌, ◌*◌, ◌&&◌, ℕ, Bool, true, false, refl, ap, sym, ◌∙◌, subst, IsTrue, eqb, nat_le, nat_lt, List, [], ◌∷◌, length, Option, Some, None, Ok, Err, cond, arith}
use Rattle.std.specs.List.{list_all}
use Rattle.std.specs.Option.{option_map, is_some}
use Rattle.std.specs.Prelude.{unwrap_or}
use Rattle.std.specs.Cmp.Lexicographic.{nat_list_cmp_total}
use Rattle.std.specs.Cmp.{eq_by_cmp_equiv}
use Rattle.std.specs.FinMap.Entries.{find-put}
use Rattle.std.proofs.lemmas.Bool.{and_parts, and_from, false≢true}
use Rattle.std.proofs.lemmas.Bool.Decides.{nat_tests}
use Rattle.std.proofs.lemmas.List.{append-nil}
use Rattle.std.proofs.lemmas.Option.{same_Some}
use Rattle.ckr_jcl.specs.declared.deck.Dd.{Dd}
use Rattle.ckr_jcl.specs.declared.deck.Role.{Role}
use Rattle.ckr_jcl.specs.declared.deck.Status.{Status}
use Rattle.ckr_jcl.specs.declared.deck.Status.TheVariants.{New, Old, Shr, Mod}
use Rattle.ckr_library.specs.declared.sets.Extent.{Extent}
use Rattle.ckr_library.specs.declared.sets.Part.{Part}
use Rattle.ckr_library.specs.declared.sets.Stamp.{Stamp}
use Rattle.ckr_library.specs.Catalog.{Catalog, Holding, fresh_holding}
use Rattle.ckr_library.specs.NameMaps.{Name, Named, name_cmp, same_name, entry_at, with_entry}
use Rattle.ckr_volumes.specs.declared.layout.Layout.{Layout}
use Rattle.ckr_volumes.specs.Allocation.{Allotted}
use Rattle.ckr_volumes.specs.Places.{StretchModel, stretches_of, stretches_of_part}
use Rattle.ckr_volumes.specs.Layouts.{StandsIn, is_inside, all_apart, lie_apart, lists_apart}
use Rattle.ckr_volumes.specs.SamePlaces.{lie_apart_turned}
use Rattle.ckr_meaning.specs.LibrarySet.{Known}
use Rattle.ckr_meaning.specs.Allotments as meaning
use Rattle.ckr_meaning.specs.Allotments.{AllotmentModel, found, made, refused, allotment_by, allotment_of, is_wrong_kind, with_kind, space_for}
use Rattle.ckr_points_library.specs.declared.cause.Cause.TheVariants.{NoVolume}
use Rattle.ckr_points_library.specs.Allocation.{fits_dd, fits_space, fresh_set, part_at, part_on, parts_for, room_at, space_of, volume_named, with_part}
use Rattle.ckr_points_library.specs.Holdings.{holding_ways, known_of}
use Rattle.ckr_points_library.specs.FreeSpace.{LiesFree, AllApart}

and_true : (b : Bool) → IsTrue b → IsTrue (b && true)
and_true b is = and_from b true is refl

-- what allocation gives is free
pub lies_free : (layout : Layout) (catalog : Catalog) (dd : Dd) (volume space : ℕ) (extents : List Extent) → space ≡ space_of dd → Allotted layout catalog volume dd.lrecl space extents → LiesFree layout catalog.sets dd (part_on volume space extents)
lies_free layout catalog dd volume space extents asked allotted =
    subst (λ (l : List Extent). LiesFree layout catalog.sets dd (part_on volume space l)) (sym allotted.one)
    (record {
      there = (and_parts (nat_lt volume (length layout.volumes.items)) _ allotted.inside).0;
      inside = and_true _ allotted.inside;
      alone = refl;
      whole = sum_of_one space;
      records = asked;
      apart = λ name holding found. allotted.apart name holding.set (ap (option_map (λ (h : Holding). h.set)) found);
    })
  where
    sum_of_one : (n : ℕ) → IsTrue (eqb n (n + 0))
    sum_of_one n = grind (arith, nat_tests)

-- what a DD asks for
pub record Asks (dd : Dd) : Type 0 where
  pub lrecl_above : 1 ≤ dd.lrecl
  pub lrecl_below : dd.lrecl ≤ 256
  pub space : IsTrue (fits_space dd.disp.status dd.space)
  pub single : length dd.volumes.items ≤ 1

pub asked : (dd : Dd) → IsTrue (fits_dd dd) → Asks dd
asked dd fits =
    let above = and_parts (nat_le 1 dd.lrecl) _ fits in
    let below = and_parts (nat_le dd.lrecl 256) _ above.1 in
    let rest = and_parts (fits_space dd.disp.status dd.space) _ below.1 in
    record {
      lrecl_above = grind (arith, nat_tests, above.0);
      lrecl_below = grind (arith, nat_tests, below.0);
      space = rest.0;
      single = grind (arith, nat_tests, rest.1);
    }

-- the space that is given has room for a record, and is at most a million
pub space_above : (status : Status) (space : Option ℕ) → IsTrue (fits_space status space) → is_some space ≡ true → 1 ≤ unwrap_or space 0
space_above status None fits given = cc
space_above New (Some space) fits given = grind (arith, nat_tests, fits)
space_above Old (Some space) fits given = grind (arith, nat_tests, fits)
space_above Shr (Some space) fits given = grind (arith, nat_tests, fits)
space_above Mod (Some space) fits given = grind (arith, nat_tests, fits)

pub space_below : (status : Status) (space : Option ℕ) → IsTrue (fits_space status space) → unwrap_or space 0 ≤ 1000000
space_below status None fits = omega arith
space_below New (Some space) fits = grind (arith, nat_tests, fits)
space_below Old (Some space) fits = grind (arith, nat_tests, fits)
space_below Shr (Some space) fits = grind (arith, nat_tests, fits)
space_below Mod (Some space) fits = grind (arith, nat_tests, fits)

-- ---- a DD that makes its data set

unmade : (role : Role) (known : Option Known) (allotment : AllotmentModel) → with_kind role known allotment ≡ made → allotment ≡ made
unmade role None found e = e
unmade role (Some known) found e = by (is_wrong_kind role known.content) e
  where
    by : (wrong : Bool) → cond wrong (refused meaning.wrong_kind) found ≡ made → found ≡ made
    by true e = cc
    by false e = e
unmade role None made e = refl
unmade role (Some known) made e = refl
unmade role None (refused flaw) e = e
unmade role (Some known) (refused flaw) e = e

-- the library hasn't the name
absent_by : (status : Status) (there here space : Bool) → allotment_by status there here space ≡ made → there ≡ false
absent_by status false here space e = refl
absent_by New true here space e = cc
absent_by _ true true space e = cc
absent_by _ true false space e = cc

pub made_absent : (dd : Dd) (passed : Bool) (known : Option Known) → allotment_of dd passed known ≡ made → is_some known ≡ false
made_absent dd passed known e = absent_by dd.disp.status (is_some known) _ (is_some dd.space) (unmade dd.role known _ e)

-- and the space is given
given_by : (status : Status) (there here : Bool) (space : Option ℕ) → IsTrue (fits_space status space) → allotment_by status there here (is_some space) ≡ made → is_some space ≡ true
given_by status there here (Some space) fits e = refl
given_by New there here None fits e = fits
given_by Mod true false None fits e = cc
given_by Mod false false None fits e = cc
given_by _ there true None fits e = cc
given_by _ there false None fits e = cc

pub made_space : (dd : Dd) (passed : Bool) (known : Option Known) → IsTrue (fits_dd dd) → allotment_of dd passed known ≡ made → 1 ≤ space_of dd
made_space dd passed known fits e =
    let asks : Asks dd = asked dd fits in
    space_above dd.disp.status dd.space asks.space (given_by dd.disp.status (is_some known) _ dd.space asks.space (unmade dd.role known _ e))

-- ---- the data set

one_part : (dd : Dd) → length dd.volumes.items ≤ 1 → space_for dd ≡ space_of dd
one_part dd single = by dd.volumes.items single
  where
    by : (serials : List Name) → length serials ≤ 1 → space_of dd * meaning.parts_for serials ≡ space_of dd
    by [] single = omega arith
    by (serial ∷ []) single = omega arith
    by (serial ∷ other ∷ more) single = absurd (omega (arith, single))

-- it stands in the layout
pub new_stands : (layout : Layout) (sets : Named Holding) (dd : Dd) (stamp : Stamp) (part : Part) → IsTrue (fits_dd dd) → 1 ≤ space_of dd → LiesFree layout sets dd part → StandsIn layout (fresh_set stamp dd (part ∷ []))
new_stands layout sets dd stamp part fits above free =
    let asks : Asks dd = asked dd fits in
    record {
      volumes_exist = and_true _ free.there;
      inside = subst (λ (stretches : List StretchModel). IsTrue (list_all (is_inside layout.volumes.items dd.lrecl) stretches)) (sym (append-nil (stretches_of_part part))) free.inside;
      apart = subst (λ (stretches : List StretchModel). IsTrue (all_apart dd.lrecl stretches)) (sym (append-nil (stretches_of_part part))) free.alone;
      parts = and_true _ free.whole;
      sum = omega (arith, free.records, one_part dd asks.single);
      length_fits = omega arith;
      lrecl_above = asks.lrecl_above;
      lrecl_below = asks.lrecl_below;
      space_above = omega (arith, one_part dd asks.single, above);
      space_below = omega (arith, one_part dd asks.single, space_below dd.disp.status dd.space asks.space);
    }

-- ---- the parts

-- of at most one volume
pub one_room : (layout : Layout) (sets : Named Holding) (dd : Dd) (serials : List Name) → length serials ≤ 1 → parts_for layout sets dd serials ≡ with_part (room_at layout sets dd serials) (Ok [])
one_room layout sets dd [] single = refl
one_room layout sets dd (serial ∷ []) single = by (volume_named layout.volumes.items serial)
  where
    by : (volume : Option ℕ) → cond (is_some volume && true) (with_part (part_at layout sets dd volume) (Ok [])) (Err NoVolume) ≡ with_part (part_at layout sets dd volume) (Ok [])
    by None = refl
    by (Some volume) = refl
one_room layout sets dd (serial ∷ other ∷ more) single = absurd (omega (arith, single))

-- ---- the library with it

module _ (layout : Layout) (sets : Named Holding) (dd : Dd) (stamp : Stamp) (part : Part) (free : LiesFree layout sets dd part) where
  new_apart : (name : Name) (holding : Holding) → entry_at sets name ≡ Some holding → IsTrue (lie_apart (fresh_set stamp dd (part ∷ [])) holding.set)
  new_apart name holding there =
      subst (λ (stretches : List StretchModel). IsTrue (lists_apart dd.lrecl holding.set.lrecl stretches (stretches_of holding.set))) (sym (append-nil (stretches_of_part part))) (free.apart name holding there)

  abbrev new_one : Holding
  new_one = fresh_holding (fresh_set stamp dd (part ∷ []))

  -- all lie apart with the new one too
  pub new_all_apart : (name : Name) → AllApart sets → AllApart (with_entry name new_one sets)
  new_all_apart name apart first second one two found_one found_two differ =
      by (same_name first name) (same_name second name) refl refl
      (sym (find-put name_cmp nat_list_cmp_total first name new_one sets) ∙ found_one)
      (sym (find-put name_cmp nat_list_cmp_total second name new_one sets) ∙ found_two)
    where
      equal : same_name first name ≡ true → same_name second name ≡ true → same_name first second ≡ true
      equal tied_first tied_second =
          let e = eq_by_cmp_equiv nat_list_cmp_total in
          e.congr first name second tied_first ∙ e.symm name second ∙ tied_second

      by : (new_first new_second : Bool) → same_name first name ≡ new_first → same_name second name ≡ new_second
          → cond new_first (Some new_one) (entry_at sets first) ≡ Some one → cond new_second (Some new_one) (entry_at sets second) ≡ Some two → IsTrue (lie_apart one.set two.set)
      by true true tied_first tied_second found_one found_two = absurd (false≢true (sym differ ∙ equal tied_first tied_second))
      by true false tied_first tied_second found_one found_two =
          subst (λ (h : Holding). IsTrue (lie_apart h.set two.set)) (same_Some new_one one found_one) (new_apart second two found_two)
      by false true tied_first tied_second found_one found_two =
          subst (λ (h : Holding). IsTrue (lie_apart one.set h.set)) (same_Some new_one two found_two)
          (lie_apart_turned new_one.set one.set (new_apart first one found_one))
      by false false tied_first tied_second found_one found_two = apart first second one two found_one found_two differ

-- what allocation asks of a data set, by the data set alone
pub known_as : (entry : Option Holding) → option_map known_of (option_map (λ (h : Holding). h.set) entry) ≡ option_map holding_ways.known entry
known_as None = refl
known_as (Some holding) = refl
