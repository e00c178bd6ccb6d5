-- The new part of a DD that makes its data set: where it lies, and what the data set is.
use Rattle.std.proofs.Common.{◌≡◌, ◌≤◌, ◌<◌, ◌+◌, ℕ, zero, suc, Bool, true, cond, nat_lt, List, [], ◌∷◌, length, refl, ap, sym, ◌∙◌, subst, Option, Some, None, Result, Ok, Err, arith}
use Rattle.std.specs.Prelude.{position}
use Rattle.std.specs.List.{list_all, position_or_len}
use Rattle.std.proofs.lemmas.Option.{same_Some}
use Rattle.ckr_base.proofs.Bools.{bool-cases}
use Rattle.ckr_base.proofs.Numbers.{nat_lt-true}
use Rattle.ckr_points_library.specs.declared.cause.Cause.{Cause}
use Rattle.ckr_points_library.specs.Allocation.{first_with_room, fits_dd, fresh_set, here_or_later, or_no_space, part_at, part_in, part_of, part_on, parts_for, room_at, space_of, volume_named, with_part}
use Rattle.ckr_points_library.proofs.FreeSpace.{asked, lies_free, new_stands, one_room}
use Rattle.ckr_jcl.specs.declared.deck.Dd.{Dd}
use Rattle.ckr_library.specs.declared.sets.Extent.{Extent}
use Rattle.ckr_library.specs.declared.sets.Part.{Part}
use Rattle.ckr_library.specs.declared.sets.Stamp.{Stamp}
use Rattle.ckr_library.specs.Catalog.{Catalog, Holding}
use Rattle.ckr_library.specs.NameMaps.{EachEntry, Name, Named}
use Rattle.ckr_volumes.specs.declared.layout.Layout.{Layout}
use Rattle.ckr_volumes.specs.declared.layout.NoSpace.{NoSpace as Lack}
use Rattle.ckr_volumes.specs.Allocation.{Allotted}
use Rattle.ckr_volumes.specs.Space.{allocated}
use Rattle.ckr_volumes.specs.Layouts.{StandsIn, lie_apart}
use Rattle.ckr_volumes.proofs.Allocation.{allotted}
use Rattle.ckr_desk_turn.proofs.Start.Clearance.{allotted-clear}

-- a part of one extent, with which the data set stands in the layout, apart from each of these
pub record IsNewPart (layout : Layout) (sets : Named Holding) (stamp : Stamp) (dd : Dd) (part : Part) : Type 0 where
  pub volume : ℕ
  pub start : ℕ
  pub one : part ≡ part_on volume (space_of dd) (record { start = start; records = space_of dd } ∷ [])
  pub stands : StandsIn layout (fresh_set stamp dd (part ∷ []))
  pub clear : list_all (λ (entry : Name × Holding). lie_apart (fresh_set stamp dd (part ∷ [])) entry.1.set) sets ≡ true

found-within : {X : Type 0} (test : X → Bool) (xs : List X) (place : ℕ) → position test xs ≡ Some place → place < length xs
found-within test xs place found =
    bool-cases (nat_lt (position_or_len test xs) (length xs))
    (λ inside.
    let same : position_or_len test xs ≡ place = same_Some _ _ (sym (ap (λ b. cond b (Some (position_or_len test xs)) None) inside) ∙ found) in
    nat_lt-true place (length xs) (ap (λ n. nat_lt n (length xs)) (sym same) ∙ inside))
    (λ out. none_some place (sym (ap (λ b. cond b (Some (position_or_len test xs)) None) out) ∙ found))
  where
    none_some : {A : Type 0} (a : ℕ) → None ≡ Some a → A
    none_some a e = cc

module _ (layout : Layout) (sets : Named Holding) (stamp : Stamp) (dd : Dd) (fits : fits_dd dd ≡ true) (some : 1 ≤ space_of dd) (stand : EachEntry (λ (h : Holding). StandsIn layout h.set) sets) where
  abbrev catalog : Catalog
  catalog = record { sets = sets; room = 0; entry_rooms = [] }

  new-in : (volume : ℕ) (part : Part) → volume < length layout.volumes.items → part_in layout sets dd volume ≡ Ok part → IsNewPart layout sets stamp dd part
  new-in volume part there is =
      by (allocated layout catalog volume dd.lrecl (space_of dd)) refl is
    where
      by : (extents : Result (List Extent) Lack) → allocated layout catalog volume dd.lrecl (space_of dd) ≡ extents → part_of volume (space_of dd) extents ≡ Ok part → IsNewPart layout sets stamp dd part
      by (Err lack) e is = cc
      by (Ok extents) e is =
          let lies : Allotted layout catalog volume dd.lrecl (space_of dd) extents = allotted layout catalog volume dd.lrecl (space_of dd) there (asked dd fits).lrecl_above some stand extents e in
          let mine : part_on volume (space_of dd) extents ≡ part = cc in
          let same : part_on volume (space_of dd) (record { start = lies.start; records = space_of dd } ∷ []) ≡ part = ap (part_on volume (space_of dd)) (sym lies.one) ∙ mine in
          record {
            volume = volume;
            start = lies.start;
            one = sym same;
            stands = subst (λ (p : Part). StandsIn layout (fresh_set stamp dd (p ∷ []))) mine (new_stands layout sets dd stamp (part_on volume (space_of dd) extents) fits some (lies_free layout catalog dd volume (space_of dd) extents refl lies));
            clear = subst (λ (p : Part). list_all (λ (entry : Name × Holding). lie_apart (fresh_set stamp dd (p ∷ [])) entry.1.set) sets ≡ true) same
                (allotted-clear layout sets 0 volume dd.lrecl (space_of dd) extents there (asked dd fits).lrecl_above some stand lies);
          }

  new-first : (count volume : ℕ) (part : Part) → volume + count ≤ length layout.volumes.items → first_with_room layout sets dd volume count ≡ Ok part → IsNewPart layout sets stamp dd part
  new-first zero volume part inside is = cc
  new-first (suc count) volume part inside is =
      by (part_in layout sets dd volume) (first_with_room layout sets dd (volume + 1) count) refl (new-first count (volume + 1) part (omega (arith, inside))) is
    where
      by : (here later : Result Part Lack) → part_in layout sets dd volume ≡ here → (later ≡ Ok part → IsNewPart layout sets stamp dd part) → here_or_later here later ≡ Ok part → IsNewPart layout sets stamp dd part
      by (Ok other) later e rest is = new-in volume part (omega (arith, inside)) (e ∙ is)
      by (Err lack) (Ok other) e rest is = rest is
      by (Err lack) (Err other) e rest is = cc

  or-space : (part : Part) (found : Result Part Lack) → or_no_space found ≡ Ok part → found ≡ Ok part
  or-space part (Ok other) is = cc
  or-space part (Err lack) is = cc

  new-room : (serials : List Name) (part : Part) → room_at layout sets dd serials ≡ Ok part → IsNewPart layout sets stamp dd part
  new-room [] part is = new-first (length layout.volumes.items) 0 part (omega arith) (or-space part _ is)
  new-room (serial ∷ serials) part is = by (volume_named layout.volumes.items serial) refl is
    where
      by : (volume : Option ℕ) → volume_named layout.volumes.items serial ≡ volume → part_at layout sets dd volume ≡ Ok part → IsNewPart layout sets stamp dd part
      by None e is = cc
      by (Some volume) e is = new-in volume part (found-within _ layout.volumes.items volume e) (or-space part _ is)

  -- the parts of a DD of at most one volume
  pub new-parts : {A : Type 0} (parts : List Part) → parts_for layout sets dd dd.volumes.items ≡ Ok parts → ((part : Part) → parts ≡ part ∷ [] → IsNewPart layout sets stamp dd part → A) → A
  new-parts {A = A} parts is use_it =
      by (room_at layout sets dd dd.volumes.items) refl (sym (one_room layout sets dd dd.volumes.items (asked dd fits).single) ∙ is)
    where
      by : (room : Result Part Cause) → room_at layout sets dd dd.volumes.items ≡ room → with_part room (Ok []) ≡ Ok parts → A
      by (Err cause) e is = cc
      by (Ok part) e is = use_it part (let same : parts ≡ part ∷ [] = cc in same) (new-room dd.volumes.items part e)
