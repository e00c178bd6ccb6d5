-- How many steps use each volume, where a step takes its volumes or gives them up.
-- among-low        a volume of a list is below 32
-- all-among        what passes of each volume of a list
-- counted          the uses of a volume are counted
-- counted-long     of 32 volumes
-- uses-taken       one more use of each volume that is taken
-- uses-given       one use less of each volume that is given up
-- uses-room        at most eight uses of each
-- uses-held        each volume that is held is in use
use Rattle.std.proofs.Common.{◌≡◌, ℕ, ◌+◌, ◌-◌, ◌<◌, Bool, true, false, ◌||◌, ◌==◌, ◌∙◌, List, [], ◌∷◌, Option, None, Some, arith, ap, get_or, length, nat_lt, refl, set, subst, sym}
use Rattle.std.specs.List.{count_by, list_all, slice_set}
use Rattle.std.proofs.lemmas.Bool.{and_from, ltb-true, or_left, or_right}
use Rattle.std.proofs.lemmas.Bool.Decides.{nat_tests}
use Rattle.std.proofs.lemmas.Grind.{same_number_lists}
use Rattle.std.proofs.lemmas.List.{get_or-set_other, get_or-set_same, length-set}
use Rattle.std.proofs.lemmas.List.FromFn.{get_or-map-range_with_len, length-map-range_with_len}
use Rattle.std.proofs.lemmas.List.Sums.{count_by-le-length}
use Rattle.ckr_base.proofs.Bools.{bool-cases, false-not-true, or-cases, true-not-false}
use Rattle.ckr_base.proofs.Numbers.{equal-from, equal-itself, equal-true}
use Rattle.ckr_queue.specs.Mounts.{uses_in, uses_it}
use Rattle.ckr_queue.specs.Units.{are_below_255, are_used, is_among, is_used, is_volume_list, with_fewer_uses, with_more_uses}
use Rattle.ckr_queue.proofs.Counts.{count-set, one_if}
use Rattle.ckr_queue.proofs.Lists.{both, first_of}

-- ---- lists of volumes

pub among-low : (volumes : List ℕ) (volume : ℕ) → is_volume_list volumes ≡ true → is_among volumes volume ≡ true → volume < 32
among-low [] volume list among = false-not-true among
among-low (first ∷ rest) volume list among =
    let parts = first_of first rest list in
    or-cases (first == volume) (is_among rest volume) among
    (λ same. subst (λ v. v < 32) (equal-true first volume same) parts.low)
    (λ behind. among-low rest volume parts.list behind)

pub all-among : (p : ℕ → Bool) (volumes : List ℕ) → ((volume : ℕ) → is_among volumes volume ≡ true → p volume ≡ true) → list_all p volumes ≡ true
all-among p [] each = refl
all-among p (volume ∷ rest) each = and_from _ _ (each volume (or_left _ _ (equal-itself volume))) (all-among p rest (λ other is_one. each other (or_right (volume == other) _ is_one)))

-- a volume isn't among those above it
not-above : (volume : ℕ) (rest : List ℕ) → list_all (nat_lt volume) rest ≡ true → is_among rest volume ≡ false
not-above volume [] above = refl
not-above volume (first ∷ rest) above =
    let parts = both (nat_lt volume first) _ above in
    let low = ltb-true volume first parts.0 in
    bool-cases (first == volume)
    (λ same. let equal = equal-true first volume same in absurd (omega arith))
    (λ differ. ap (λ b. b || is_among rest volume) differ ∙ not-above volume rest parts.1)

-- ---- a use more, and a use less

more-long : (volumes uses : List ℕ) → length (with_more_uses volumes uses) ≡ length uses
more-long [] uses = refl
more-long (first ∷ rest) uses = more-long rest (slice_set uses first (get_or uses first 0 + 1)) ∙ length-set uses first (get_or uses first 0 + 1)

fewer-long : (volumes uses : List ℕ) → length (with_fewer_uses volumes uses) ≡ length uses
fewer-long [] uses = refl
fewer-long (first ∷ rest) uses = fewer-long rest (slice_set uses first (get_or uses first 0 - 1)) ∙ length-set uses first (get_or uses first 0 - 1)

module _ (volume : ℕ) where
  -- what a list of volumes has of this one, from its first
  among-first : (first : ℕ) (rest : List ℕ) → list_all (nat_lt first) rest ≡ true → first ≡ volume → (one_if (is_among (first ∷ rest) volume) ≡ 1) × (one_if (is_among rest volume) ≡ 0)
  among-first first rest above same = (
    ap (λ b. one_if (b || is_among rest volume)) (equal-from first volume same),
    ap one_if (subst (λ v. is_among rest v ≡ false) same (not-above first rest above)),
  )

  among-rest : (first : ℕ) (rest : List ℕ) → (first == volume) ≡ false → one_if (is_among (first ∷ rest) volume) ≡ one_if (is_among rest volume)
  among-rest first rest differ = ap (λ b. one_if (b || is_among rest volume)) differ

  -- the uses of another volume are set
  other-set : (first count : ℕ) (uses : List ℕ) → (first == volume) ≡ false → get_or (slice_set uses first count) volume 0 ≡ get_or uses volume 0
  other-set first count uses differ = get_or-set_other uses first volume count 0 (λ same. true-not-false (sym (equal-from first volume (sym same)) ∙ differ))

  more-at : (volumes uses : List ℕ) → is_volume_list volumes ≡ true → length uses ≡ 32 → get_or (with_more_uses volumes uses) volume 0 ≡ get_or uses volume 0 + one_if (is_among volumes volume)
  more-at [] uses list long = omega arith
  more-at (first ∷ rest) uses list long =
      let parts = first_of first rest list in
      let count = get_or uses first 0 + 1 in
      let behind = more-at rest (slice_set uses first count) parts.list (length-set uses first count ∙ long) in
      bool-cases (first == volume)
      (λ same.
      let equal = equal-true first volume same in
      let low = parts.low in
      let here : get_or (slice_set uses first count) volume 0 ≡ get_or uses volume 0 + 1 =
      subst (λ v. get_or (slice_set uses first count) v 0 ≡ get_or uses v 0 + 1) equal (get_or-set_same uses first count 0 (omega arith)) in
      let among = among-first first rest parts.above equal in
      omega (arith, behind, here, among.0, among.1))
      (λ differ. omega (arith, behind, other-set first count uses differ, among-rest first rest differ))

  fewer-at : (volumes uses : List ℕ) → is_volume_list volumes ≡ true → length uses ≡ 32 → get_or (with_fewer_uses volumes uses) volume 0 ≡ get_or uses volume 0 - one_if (is_among volumes volume)
  fewer-at [] uses list long = omega arith
  fewer-at (first ∷ rest) uses list long =
      let parts = first_of first rest list in
      let count = get_or uses first 0 - 1 in
      let behind = fewer-at rest (slice_set uses first count) parts.list (length-set uses first count ∙ long) in
      bool-cases (first == volume)
      (λ same.
      let equal = equal-true first volume same in
      let low = parts.low in
      let here : get_or (slice_set uses first count) volume 0 ≡ get_or uses volume 0 - 1 =
      subst (λ v. get_or (slice_set uses first count) v 0 ≡ get_or uses v 0 - 1) equal (get_or-set_same uses first count 0 (omega arith)) in
      let among = among-first first rest parts.above equal in
      omega (arith, behind, here, among.0, among.1))
      (λ differ. omega (arith, behind, other-set first count uses differ, among-rest first rest differ))

-- ---- the uses of what is held

pub counted : (held : List (Option (List ℕ))) (volume : ℕ) → volume < 32 → get_or (uses_in held) volume 0 ≡ count_by (uses_it volume) held
counted held volume low = get_or-map-range_with_len (λ v. count_by (uses_it v) held) 0 32 volume volume 0 low (omega arith)

pub counted-long : (held : List (Option (List ℕ))) → length (uses_in held) ≡ 32
counted-long held = length-map-range_with_len (λ v. count_by (uses_it v) held) 0 32

module _ (held : List (Option (List ℕ))) (place : ℕ) (volumes : List ℕ) (inside : place < length held) (list : is_volume_list volumes ≡ true) where
  count-held : (volume : ℕ) (old new : Option (List ℕ)) → get_or held place None ≡ old
      → count_by (uses_it volume) (set held place new) + one_if (uses_it volume old) ≡ count_by (uses_it volume) held + one_if (uses_it volume new)
  count-held volume old new is =
      ap (λ o. count_by (uses_it volume) (set held place new) + one_if (uses_it volume o)) (sym is) ∙ count-set (uses_it volume) held place new None inside

  abbrev taken : List (Option (List ℕ))
  taken = set held place (Some volumes)

  abbrev given : List (Option (List ℕ))
  given = set held place None

  pub uses-taken : get_or held place None ≡ None → uses_in taken ≡ with_more_uses volumes (uses_in held)
  uses-taken none = same_number_lists (uses_in taken) (with_more_uses volumes (uses_in held)) (counted-long taken ∙ sym (more-long volumes (uses_in held) ∙ counted-long held)) each
    where
      each : (volume : ℕ) → volume < length (uses_in taken) → get_or (uses_in taken) volume 0 ≡ get_or (with_more_uses volumes (uses_in held)) volume 0
      each volume low =
          let below : volume < 32 = subst (λ n. volume < n) (counted-long taken) low in
          omega (arith, counted taken volume below, counted held volume below, count-held volume None (Some volumes) none, more-at volume volumes (uses_in held) list (counted-long held))

  pub uses-given : get_or held place None ≡ Some volumes → uses_in given ≡ with_fewer_uses volumes (uses_in held)
  uses-given some = same_number_lists (uses_in given) (with_fewer_uses volumes (uses_in held)) (counted-long given ∙ sym (fewer-long volumes (uses_in held) ∙ counted-long held)) each
    where
      each : (volume : ℕ) → volume < length (uses_in given) → get_or (uses_in given) volume 0 ≡ get_or (with_fewer_uses volumes (uses_in held)) volume 0
      each volume low =
          let below : volume < 32 = subst (λ n. volume < n) (counted-long given) low in
          omega (arith, counted given volume below, counted held volume below, count-held volume (Some volumes) None some, fewer-at volume volumes (uses_in held) list (counted-long held))

  pub uses-held : get_or held place None ≡ Some volumes → are_used (uses_in held) volumes ≡ true
  uses-held some = all-among (is_used (uses_in held)) volumes each
    where
      each : (volume : ℕ) → is_among volumes volume ≡ true → is_used (uses_in held) volume ≡ true
      each volume among =
          let one : one_if (uses_it volume (Some volumes)) ≡ 1 = ap one_if among in
          let more : 0 < get_or (uses_in held) volume 0 = omega (arith, one, counted held volume (among-low volumes volume list among), count-held volume (Some volumes) None some) in
          grind (arith, nat_tests, more)

pub uses-room : (held : List (Option (List ℕ))) (volumes : List ℕ) → length held ≡ 8 → is_volume_list volumes ≡ true → are_below_255 (uses_in held) volumes ≡ true
uses-room held volumes eight list = all-among (λ volume. nat_lt (get_or (uses_in held) volume 0) 255) volumes each
  where
    each : (volume : ℕ) → is_among volumes volume ≡ true → nat_lt (get_or (uses_in held) volume 0) 255 ≡ true
    each volume among =
        let few : get_or (uses_in held) volume 0 < 255 = omega (arith, counted held volume (among-low volumes volume list among), count_by-le-length (uses_it volume) held) in
        grind (arith, nat_tests, few)
