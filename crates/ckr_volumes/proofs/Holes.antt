-- The holes that the walk over the spans of a volume finds are the largest runs of bytes in no span.
use Rattle.std.proofs.Common.{◌≡◌, ◌≤◌, ◌<◌, ◌⊎◌, ℕ, ◌+◌, ◌-◌, ◌*◌, ◌/◌, Bool, true, false, cond, ◌||◌, IsTrue, nat_le, eqb, max, List, [], ◌∷◌, ◌++◌, find, Some, None, refl, ap, sym, ◌∙◌, subst, inl, inr, ⊎_elim, arith}
use Rattle.std.specs.List.{list_all}
use Rattle.std.proofs.lemmas.List.{append-nil}
use Rattle.std.proofs.Math.Nat.{mul-le-mul_right}
use Rattle.std.proofs.lemmas.Nat.{le-div}
use Rattle.std.proofs.lemmas.Bool.{and_from, and_parts, leb-false, leb-true, or_cases, or_left, or_right, true≢false}
use Rattle.std.proofs.lemmas.Option.{none-some, same_Some}
use Rattle.ckr_base.proofs.Numbers.{nat_le-from}
use Rattle.ckr_library.specs.declared.spread.Span.{Span}
use Rattle.ckr_library.specs.Spread.{ascends, is_clear, span_end}
use Rattle.ckr_volumes.specs.declared.space.Hole.{Hole}
use Rattle.ckr_volumes.specs.Space.{hole_between, holes_from, room_in, largest, ends_by}
use Rattle.ckr_volumes.specs.Spots.{by_test}

-- each hole of a list has P
abbrev pub EachHole : (Hole → Type 0) → List Hole → Type 0
EachHole P [] = Unit {0}
EachHole P (hole ∷ holes) = P hole × EachHole P holes

each_weaker : (P Q : Hole → Type 0) → ((hole : Hole) → P hole → Q hole) → (holes : List Hole) → EachHole P holes → EachHole Q holes
each_weaker P Q so [] each = tt
each_weaker P Q so (hole ∷ holes) each = (so hole each.0, each_weaker P Q so holes each.1)

each_both : (P : Hole → Type 0) (xs ys : List Hole) → EachHole P xs → EachHole P ys → EachHole P (xs ++ ys)
each_both P [] ys each others = others
each_both P (x ∷ xs) ys each others = (each.0, each_both P xs ys each.1 others)

-- a run of bytes that lies in no span
pub record IsHole (from end : ℕ) (spans : List Span) (hole : Hole) : Type 0 where
  pub low : from ≤ hole.from
  pub some : hole.from < hole.to
  pub high : hole.to ≤ end
  pub clear : IsTrue (list_all (is_clear hole.from (hole.to - hole.from)) spans)

-- bytes before all these spans
clear_before : (from bytes low : ℕ) (spans : List Span) → from + bytes ≤ low → IsTrue (ascends low spans) → IsTrue (list_all (is_clear from bytes) spans)
clear_before from bytes low [] before up = refl
clear_before from bytes low (span ∷ spans) before up =
    let both = and_parts (nat_le low span.start) (ascends span.start spans) up in
    let start : low ≤ span.start = leb-true low span.start both.0 in
    and_from _ _
    (or_right (eqb span.bytes 0) _ (or_right (nat_le (span_end span) from) _ (nat_le-from (from + bytes) span.start (omega (arith, before, start)))))
    (clear_before from bytes span.start spans (omega (arith, before, start)) both.1)

-- a hole in front of a span
first_hole : (from end : ℕ) (span : Span) (spans : List Span) → IsTrue (ends_by end span) → IsTrue (ascends span.start spans) → EachHole (IsHole from end (span ∷ spans)) (hole_between from span.start)
first_hole from end span spans ends up =
    by_test from span.start (λ b. EachHole (IsHole from end (span ∷ spans)) (cond b (record { from = from; to = span.start } ∷ []) []))
    (λ below. (
      record {
        low = omega arith;
        some = below;
        high = omega (arith, leb-true (span_end span) end ends);
        clear = and_from _ _
            (or_right (eqb span.bytes 0) _ (or_right (nat_le (span_end span) from) _ (nat_le-from (from + (span.start - from)) span.start (omega (arith, below)))))
            (clear_before from (span.start - from) span.start spans (omega (arith, below)) up);
      },
      tt,
    ))
    (λ past. tt)

-- a later hole is behind the span
behind_span : (from end : ℕ) (span : Span) (spans : List Span) (hole : Hole) → IsHole (max from (span_end span)) end spans hole → IsHole from end (span ∷ spans) hole
behind_span from end span spans hole is = record {
  low = omega (arith, is.low);
  some = is.some;
  high = is.high;
  clear = and_from _ _ (or_right (eqb span.bytes 0) _ (or_left (nat_le (span_end span) hole.from) _ (nat_le-from (span_end span) hole.from (omega (arith, is.low))))) is.clear;
}

over_empty : (from end : ℕ) (span : Span) (spans : List Span) → IsTrue (eqb span.bytes 0) → (hole : Hole) → IsHole from end spans hole → IsHole from end (span ∷ spans) hole
over_empty from end span spans none hole is = record { low = is.low; some = is.some; high = is.high; clear = and_from _ _ (or_left (eqb span.bytes 0) _ none) is.clear }

up_from : (low high : ℕ) (spans : List Span) → low ≤ high → IsTrue (ascends high spans) → IsTrue (ascends low spans)
up_from low high [] le up = refl
up_from low high (span ∷ spans) le up =
    let both = and_parts (nat_le high span.start) (ascends span.start spans) up in
    and_from _ _ (nat_le-from low span.start (omega (arith, le, leb-true high span.start both.0))) both.1

-- what the walk finds are holes
pub holes-each : (low from end : ℕ) (spans : List Span) → IsTrue (ascends low spans) → IsTrue (list_all (ends_by end) spans) → EachHole (IsHole from end spans) (holes_from from end spans)
holes-each low from end [] up ends =
    by_test from end (λ b. EachHole (IsHole from end []) (cond b (record { from = from; to = end } ∷ []) []))
    (λ below. (record { low = omega arith; some = below; high = omega arith; clear = refl }, tt))
    (λ past. tt)
holes-each low from end (span ∷ spans) up ends =
    let ascend = and_parts (nat_le low span.start) (ascends span.start spans) up in
    let each_ends = and_parts (ends_by end span) (list_all (ends_by end) spans) ends in
    elim (eqb span.bytes 0) as (λ b. eqb span.bytes 0 ≡ b → EachHole (IsHole from end (span ∷ spans)) (cond b (holes_from from end spans) (hole_between from span.start ++ holes_from (max from (span_end span)) end spans))) [
      | true ↦ λ none. each_weaker (IsHole from end spans) (IsHole from end (span ∷ spans)) (over_empty from end span spans none) (holes_from from end spans) (holes-each span.start from end spans ascend.1 each_ends.1)
      | false ↦ λ some. each_both (IsHole from end (span ∷ spans)) (hole_between from span.start) (holes_from (max from (span_end span)) end spans)
          (first_hole from end span spans each_ends.0 ascend.1)
          (each_weaker (IsHole (max from (span_end span)) end spans) (IsHole from end (span ∷ spans)) (behind_span from end span spans) (holes_from (max from (span_end span)) end spans)
          (holes-each span.start (max from (span_end span)) end spans ascend.1 each_ends.1))
    ] refl

-- the hole that a search finds
pub found-each : (P : Hole → Type 0) (test : Hole → Bool) (holes : List Hole) (hole : Hole) → EachHole P holes → find test holes ≡ Some hole → P hole × IsTrue (test hole)
found-each P test [] hole each found = absurd (no found)
  where
    no : None ≡ Some hole → ⊥
    no e = cc
found-each P test (first ∷ rest) hole each found =
    elim (test first) as (λ b. test first ≡ b → cond b (Some first) (find test rest) ≡ Some hole → P hole × IsTrue (test hole)) [
      | true ↦ λ e found. subst (λ (h : Hole). P h × IsTrue (test h)) (same_Some first hole found) (each.0, e)
      | false ↦ λ e found. found-each P test rest hole each.1 found
    ] refl found

-- the largest room is that of a hole
pub largest-each : (P : Hole → Type 0) (lrecl : ℕ) (holes : List Hole) → EachHole P holes → 1 ≤ largest lrecl holes → (hole : Hole) × P hole × (room_in lrecl hole ≡ largest lrecl holes)
largest-each P lrecl [] each some = absurd (omega (arith, some))
largest-each P lrecl (hole ∷ holes) each some =
    by_test (room_in lrecl hole) (largest lrecl holes) (λ b. (found : Hole) × P found × (room_in lrecl found ≡ max (room_in lrecl hole) (largest lrecl holes)))
    (λ less. let rest = largest-each P lrecl holes each.1 (omega (arith, less)) in (rest.0, rest.1, (omega (arith, rest.2, less))))
    (λ more. (hole, each.0, (omega (arith, more))))

-- a run of this many bytes from `at` on that is clear of the first span: it ends where that one starts, or before, or begins behind it
clear_parts : (at bytes : ℕ) (span : Span) → IsTrue (is_clear at bytes span) → eqb span.bytes 0 ≡ false → (span_end span ≤ at) ⊎ (at + bytes ≤ span.start)
clear_parts at bytes span clear some =
    ⊎_elim
    (λ none. absurd (true≢false (sym none ∙ some)))
    (λ near. ⊎_elim
    (λ behind. inl (leb-true (span_end span) at behind))
    (λ before. inr (leb-true (at + bytes) span.start before))
    (or_cases (nat_le (span_end span) at) (nat_le (at + bytes) span.start) near))
    (or_cases (eqb span.bytes 0) (nat_le (span_end span) at || nat_le (at + bytes) span.start) clear)

module _ (lrecl : ℕ) (wide : 1 ≤ lrecl) where
  some_bytes : (records : ℕ) → 1 ≤ records → 1 ≤ records * lrecl
  some_bytes records some = let rows : 1 * lrecl ≤ records * lrecl = mul-le-mul_right lrecl some in omega (arith, rows, wide)

  no_records : (records bytes : ℕ) → records * lrecl ≤ bytes → bytes ≤ 0 → records ≤ 0
  no_records records bytes le none =
      by_test 0 records (λ _. records ≤ 0) (λ some. absurd (omega (arith, some_bytes records some, le, none))) (λ past. past)

  -- the room of a hole in front
  room_first : (from to records : ℕ) (holes : List Hole) → records * lrecl ≤ to - from → records ≤ largest lrecl (hole_between from to ++ holes)
  room_first from to records holes le =
      by_test from to (λ b. records ≤ largest lrecl (cond b (record { from = from; to = to } ∷ []) [] ++ holes))
      (λ below. let room : records ≤ (to - from) / lrecl = le-div records (to - from) lrecl wide le in omega (arith, room))
      (λ past. let none : records ≤ 0 = no_records records (to - from) le (omega (arith, past)) in omega (arith, none))

  -- the room of the later ones
  room_later : (from to : ℕ) (holes : List Hole) → largest lrecl holes ≤ largest lrecl (hole_between from to ++ holes)
  room_later from to holes =
      by_test from to (λ b. largest lrecl holes ≤ largest lrecl (cond b (record { from = from; to = to } ∷ []) [] ++ holes))
      (λ below. omega arith)
      (λ past. omega arith)

  -- free bytes hold at most as many records as the largest hole
  pub largest-most : (from end : ℕ) (spans : List Span) (at records : ℕ) → from ≤ at → at + records * lrecl ≤ end → IsTrue (list_all (is_clear at (records * lrecl)) spans) → records ≤ largest lrecl (holes_from from end spans)
  largest-most from end [] at records low high clear =
      subst (λ holes. records ≤ largest lrecl holes) (append-nil (hole_between from end)) (room_first from end records [] (omega (arith, low, high)))
  largest-most from end (span ∷ spans) at records low high clear =
      let both = and_parts (is_clear at (records * lrecl) span) (list_all (is_clear at (records * lrecl)) spans) clear in
      elim (eqb span.bytes 0) as (λ b. eqb span.bytes 0 ≡ b → records ≤ largest lrecl (cond b (holes_from from end spans) (hole_between from span.start ++ holes_from (max from (span_end span)) end spans))) [
        | true ↦ λ none. largest-most from end spans at records low high both.1
        | false ↦ λ some. ⊎_elim
            (λ behind.
            let rest = largest-most (max from (span_end span)) end spans at records (omega (arith, low, behind)) high both.1 in
            omega (arith, rest, room_later from span.start (holes_from (max from (span_end span)) end spans)))
            (λ before. room_first from span.start records (holes_from (max from (span_end span)) end spans) (omega (arith, low, before)))
            (clear_parts at (records * lrecl) span both.0 some)
      ] refl

  -- the first hole of so much room, or one behind it
  first_found : (from to at records : ℕ) (holes : List Hole) (hole : Hole) → 1 ≤ records → from ≤ at
      → ((to < at + records * lrecl) → find (λ h. nat_le records (room_in lrecl h)) holes ≡ Some hole → hole.from ≤ at)
      → find (λ h. nat_le records (room_in lrecl h)) (hole_between from to ++ holes) ≡ Some hole → hole.from ≤ at
  first_found from to at records holes hole some low later found =
      by_test from to (λ b. find (λ h. nat_le records (room_in lrecl h)) (cond b (record { from = from; to = to } ∷ []) [] ++ holes) ≡ Some hole → hole.from ≤ at)
      (λ below. (elim (nat_le records ((to - from) / lrecl)) as (λ b. nat_le records ((to - from) / lrecl) ≡ b → cond b (Some (record { from = from; to = to })) (find (λ h. nat_le records (room_in lrecl h)) holes) ≡ Some hole → hole.from ≤ at) [
        | true ↦ λ holds is. subst (λ (h : Hole). h.from ≤ at) (same_Some _ hole is) low
        | false ↦ λ small is. by_test to (at + records * lrecl) (λ _. hole.from ≤ at)
            (λ short. later short is)
            (λ long. absurd (omega (arith, le-div records (to - from) lrecl wide (omega (arith, long, low)), leb-false records ((to - from) / lrecl) small)))
      ]) refl)
      (λ past is. later (omega (arith, past, low, some_bytes records some)) is)
      found

  -- the lowest hole of so much room begins at or before all free bytes that hold the records
  pub lowest-found : (from end : ℕ) (spans : List Span) (at records : ℕ) (hole : Hole) → 1 ≤ records → from ≤ at → at + records * lrecl ≤ end → IsTrue (list_all (is_clear at (records * lrecl)) spans)
      → find (λ h. nat_le records (room_in lrecl h)) (holes_from from end spans) ≡ Some hole → hole.from ≤ at
  lowest-found from end [] at records hole some low high clear found =
      first_found from end at records [] hole some low (λ short none. absurd (none-some hole none))
      (ap (find (λ h. nat_le records (room_in lrecl h))) (append-nil (hole_between from end)) ∙ found)
  lowest-found from end (span ∷ spans) at records hole some low high clear found =
      let both = and_parts (is_clear at (records * lrecl) span) (list_all (is_clear at (records * lrecl)) spans) clear in
      elim (eqb span.bytes 0) as (λ b. eqb span.bytes 0 ≡ b → find (λ h. nat_le records (room_in lrecl h)) (cond b (holes_from from end spans) (hole_between from span.start ++ holes_from (max from (span_end span)) end spans)) ≡ Some hole → hole.from ≤ at) [
        | true ↦ λ none is. lowest-found from end spans at records hole some low high both.1 is
        | false ↦ λ bytes is. first_found from span.start at records (holes_from (max from (span_end span)) end spans) hole some low
            (λ short later. ⊎_elim
            (λ behind. lowest-found (max from (span_end span)) end spans at records hole some (omega (arith, low, behind)) high both.1 later)
            (λ before. absurd (omega (arith, before, short)))
            (clear_parts at (records * lrecl) span both.0 bytes))
            is
      ] refl found

-- fewer bytes of a run in no span
pub clear_fewer : (at bytes fewer : ℕ) (spans : List Span) → fewer ≤ bytes → IsTrue (list_all (is_clear at bytes) spans) → IsTrue (list_all (is_clear at fewer) spans)
clear_fewer at bytes fewer [] le clear = refl
clear_fewer at bytes fewer (span ∷ spans) le clear =
    let both = and_parts (is_clear at bytes span) (list_all (is_clear at bytes) spans) clear in
    and_from _ _
    (⊎_elim
    (λ none. or_left (eqb span.bytes 0) _ none)
    (λ near. or_right (eqb span.bytes 0) _ (⊎_elim
    (λ behind. or_left (nat_le (span_end span) at) _ behind)
    (λ before. or_right (nat_le (span_end span) at) _ (nat_le-from (at + fewer) span.start (omega (arith, leb-true (at + bytes) span.start before, le))))
    (or_cases (nat_le (span_end span) at) (nat_le (at + bytes) span.start) near)))
    (or_cases (eqb span.bytes 0) (nat_le (span_end span) at || nat_le (at + bytes) span.start) both.0))
    (clear_fewer at bytes fewer spans le both.1)

-- where no hole holds the records, the largest doesn't
pub none-found : (lrecl records : ℕ) (holes : List Hole) → 1 ≤ records → find (λ h. nat_le records (room_in lrecl h)) holes ≡ None → largest lrecl holes < records
none-found lrecl records [] some none = some
none-found lrecl records (hole ∷ holes) some none =
    elim (nat_le records (room_in lrecl hole)) as (λ b. nat_le records (room_in lrecl hole) ≡ b → cond b (Some hole) (find (λ h. nat_le records (room_in lrecl h)) holes) ≡ None → max (room_in lrecl hole) (largest lrecl holes) < records) [
      | true ↦ λ holds is. absurd (none-some hole (sym is))
      | false ↦ λ small is. omega (arith, leb-false records (room_in lrecl hole) small, none-found lrecl records holes some is)
    ] refl none

-- no bytes are in no span
pub clear_none : (spans : List Span) → IsTrue (list_all (is_clear 0 0) spans)
clear_none [] = refl
clear_none (span ∷ spans) = and_from _ _ (or_right (eqb span.bytes 0) _ (or_right (nat_le (span_end span) 0) _ (nat_le-from 0 span.start (omega arith)))) (clear_none spans)
