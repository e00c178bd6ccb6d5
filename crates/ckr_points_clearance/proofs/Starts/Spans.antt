-- What is clear of the spans on a volume lies apart from the data sets.
use Rattle.std.proofs.Common.{◌≡◌, ℕ, zero, suc, ◌+◌, ◌*◌, ◌≤◌, ◌==◌, ◌&&◌, ◌||◌, Bool, true, false, not, cond, nat_le, List, [], ◌∷◌, map, flat_map, refl, ap, sym, ◌∙◌, arith}
use Rattle.std.specs.List.{list_all}
use Rattle.std.proofs.Math.Nat.{mul-le-mul_right}
use Rattle.std.proofs.lemmas.Bool.Decides.{nat_tests}
use Rattle.std.proofs.lemmas.List.Folds.{list_all-append}
use Rattle.ckr_base.proofs.Bools.{and-assoc, or-true}
use Rattle.ckr_library.specs.declared.sets.DataSet.{DataSet}
use Rattle.ckr_library.specs.declared.sets.Extent.{Extent}
use Rattle.ckr_library.specs.declared.sets.Part.{Part}
use Rattle.ckr_library.specs.declared.spread.Span.{Span}
use Rattle.ckr_library.specs.Catalog.{Holding}
use Rattle.ckr_library.specs.NameMaps.{EachEntry, Named}
use Rattle.ckr_library.specs.Spread.{filed, filed_all, is_before, is_on, is_clear, span_of, spans_of, spans_of_all, spans_of_part, spread_on}
use Rattle.ckr_points.specs.Follows.{lies_clear}
use Rattle.ckr_points.specs.Rows.{TableSet, holding_of}
use Rattle.ckr_points_tables.specs.View.{seen_by}
use Rattle.ckr_volumes.specs.Places.{StretchModel, end_of, stretch_on, stretches_of, stretches_of_part}
use Rattle.ckr_volumes.specs.Layouts.{are_apart}
use Rattle.ckr_points_clearance.specs.Clearance.{clears}
use Rattle.ckr_points_clearance.proofs.Lists.{all-filtered, all-turned, and-swap}

-- a stretch has no byte of a span of its volume
abbrev pub is_clear_of : ℕ → StretchModel → Span → Bool
is_clear_of lrecl one span =
    (one.records == 0 || span.bytes == 0) || (nat_le (end_of lrecl one) span.start || nat_le (span.start + span.bytes) one.start)

-- ---- a test of all spans

module _ (test : Span → Bool) where
  all-filed : (span : Span) (filing : List Span) → list_all test (filed span filing) ≡ (test span && list_all test filing)
  all-filed span [] = refl
  all-filed span (next ∷ filing) =
      elim (is_before next span) as (λ b. list_all test (cond b (next ∷ filed span filing) (span ∷ next ∷ filing)) ≡ (test span && (test next && list_all test filing))) [
        | true ↦ ap (λ b. test next && b) (all-filed span filing) ∙ and-swap (test next) (test span) (list_all test filing)
        | false ↦ refl
      ]

  all-filed_all : (spans filing : List Span) → list_all test (filed_all spans filing) ≡ (list_all test spans && list_all test filing)
  all-filed_all [] filing = refl
  all-filed_all (span ∷ spans) filing =
      all-filed_all spans (filed span filing)
      ∙ ap (λ b. list_all test spans && b) (all-filed span filing)
      ∙ and-swap (list_all test spans) (test span) (list_all test filing)
      ∙ and-assoc (test span) (list_all test spans) (list_all test filing)

  all-spans : (sets : Named Holding) → list_all test (spans_of_all sets) ≡ list_all (λ entry. list_all test (spans_of entry.1.set)) sets
  all-spans [] = refl
  all-spans (entry ∷ sets) = all-filed_all (spans_of entry.1.set) (spans_of_all sets) ∙ ap (λ b. list_all test (spans_of entry.1.set) && b) (all-spans sets)

-- ---- by the stretches of a data set

module _ (lrecl : ℕ) (test : Span → Bool) (other : StretchModel → Bool) (same : (volume : ℕ) (extent : Extent) → test (span_of lrecl volume extent) ≡ other (stretch_on volume extent)) where
  part-spans : (volume : ℕ) (extents : List Extent) → list_all test (map (span_of lrecl volume) extents) ≡ list_all other (map (stretch_on volume) extents)
  part-spans volume [] = refl
  part-spans volume (extent ∷ extents) = λ i. same volume extent i && part-spans volume extents i

  set-spans : (parts : List Part) → list_all test (flat_map (spans_of_part lrecl) parts) ≡ list_all other (flat_map stretches_of_part parts)
  set-spans [] = refl
  set-spans (part ∷ parts) =
      list_all-append test (spans_of_part lrecl part) (flat_map (spans_of_part lrecl) parts)
      ∙ (λ i. part-spans part.volume part.extents.items i && set-spans parts i)
      ∙ sym (list_all-append other (stretches_of_part part) (flat_map stretches_of_part parts))

none-same : (n k : ℕ) → 1 ≤ k → (n * k == 0) ≡ (n == 0)
none-same zero k some = ap (λ m. m == 0) (none k)
  where
    none : (k : ℕ) → 0 * k ≡ 0
    none k = omega arith
none-same (suc n) k some = differ (suc n * k) (omega (arith, mul-le-mul_right {m = 1} {n = suc n} k (above n), some)) ∙ sym (differ (suc n) (omega arith))
  where
    above : (n : ℕ) → 1 ≤ suc n
    above n = omega arith

    differ : (m : ℕ) → 1 ≤ m → (m == 0) ≡ false
    differ m some = grind (arith, nat_tests)

-- a span of the volume and its stretch
one-same : (lrecl wide : ℕ) (one : StretchModel) → 1 ≤ wide → (volume : ℕ) (extent : Extent) → (not (is_on one.volume (span_of wide volume extent)) || is_clear_of lrecl one (span_of wide volume extent)) ≡ are_apart lrecl wide one (stretch_on volume extent)
one-same lrecl wide one some volume extent =
    ap (λ b. not b || is_clear_of lrecl one (span_of wide volume extent)) (turned volume one.volume)
    ∙ ap (λ b. not (one.volume == volume) || ((one.records == 0 || b) || (nat_le (end_of lrecl one) extent.start || nat_le (extent.start + extent.records * wide) one.start))) (none-same extent.records wide some)
  where
    turned : (a b : ℕ) → (a == b) ≡ (b == a)
    turned a b = grind (arith, nat_tests)

-- what is clear of the spans on its volume lies apart from each data set
pub spread-clears : (sets : Named Holding) (tables : Named TableSet) → sets ≡ seen_by holding_of tables → (lrecl : ℕ) (one : StretchModel) → EachEntry (λ (table : TableSet). 1 ≤ table.set.lrecl) tables → list_all (is_clear_of lrecl one) (spread_on one.volume sets) ≡ clears tables lrecl one
spread-clears sets tables is lrecl one wide =
    all-filtered (is_on one.volume) (is_clear_of lrecl one) (spans_of_all sets)
    ∙ all-spans test sets
    ∙ ap (list_all (λ entry. list_all test (spans_of entry.1.set))) is ∙ each tables wide
  where
    test : Span → Bool
    test span = not (is_on one.volume span) || is_clear_of lrecl one span

    each : (some : Named TableSet) → EachEntry (λ (table : TableSet). 1 ≤ table.set.lrecl) some → list_all (λ entry. list_all test (spans_of entry.1.set)) (seen_by holding_of some) ≡ clears some lrecl one
    each [] wide = refl
    each (entry ∷ some) wide =
        λ i. set-spans entry.1.set.lrecl test (are_apart lrecl entry.1.set.lrecl one) (one-same lrecl entry.1.set.lrecl one wide.0) entry.1.set.parts.items i && each some wide.1 i

-- a stretch is clear of spans where it has no records, or its bytes are outside each of them
free-clears : (lrecl : ℕ) (one : StretchModel) (spans : List Span) → (one.records == 0 || list_all (is_clear one.start (one.records * lrecl)) spans) ≡ list_all (is_clear_of lrecl one) spans
free-clears lrecl one [] = or-true (one.records == 0)
free-clears lrecl one (span ∷ spans) =
    apart (one.records == 0) (is_clear one.start (one.records * lrecl) span) (list_all (is_clear one.start (one.records * lrecl)) spans)
    ∙ (λ i. shape (one.records == 0) (span.bytes == 0) (nat_le (span.start + span.bytes) one.start) (nat_le (end_of lrecl one) span.start) i && free-clears lrecl one spans i)
  where
    apart : (a b c : Bool) → (a || (b && c)) ≡ ((a || b) && (a || c))
    apart true b c = refl
    apart false b c = refl

    shape : (a b c d : Bool) → (a || (b || (c || d))) ≡ ((a || b) || (d || c))
    shape true b c d = refl
    shape false true c d = refl
    shape false false true true = refl
    shape false false true false = refl
    shape false false false true = refl
    shape false false false false = refl

-- a stretch of no records is clear of any
pub clear-none : (lrecl : ℕ) (one : StretchModel) (spans : List Span) → one.records ≡ 0 → (one.records == 0) ≡ list_all (is_clear_of lrecl one) spans
clear-none lrecl one spans none =
    let zero : (one.records == 0) ≡ true = tests one.records none in
    zero ∙ sym (ap (λ b. b || list_all (is_clear one.start (one.records * lrecl)) spans) zero) ∙ free-clears lrecl one spans
  where
    tests : (n : ℕ) → n ≡ 0 → (n == 0) ≡ true
    tests n e = grind (arith, nat_tests)

-- and another one where its bytes are outside each
pub clear-some : (lrecl : ℕ) (one : StretchModel) (spans : List Span) → (one.records ≡ 0 → ⊥) → (bytes : ℕ) → bytes ≡ one.records * lrecl → (free : Bool) → free ≡ list_all (is_clear one.start bytes) spans → free ≡ list_all (is_clear_of lrecl one) spans
clear-some lrecl one spans some bytes is free tells =
    let more : (one.records == 0) ≡ false = tests one.records some in
    tells ∙ ap (λ n. list_all (is_clear one.start n) spans) is ∙ sym (ap (λ b. b || list_all (is_clear one.start (one.records * lrecl)) spans) more) ∙ free-clears lrecl one spans
  where
    tests : (n : ℕ) → (n ≡ 0 → ⊥) → (n == 0) ≡ false
    tests n e = grind (arith, nat_tests)

-- a data set lies clear where each of its stretches does
pub clear-stretches : (sets : Named TableSet) (set : DataSet) → lies_clear sets set ≡ list_all (clears sets set.lrecl) (stretches_of set)
clear-stretches sets set = all-turned (λ entry one. list_all (are_apart set.lrecl entry.1.set.lrecl one) (stretches_of entry.1.set)) sets (stretches_of set)
