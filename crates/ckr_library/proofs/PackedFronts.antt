-- The spans of a volume that follow on one another are those whose fronts have no hole, and they come first.
use Rattle.std.proofs.Common.{◌≡◌, ℕ, zero, suc, ◌+◌, ◌-◌, ◌<◌, ◌≤◌, ◌==◌, ◌&&◌, ◌||◌, Bool, true, false, cond, IsTrue, nat_le, nat_lt, max, List, [], ◌∷◌, length, take, drop, filter, refl, ap, sym, ◌∙◌, subst, arith, slice_index_or}
use Rattle.std.specs.List.Sorted.{IsPartitionedBy}
use Rattle.std.proofs.lemmas.Bool.Decides.{nat_tests}
use Rattle.std.proofs.lemmas.Bool.{eqb-true}
use Rattle.ckr_base.proofs.Bools.{and-first, and-second, true-not-false}
use Rattle.ckr_library.specs.declared.fronts.Front.{Front}
use Rattle.ckr_library.specs.declared.spread.Span.{Span}
use Rattle.ckr_library.specs.Places.{lead}
use Rattle.ckr_library.specs.Spread.{behind_packed, is_at_most, is_below, is_on, packed_to, rises, span_end}
use Rattle.ckr_library.specs.Fronts.{fresh, front_on, with_span, front_after, fronts_from, front_of, is_packed_on, AreSpread}
use Rattle.ckr_library.proofs.Filings.{none_on, spans_between}
use Rattle.ckr_library.proofs.FrontVolumes.{BeginsOn, begins-behind, front_on-itself, front_on-other, front_on-volume, front_after-volume, with_span-volume}

module _ (volume : ℕ) where
  abbrev packed : Front → Bool
  packed = is_packed_on volume

  -- where a front has no hole, none before it has one
  packed_back : (front : Front) (span : Span) → front.volume ≤ span.volume → packed (front_after front span) ≡ true → packed front ≡ true
  packed_back front span le holds =
      elim (front.volume == span.volume) as
      (λ b. front.volume == span.volume ≡ b → packed (with_span span (cond b front (fresh span.volume))) ≡ true → packed front ≡ true) [
        | true ↦ λ same holds. with_back front span (eqb-true front.volume span.volume same) holds
        | false ↦ λ other holds. below front span le other (with_volume span (fresh span.volume) refl holds)
      ] refl holds
    where
      with_volume : (span : Span) (front : Front) → front.volume ≡ span.volume → packed (with_span span front) ≡ true → span.volume ≤ volume
      with_volume span front is holds = at_most (with_span span front) span.volume (with_span-volume span front is) holds
        where
          at_most : (front : Front) (v : ℕ) → front.volume ≡ v → packed front ≡ true → v ≤ volume
          at_most front v is holds = grind (arith, nat_tests)

      below : (front : Front) (span : Span) → front.volume ≤ span.volume → (front.volume == span.volume) ≡ false → span.volume ≤ volume → packed front ≡ true
      below front span le other most = grind (arith, nat_tests)

      with_back : (front : Front) (span : Span) → front.volume ≡ span.volume → packed (with_span span front) ≡ true → packed front ≡ true
      with_back front span is holds =
          elim (span.bytes == 0) as
          (λ b. packed (cond b front (record { volume = span.volume; reach = max front.reach (span_end span); packed = front.packed && nat_le span.start front.reach })) ≡ true → packed front ≡ true) [
            | true ↦ λ holds. holds
            | false ↦ λ holds. longer front span.volume (nat_le span.start front.reach) is holds
          ] holds
        where
          longer : (front : Front) (v : ℕ) (b : Bool) → front.volume ≡ v → (nat_lt v volume || (v == volume && (front.packed && b))) ≡ true → packed front ≡ true
          longer front v b is holds = grind (arith, nat_tests)

  -- the front before any of these has no hole, if one of them has none
  first_packed : (front : Front) (spans : List Span) → IsTrue (rises spans) → BeginsOn front.volume spans → (j : ℕ) (d : Front) → j < length (fronts_from front spans) → packed (slice_index_or (fronts_from front spans) j d) ≡ true → packed front ≡ true
  first_packed front [] rise on j d inside holds = absurd (omega (arith, inside))
  first_packed front (span ∷ spans) rise on zero d inside holds = packed_back front span on holds
  first_packed front (span ∷ spans) rise on (suc j) d inside holds =
      packed_back front span on
      (first_packed (front_after front span) spans (and-second _ _ rise) (begins-behind front span spans (and-first _ _ rise)) j d (omega (arith, inside)) holds)

  pub parted_packed : (front : Front) (spans : List Span) → IsTrue (rises spans) → BeginsOn front.volume spans → IsPartitionedBy packed (fronts_from front spans)
  parted_packed front [] rise on i j d le inside holds = absurd (omega (arith, inside))
  parted_packed front (span ∷ spans) rise on zero zero d le inside holds = holds
  parted_packed front (span ∷ spans) rise on zero (suc j) d le inside holds =
      first_packed (front_after front span) spans (and-second _ _ rise) (begins-behind front span spans (and-first _ _ rise)) j d (omega (arith, inside)) holds
  parted_packed front (span ∷ spans) rise on (suc i) zero d le inside holds = absurd (omega (arith, le))
  parted_packed front (span ∷ spans) rise on (suc i) (suc j) d le inside holds =
      parted_packed (front_after front span) spans (and-second _ _ rise) (begins-behind front span spans (and-first _ _ rise)) i j d (omega (arith, le)) (omega (arith, inside)) holds

  -- a front with no hole is of the volume or of a lower one
  at_most_of : (front : Front) (span : Span) → packed (front_after front span) ≡ true → is_at_most volume span ≡ true
  at_most_of front span holds = by (front_after front span) span (front_after-volume front span) holds
    where
      by : (front : Front) (span : Span) → front.volume ≡ span.volume → packed front ≡ true → is_at_most volume span ≡ true
      by front span is holds = grind (arith, nat_tests)

  pub packed-le-at_most : (front : Front) (spans : List Span) → lead packed (fronts_from front spans) ≤ lead (is_at_most volume) spans
  packed-le-at_most front [] = omega arith
  packed-le-at_most front (span ∷ spans) =
      elim (packed (front_after front span)) as
      (λ b. packed (front_after front span) ≡ b → cond b (suc (lead packed (fronts_from (front_after front span) spans))) 0 ≤ cond (is_at_most volume span) (suc (lead (is_at_most volume) spans)) 0) [
        | true ↦ λ e. let most : is_at_most volume span ≡ true = at_most_of front span e in
            rw most (omega (arith, packed-le-at_most (front_after front span) spans))
        | false ↦ λ e. omega arith
      ] refl

  -- a front with no hole has none on the volume
  good_of : (front : Front) → packed front ≡ true → (front_on volume front).packed ≡ true
  good_of front holds =
      elim (front.volume == volume) as (λ b. (nat_lt front.volume volume || (b && front.packed)) ≡ true → front.volume == volume ≡ b → (cond b front (fresh volume)).packed ≡ true) [
        | true ↦ λ holds same. here front.volume front.packed (eqb-true front.volume volume same) holds
        | false ↦ λ holds other. refl
      ] holds refl
    where
      here : (v : ℕ) (b : Bool) → v ≡ volume → (nat_lt v volume || (true && b)) ≡ true → b ≡ true
      here v true same holds = refl
      here v false same holds = grind (arith, nat_tests)

  -- one more span of the volume
  module _ (front : Front) (span : Span) (here : is_on volume span ≡ true) where
    same : span.volume ≡ volume
    same = eqb-true span.volume volume here

    after : front_after front span ≡ with_span span (front_on volume front)
    after = ap (λ v. with_span span (front_on v front)) same

    on_after : front_on volume (front_after front span) ≡ with_span span (front_on volume front)
    on_after = front_on-itself volume (front_after front span) (front_after-volume front span ∙ same) ∙ after

    step-reach : (front_on volume (front_after front span)).reach ≡ cond (span.bytes == 0) (front_on volume front).reach (max (front_on volume front).reach (span.start + span.bytes))
    step-reach = ap (λ (f : Front). f.reach) on_after ∙ by (front_on volume front)
      where
        by : (f : Front) → (with_span span f).reach ≡ cond (span.bytes == 0) f.reach (max f.reach (span.start + span.bytes))
        by f =
            elim (span.bytes == 0) as
            (λ b. (cond b f (record { volume = span.volume; reach = max f.reach (span_end span); packed = f.packed && nat_le span.start f.reach })).reach ≡ cond b f.reach (max f.reach (span.start + span.bytes))) [
              | true ↦ refl
              | false ↦ refl
            ]

    step-packed : (front_on volume front).packed ≡ true → packed (front_after front span) ≡ (span.bytes == 0 || nat_le span.start (front_on volume front).reach)
    step-packed good = ap packed after ∙ by (front_on volume front) (front_on-volume volume front) good
      where
        whole : (v : ℕ) (b : Bool) → v ≡ volume → b ≡ true → (nat_lt v volume || (v == volume && b)) ≡ true
        whole v b is good = grind (arith, nat_tests)

        part : (v : ℕ) (b t : Bool) → v ≡ volume → b ≡ true → (nat_lt v volume || (v == volume && (b && t))) ≡ t
        part v b true is good = grind (arith, nat_tests)
        part v b false is good = grind (arith, nat_tests)

        by : (f : Front) → f.volume ≡ volume → f.packed ≡ true → packed (with_span span f) ≡ (span.bytes == 0 || nat_le span.start f.reach)
        by f is good =
            elim (span.bytes == 0) as
            (λ b. packed (cond b f (record { volume = span.volume; reach = max f.reach (span_end span); packed = f.packed && nat_le span.start f.reach })) ≡ (b || nat_le span.start f.reach)) [
              | true ↦ whole f.volume f.packed is good
              | false ↦ part span.volume f.packed (nat_le span.start f.reach) same good
            ]

  -- one more span of a lower volume
  step-lower : (front : Front) (span : Span) → front.volume ≤ span.volume → is_on volume span ≡ false → packed (front_after front span) ≡ true → (front_on volume (front_after front span)).reach ≡ (front_on volume front).reach
  step-lower front span le away holds =
      let low : span.volume < volume = lower span (at_most_of front span holds) away in
      ap (λ (f : Front). f.reach) (front_on-other volume (front_after front span) (λ e. omega (arith, e, low, front_after-volume front span)) ∙ sym (front_on-other volume front (λ e. omega (arith, e, low, le))))
    where
      lower : (span : Span) → is_at_most volume span ≡ true → is_on volume span ≡ false → span.volume < volume
      lower span most away = grind (arith, nat_tests)

  -- where a front has a hole, its span isn't on a lower volume
  not_below : (front : Front) (span : Span) → packed (front_after front span) ≡ false → is_below volume span ≡ false
  not_below front span holds = by (front_after front span) span (front_after-volume front span) holds
    where
      by : (front : Front) (span : Span) → front.volume ≡ span.volume → packed front ≡ false → is_below volume span ≡ false
      by front span is holds = grind (arith, nat_tests)

  above : (span : Span) → is_below volume span ≡ false → is_on volume span ≡ false → volume < span.volume
  above span below away = grind (arith, nat_tests)

  -- the two walks, over one more span that leaves no hole, and over one that does
  packed_more : (r s : ℕ) (span : Span) (spans : List Span) (none fits : Bool) → (none || fits) ≡ true → s ≡ cond none r (max r (span.start + span.bytes))
      → packed_to s spans ≡ cond none (packed_to r spans) (cond fits (packed_to (max r (span.start + span.bytes)) spans) r)
  packed_more r s span spans true fits holds is = ap (λ n. packed_to n spans) is
  packed_more r s span spans false true holds is = ap (λ n. packed_to n spans) is
  packed_more r s span spans false false holds is = true-not-false (sym holds)

  behind_more : (r s : ℕ) (span : Span) (spans : List Span) (none fits : Bool) → (none || fits) ≡ true → s ≡ cond none r (max r (span.start + span.bytes))
      → behind_packed s spans ≡ cond none (behind_packed r spans) (cond fits (behind_packed (max r (span.start + span.bytes)) spans) (span ∷ spans))
  behind_more r s span spans true fits holds is = ap (λ n. behind_packed n spans) is
  behind_more r s span spans false true holds is = ap (λ n. behind_packed n spans) is
  behind_more r s span spans false false holds is = true-not-false (sym holds)

  packed_end : (r : ℕ) (span : Span) (spans : List Span) (none fits : Bool) → (none || fits) ≡ false → r ≡ cond none (packed_to r spans) (cond fits (packed_to (max r (span.start + span.bytes)) spans) r)
  packed_end r span spans true fits holds = true-not-false holds
  packed_end r span spans false true holds = true-not-false holds
  packed_end r span spans false false holds = refl

  behind_end : (r : ℕ) (span : Span) (spans : List Span) (none fits : Bool) → (none || fits) ≡ false → span ∷ spans ≡ cond none (behind_packed r spans) (cond fits (behind_packed (max r (span.start + span.bytes)) spans) (span ∷ spans))
  behind_end r span spans true fits holds = true-not-false holds
  behind_end r span spans false true holds = true-not-false holds
  behind_end r span spans false false holds = refl

  -- up to where the spans follow on one another
  pub packed-reach : (front : Front) (spans : List Span) → IsTrue (rises spans) → BeginsOn front.volume spans → (front_on volume front).packed ≡ true
      → (front_on volume (front_of front (take (lead packed (fronts_from front spans)) spans))).reach ≡ packed_to (front_on volume front).reach (filter (is_on volume) spans)
  packed-reach front [] rise on good = refl
  packed-reach front (span ∷ spans) rise on good =
      elim (packed (front_after front span)) as
      (λ b. packed (front_after front span) ≡ b → (front_on volume (front_of front (take (cond b (suc (lead packed (fronts_from (front_after front span) spans))) 0) (span ∷ spans)))).reach ≡ packed_to (front_on volume front).reach (filter (is_on volume) (span ∷ spans))) [
        | true ↦ λ e.
            packed-reach (front_after front span) spans (and-second _ _ rise) (begins-behind front span spans (and-first _ _ rise)) (good_of (front_after front span) e)
            ∙ (elim (is_on volume span) as
            (λ b. is_on volume span ≡ b → packed_to (front_on volume (front_after front span)).reach (filter (is_on volume) spans) ≡ packed_to (front_on volume front).reach (cond b (span ∷ filter (is_on volume) spans) (filter (is_on volume) spans))) [
              | true ↦ λ here. packed_more (front_on volume front).reach (front_on volume (front_after front span)).reach span (filter (is_on volume) spans) (span.bytes == 0) (nat_le span.start (front_on volume front).reach)
                  (sym (step-packed front span here good) ∙ e) (step-reach front span here)
              | false ↦ λ away. ap (λ n. packed_to n (filter (is_on volume) spans)) (step-lower front span on away e)
            ]) refl
        | false ↦ λ e.
            (elim (is_on volume span) as
            (λ b. is_on volume span ≡ b → (front_on volume front).reach ≡ packed_to (front_on volume front).reach (cond b (span ∷ filter (is_on volume) spans) (filter (is_on volume) spans))) [
              | true ↦ λ here. packed_end (front_on volume front).reach span (filter (is_on volume) spans) (span.bytes == 0) (nat_le span.start (front_on volume front).reach)
                  (sym (step-packed front span here good) ∙ e)
              | false ↦ λ away. sym (ap (packed_to (front_on volume front).reach) (none_on volume span spans (above span (not_below front span e) away) (and-first _ _ rise)))
            ]) refl
      ] refl

  one_less : (n p : ℕ) (spans : List Span) → take (suc n - suc p) spans ≡ take (n - p) spans
  one_less n p spans = let less : suc n - suc p ≡ n - p = omega arith in ap (λ k. take k spans) less

  -- and the spans behind
  pub packed-rest : (front : Front) (spans : List Span) → IsTrue (rises spans) → BeginsOn front.volume spans → (front_on volume front).packed ≡ true
      → take (lead (is_at_most volume) spans - lead packed (fronts_from front spans)) (drop (lead packed (fronts_from front spans)) spans) ≡ behind_packed (front_on volume front).reach (filter (is_on volume) spans)
  packed-rest front [] rise on good = take_nothing (0 - 0)
    where
      take_nothing : (n : ℕ) → ◌≡◌ {A = List Span} (take n []) []
      take_nothing zero = refl
      take_nothing (suc n) = refl
  packed-rest front (span ∷ spans) rise on good =
      elim (packed (front_after front span)) as
      (λ b. packed (front_after front span) ≡ b →
      (let place = cond b (suc (lead packed (fronts_from (front_after front span) spans))) 0 in
      take (lead (is_at_most volume) (span ∷ spans) - place) (drop place (span ∷ spans)) ≡ behind_packed (front_on volume front).reach (filter (is_on volume) (span ∷ spans)))) [
        | true ↦ λ e.
            ap (λ b. take (cond b (suc (lead (is_at_most volume) spans)) 0 - suc (lead packed (fronts_from (front_after front span) spans))) (drop (lead packed (fronts_from (front_after front span) spans)) spans)) (at_most_of front span e)
            ∙ one_less (lead (is_at_most volume) spans) (lead packed (fronts_from (front_after front span) spans)) (drop (lead packed (fronts_from (front_after front span) spans)) spans)
            ∙ packed-rest (front_after front span) spans (and-second _ _ rise) (begins-behind front span spans (and-first _ _ rise)) (good_of (front_after front span) e)
            ∙ (elim (is_on volume span) as
            (λ b. is_on volume span ≡ b → behind_packed (front_on volume (front_after front span)).reach (filter (is_on volume) spans) ≡ behind_packed (front_on volume front).reach (cond b (span ∷ filter (is_on volume) spans) (filter (is_on volume) spans))) [
              | true ↦ λ here. behind_more (front_on volume front).reach (front_on volume (front_after front span)).reach span (filter (is_on volume) spans) (span.bytes == 0) (nat_le span.start (front_on volume front).reach)
                  (sym (step-packed front span here good) ∙ e) (step-reach front span here)
              | false ↦ λ away. ap (λ n. behind_packed n (filter (is_on volume) spans)) (step-lower front span on away e)
            ]) refl
        | false ↦ λ e.
            spans_between volume (span ∷ spans) rise 0 (lead (is_at_most volume) (span ∷ spans)) (sym (ap (λ b. cond b (suc (lead (is_below volume) spans)) 0) (not_below front span e))) refl
            ∙ (elim (is_on volume span) as
            (λ b. is_on volume span ≡ b → cond b (span ∷ filter (is_on volume) spans) (filter (is_on volume) spans) ≡ behind_packed (front_on volume front).reach (cond b (span ∷ filter (is_on volume) spans) (filter (is_on volume) spans))) [
              | true ↦ λ here. behind_end (front_on volume front).reach span (filter (is_on volume) spans) (span.bytes == 0) (nat_le span.start (front_on volume front).reach)
                  (sym (step-packed front span here good) ∙ e)
              | false ↦ λ away.
                  let none = none_on volume span spans (above span (not_below front span e) away) (and-first _ _ rise) in
                  none ∙ sym (ap (behind_packed (front_on volume front).reach) none)
            ]) refl
      ] refl

  begins_at_0 : (spans : List Span) → BeginsOn 0 spans
  begins_at_0 [] = tt
  begins_at_0 (span ∷ spans) = omega arith

  first_front : (v : ℕ) → ((front_on v (fresh 0)).packed ≡ true) × ((front_on v (fresh 0)).reach ≡ 0)
  first_front v =
      elim (0 == v) as (λ b. ((cond b (fresh 0) (fresh v)).packed ≡ true) × ((cond b (fresh 0) (fresh v)).reach ≡ 0)) [
        | true ↦ (refl, refl)
        | false ↦ (refl, refl)
      ]

  -- in a spread
  module _ (spans : List Span) (fronts : List Front) (is : AreSpread spans fronts) where
    pub spread-parted : IsPartitionedBy packed fronts
    spread-parted = subst (λ some. IsPartitionedBy packed some) (sym is.stand) (parted_packed (fresh 0) spans is.rise (begins_at_0 spans))

    pub spread-order : lead packed fronts ≤ lead (is_at_most volume) spans
    spread-order = subst (λ some. lead packed some ≤ lead (is_at_most volume) spans) (sym is.stand) (packed-le-at_most (fresh 0) spans)

    pub spread-reach : (front_on volume (front_of (fresh 0) (take (lead packed fronts) spans))).reach ≡ packed_to 0 (filter (is_on volume) spans)
    spread-reach =
        ap (λ some. (front_on volume (front_of (fresh 0) (take (lead packed some) spans))).reach) is.stand
        ∙ packed-reach (fresh 0) spans is.rise (begins_at_0 spans) (first_front volume).0
        ∙ ap (λ n. packed_to n (filter (is_on volume) spans)) (first_front volume).1

    pub spread-rest : take (lead (is_at_most volume) spans - lead packed fronts) (drop (lead packed fronts) spans) ≡ behind_packed 0 (filter (is_on volume) spans)
    spread-rest =
        ap (λ some. take (lead (is_at_most volume) spans - lead packed some) (drop (lead packed some) spans)) is.stand
        ∙ packed-rest (fresh 0) spans is.rise (begins_at_0 spans) (first_front volume).0
        ∙ ap (λ n. behind_packed n (filter (is_on volume) spans)) (first_front volume).1
