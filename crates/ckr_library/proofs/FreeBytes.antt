-- Bytes of a volume lie in no span where the front of the spans that begin before their end reaches no further than their start.
use Rattle.std.proofs.Common.{◌≡◌, ℕ, suc, ◌+◌, ◌<◌, ◌≤◌, ◌==◌, ◌&&◌, ◌||◌, Bool, true, false, cond, IsTrue, nat_le, max, List, [], ◌∷◌, take, filter, refl, ap, sym, ◌∙◌, arith}
use Rattle.std.specs.List.{list_all}
use Rattle.std.proofs.lemmas.Bool.Decides.{nat_tests}
use Rattle.std.proofs.lemmas.Bool.{not-true, and_from, eqb-true}
use Rattle.ckr_base.proofs.Bools.{and-first, and-second}
use Rattle.ckr_library.specs.declared.fronts.Front.{Front}
use Rattle.ckr_library.specs.declared.spread.Span.{Span}
use Rattle.ckr_library.specs.Places.{lead}
use Rattle.ckr_library.specs.Spread.{is_before, is_clear, is_first, is_on, rises, span_end}
use Rattle.ckr_library.specs.Fronts.{fresh, front_on, with_span, front_after, front_of, begins_before}
use Rattle.ckr_library.proofs.Filings.{before_itself, true_not}
use Rattle.ckr_library.proofs.FrontVolumes.{BeginsOn, begins-behind, front_on-itself, front_on-other, front_on-volume, front_after-volume, with_span-volume}

module _ (volume start bytes : ℕ) where
  abbrev begins : Span → Bool
  begins = begins_before volume (start + bytes)

  abbrev clear : Span → Bool
  clear = is_clear start bytes

  -- the front of the volume reaches no further than the start
  abbrev stops : Front → Bool
  stops front = nat_le (front_on volume front).reach start

  -- a span behind one that begins at the end or later is clear
  one_clear : (one other : Span) → begins one ≡ false → is_before other one ≡ false → is_on volume other ≡ true → clear other ≡ true
  one_clear one other e f g = grind (arith, nat_tests)

  later_clear : (one : Span) (spans : List Span) → begins one ≡ false → IsTrue (is_first one spans) → list_all clear (filter (is_on volume) spans) ≡ true
  later_clear one [] e first = refl
  later_clear one (other ∷ spans) e first =
      elim (is_on volume other) as (λ b. is_on volume other ≡ b → list_all clear (cond b (other ∷ filter (is_on volume) spans) (filter (is_on volume) spans)) ≡ true) [
        | true ↦ λ here. (λ i. one_clear one other e (not-true _ (and-first _ _ first)) here i && later_clear one spans e (and-second _ _ first) i)
        | false ↦ λ away. later_clear one spans e (and-second _ _ first)
      ] refl

  -- a span of the volume that begins before the end
  with_span-stops : (span : Span) (front : Front) → front.volume ≡ volume → span.volume ≡ volume → begins span ≡ true → nat_le (front_on volume (with_span span front)).reach start ≡ (clear span && nat_le front.reach start)
  with_span-stops span front is on before =
      ap (λ (f : Front). nat_le f.reach start) (front_on-itself volume (with_span span front) (with_span-volume span front (is ∙ sym on) ∙ on))
      ∙ (elim (span.bytes == 0) as
      (λ b. (nat_le (cond b front (record { volume = span.volume; reach = max front.reach (span_end span); packed = front.packed && nat_le span.start front.reach })).reach start)
      ≡ ((b || (nat_le (span.start + span.bytes) start || nat_le (start + bytes) span.start)) && nat_le front.reach start)) [
        | true ↦ refl
        | false ↦ reaches front.reach span on before
      ])
    where
      reaches : (reach : ℕ) (span : Span) → span.volume ≡ volume → begins span ≡ true → nat_le (max reach (span.start + span.bytes)) start ≡ ((nat_le (span.start + span.bytes) start || nat_le (start + bytes) span.start) && nat_le reach start)
      reaches reach span on before = grind (arith, nat_tests)

  step_on : (front : Front) (span : Span) → is_on volume span ≡ true → begins span ≡ true → stops (front_after front span) ≡ (clear span && stops front)
  step_on front span here before =
      let on : span.volume ≡ volume = eqb-true span.volume volume here in
      with_span-stops span (front_on span.volume front) (front_on-volume span.volume front ∙ on) on before
      ∙ ap (λ v. clear span && nat_le (front_on v front).reach start) on

  -- one of a lower volume
  stops_other : (front : Front) → (front.volume ≡ volume → ⊥) → stops front ≡ true
  stops_other front other = ap (λ (f : Front). nat_le f.reach start) (front_on-other volume front other) ∙ least start
    where
      least : (n : ℕ) → nat_le 0 n ≡ true
      least n = grind (arith, nat_tests)

  lower : (span : Span) → is_on volume span ≡ false → begins span ≡ true → span.volume < volume
  lower span away before = grind (arith, nat_tests)

  step_away : (front : Front) (span : Span) → front.volume ≤ span.volume → is_on volume span ≡ false → begins span ≡ true → stops (front_after front span) ≡ stops front
  step_away front span le away before =
      let low : span.volume < volume = lower span away before in
      stops_other (front_after front span) (λ e. omega (arith, e, low, front_after-volume front span)) ∙ sym (stops_other front (λ e. omega (arith, e, low, le)))

  turned : (c a s : Bool) → ((c && a) && s) ≡ (a && (c && s))
  turned true true s = refl
  turned true false s = refl
  turned false true s = refl
  turned false false s = refl

  -- the bytes are clear of the spans, and of those before them, where the front before their end stops
  pub free-front : (front : Front) (spans : List Span) → IsTrue (rises spans) → BeginsOn front.volume spans
      → (list_all clear (filter (is_on volume) spans) && stops front) ≡ stops (front_of front (take (lead begins spans) spans))
  free-front front [] rise on = refl
  free-front front (span ∷ spans) rise on =
      elim (begins span) as
      (λ b. begins span ≡ b → (list_all clear (filter (is_on volume) (span ∷ spans)) && stops front) ≡ stops (front_of front (take (cond b (suc (lead begins spans)) 0) (span ∷ spans)))) [
        | false ↦ λ past. ap (λ b. b && stops front) (later_clear span (span ∷ spans) past (and_from _ _ (true_not _ (before_itself span)) (and-first _ _ rise)))
        | true ↦ λ before.
            (elim (is_on volume span) as
            (λ b. is_on volume span ≡ b → (list_all clear (cond b (span ∷ filter (is_on volume) spans) (filter (is_on volume) spans)) && stops front) ≡ (list_all clear (filter (is_on volume) spans) && stops (front_after front span))) [
              | true ↦ λ here. turned (clear span) (list_all clear (filter (is_on volume) spans)) (stops front) ∙ ap (λ b. list_all clear (filter (is_on volume) spans) && b) (sym (step_on front span here before))
              | false ↦ λ away. ap (λ b. list_all clear (filter (is_on volume) spans) && b) (sym (step_away front span on away before))
            ]) refl
            ∙ free-front (front_after front span) spans (and-second _ _ rise) (begins-behind front span spans (and-first _ _ rise))
      ] refl

  begins_at_0 : (spans : List Span) → BeginsOn 0 spans
  begins_at_0 [] = tt
  begins_at_0 (span ∷ spans) = omega arith

  and_true : (b : Bool) → b ≡ (b && true)
  and_true true = refl
  and_true false = refl

  pub free-spread : (spans : List Span) → IsTrue (rises spans) → stops (front_of (fresh 0) (take (lead begins spans) spans)) ≡ list_all clear (filter (is_on volume) spans)
  free-spread spans rise =
      sym (and_true (list_all clear (filter (is_on volume) spans)) ∙ ap (λ b. list_all clear (filter (is_on volume) spans) && b) (sym (first_stops (volume)))
      ∙ free-front (fresh 0) spans rise (begins_at_0 spans))
    where
      first_stops : (v : ℕ) → nat_le (front_on v (fresh 0)).reach start ≡ true
      first_stops v =
          elim (0 == v) as (λ b. nat_le (cond b (fresh 0) (fresh v)).reach start ≡ true) [
            | true ↦ least start
            | false ↦ least start
          ]
        where
          least : (n : ℕ) → nat_le 0 n ≡ true
          least n = grind (arith, nat_tests)
