-- Fronts of spans whose volumes rise.
use Rattle.std.proofs.Common.{◌≡◌, ℕ, ◌≤◌, ◌==◌, ◌&&◌, true, false, cond, IsTrue, nat_le, max, List, [], ◌∷◌, refl, ap, arith}
use Rattle.std.proofs.lemmas.Bool.Decides.{nat_tests}
use Rattle.std.proofs.lemmas.Bool.{not-true, eqb-true}
use Rattle.ckr_base.proofs.Bools.{and-first}
use Rattle.ckr_library.specs.declared.fronts.Front.{Front}
use Rattle.ckr_library.specs.declared.spread.Span.{Span}
use Rattle.ckr_library.specs.Spread.{is_first, span_end}
use Rattle.ckr_library.specs.Fronts.{fresh, front_on, with_span, front_after}
use Rattle.ckr_library.proofs.Filings.{volumes_rise}

-- the first span lies on this volume or on a higher one
abbrev pub BeginsOn : ℕ → List Span → Type 0
BeginsOn volume [] = Unit {0}
BeginsOn volume (span ∷ spans) = volume ≤ span.volume

-- the front of a volume is of that volume
pub front_on-volume : (volume : ℕ) (front : Front) → (front_on volume front).volume ≡ volume
front_on-volume volume front =
    elim (front.volume == volume) as (λ b. front.volume == volume ≡ b → (cond b front (fresh volume)).volume ≡ volume) [
      | true ↦ λ same. eqb-true front.volume volume same
      | false ↦ λ other. refl
    ] refl

-- and a further span of the volume leaves it so
pub with_span-volume : (span : Span) (front : Front) → front.volume ≡ span.volume → (with_span span front).volume ≡ span.volume
with_span-volume span front is =
    elim (span.bytes == 0) as
    (λ b. (cond b front (record { volume = span.volume; reach = max front.reach (span_end span); packed = front.packed && nat_le span.start front.reach })).volume ≡ span.volume) [
      | true ↦ is
      | false ↦ refl
    ]

pub front_after-volume : (front : Front) (span : Span) → (front_after front span).volume ≡ span.volume
front_after-volume front span = with_span-volume span (front_on span.volume front) (front_on-volume span.volume front)

-- of a front of the volume nothing changes
pub front_on-itself : (volume : ℕ) (front : Front) → front.volume ≡ volume → front_on volume front ≡ front
front_on-itself volume front is = ap (λ b. cond b front (fresh volume)) (tests front.volume volume is)
  where
    tests : (a b : ℕ) → a ≡ b → (a == b) ≡ true
    tests a b e = grind (arith, nat_tests)

-- a front of another volume tells nothing
pub front_on-other : (volume : ℕ) (front : Front) → (front.volume ≡ volume → ⊥) → front_on volume front ≡ fresh volume
front_on-other volume front other = ap (λ b. cond b front (fresh volume)) (tests front.volume volume other)
  where
    tests : (a b : ℕ) → (a ≡ b → ⊥) → (a == b) ≡ false
    tests a b e = grind (arith, nat_tests)

-- the spans behind a front begin on its volume or on a higher one
pub begins-behind : (front : Front) (span : Span) (spans : List Span) → IsTrue (is_first span spans) → BeginsOn (front_after front span).volume spans
begins-behind front span [] first = tt
begins-behind front span (next ∷ spans) first =
    omega (arith, front_after-volume front span, volumes_rise span next (not-true _ (and-first _ _ first)))
