-- Spans that follow on one another leave no hole: the holes are those behind them.
use Rattle.std.proofs.Common.{◌≡◌, ◌≤◌, ℕ, true, false, cond, IsTrue, nat_le, nat_lt, eqb, max, List, [], ◌∷◌, ◌++◌, refl, ap, ◌∙◌, arith}
use Rattle.std.specs.List.{list_all}
use Rattle.std.proofs.lemmas.Bool.{and_parts, leb-true}
use Rattle.std.proofs.lemmas.Bool.Decides.{nat_tests}
use Rattle.ckr_library.specs.declared.spread.Span.{Span}
use Rattle.ckr_library.specs.Spread.{behind_packed, packed_to, span_end}
use Rattle.ckr_volumes.specs.Space.{ends_by, hole_between, holes_from}

-- no hole up to a byte that isn't behind
no_hole : (from to : ℕ) → nat_le to from ≡ true → hole_between from to ≡ []
no_hole from to e = ap (λ b. cond b (record { from = from; to = to } ∷ []) []) (tests from to e)
  where
    tests : (a b : ℕ) → nat_le b a ≡ true → nat_lt a b ≡ false
    tests a b e = grind (arith, nat_tests)

-- the holes of all spans are those from the first hole on
pub holes-packed : (from end : ℕ) (spans : List Span) → holes_from from end spans ≡ holes_from (packed_to from spans) end (behind_packed from spans)
holes-packed from end [] = refl
holes-packed from end (span ∷ spans) =
    elim (eqb span.bytes 0) as
    (λ b. eqb span.bytes 0 ≡ b → holes_from from end (span ∷ spans)
    ≡ holes_from (cond b (packed_to from spans) (cond (nat_le span.start from) (packed_to (max from (span_end span)) spans) from)) end
    (cond b (behind_packed from spans) (cond (nat_le span.start from) (behind_packed (max from (span_end span)) spans) (span ∷ spans)))) [
      | true ↦ λ none. ap (λ b. cond b (holes_from from end spans) (hole_between from span.start ++ holes_from (max from (span_end span)) end spans)) none ∙ holes-packed from end spans
      | false ↦ λ some.
          (elim (nat_le span.start from) as
          (λ b. nat_le span.start from ≡ b → holes_from from end (span ∷ spans)
          ≡ holes_from (cond b (packed_to (max from (span_end span)) spans) from) end (cond b (behind_packed (max from (span_end span)) spans) (span ∷ spans))) [
            | true ↦ λ follows. ap (λ b. cond b (holes_from from end spans) (hole_between from span.start ++ holes_from (max from (span_end span)) end spans)) some ∙ ap (λ holes. holes ++ holes_from (max from (span_end span)) end spans) (no_hole from span.start follows) ∙ holes-packed (max from (span_end span)) end spans
            | false ↦ λ behind. refl
          ]) refl
    ] refl

-- what ends by a byte, the spans that follow on one another and those behind
module _ (end : ℕ) where
  pub packed-ends : (from : ℕ) (spans : List Span) → from ≤ end → IsTrue (list_all (ends_by end) spans) → packed_to from spans ≤ end
  packed-ends from [] le ends = le
  packed-ends from (span ∷ spans) le ends =
      let both = and_parts (ends_by end span) (list_all (ends_by end) spans) ends in
      elim (eqb span.bytes 0) as (λ b. cond b (packed_to from spans) (cond (nat_le span.start from) (packed_to (max from (span_end span)) spans) from) ≤ end) [
        | true ↦ packed-ends from spans le both.1
        | false ↦ elim (nat_le span.start from) as (λ b. cond b (packed_to (max from (span_end span)) spans) from ≤ end) [
          | true ↦ packed-ends (max from (span_end span)) spans (omega (arith, le, leb-true (span_end span) end both.0)) both.1
          | false ↦ le
        ]
      ]

  pub behind-ends : (from : ℕ) (spans : List Span) → IsTrue (list_all (ends_by end) spans) → IsTrue (list_all (ends_by end) (behind_packed from spans))
  behind-ends from [] ends = refl
  behind-ends from (span ∷ spans) ends =
      let both = and_parts (ends_by end span) (list_all (ends_by end) spans) ends in
      elim (eqb span.bytes 0) as (λ b. IsTrue (list_all (ends_by end) (cond b (behind_packed from spans) (cond (nat_le span.start from) (behind_packed (max from (span_end span)) spans) (span ∷ spans))))) [
        | true ↦ behind-ends from spans both.1
        | false ↦ elim (nat_le span.start from) as (λ b. IsTrue (list_all (ends_by end) (cond b (behind_packed (max from (span_end span)) spans) (span ∷ spans)))) [
          | true ↦ behind-ends (max from (span_end span)) spans both.1
          | false ↦ ends
        ]
      ]
