-- What the spans on a volume are: they ascend, and they are those of the data sets.
use Rattle.std.proofs.Common.{◌≡◌, ℕ, ◌≤◌, Bool, true, false, not, cond, ◌&&◌, ◌||◌, IsTrue, nat_le, List, [], ◌∷◌, filter, refl, sym, subst, Some, arith}
use Rattle.std.specs.List.{list_all}
use Rattle.std.specs.Ordering.{is_eq}
use Rattle.std.proofs.lemmas.Bool.Decides.{nat_tests}
use Rattle.std.proofs.lemmas.Bool.{and_from, not-true}
use Rattle.std.proofs.lemmas.Option.{same_Some}
use Rattle.ckr_base.proofs.Options.{some-not-none}
use Rattle.ckr_base.proofs.Bools.{and-first, and-second}
use Rattle.ckr_base.proofs.Numbers.{nat_le-from}
use Rattle.ckr_library.specs.declared.spread.Span.{Span}
use Rattle.ckr_library.specs.Catalog.{Holding}
use Rattle.ckr_library.specs.NameMaps.{Name, Named, EachEntry, name_cmp, entry_at}
use Rattle.ckr_library.specs.Spread.{spans_of, spans_of_all, spread_on, filed, filed_all, is_before, is_on, is_first, rises, ascends}
use Rattle.ckr_library.proofs.Filings.{rises-filed}

filed_all-rises : (spans filing : List Span) → IsTrue (rises filing) → IsTrue (rises (filed_all spans filing))
filed_all-rises [] filing rise = rise
filed_all-rises (span ∷ spans) filing rise = filed_all-rises spans (filed span filing) (rises-filed span filing rise)

-- the spans of all data sets stand in their order
pub spans-rise : (sets : Named Holding) → IsTrue (rises (spans_of_all sets))
spans-rise [] = refl
spans-rise (entry ∷ rest) = filed_all-rises (spans_of entry.1.set) (spans_of_all rest) (spans-rise rest)

starts_rise : (volume : ℕ) (one other : Span) → is_on volume one ≡ true → is_on volume other ≡ true → is_before other one ≡ false → one.start ≤ other.start
starts_rise volume one other e f g = grind (arith, nat_tests)

-- behind a span of the volume, the others ascend from its start on
first_on : (volume : ℕ) (span : Span) (spans : List Span) → is_on volume span ≡ true → IsTrue (is_first span spans) → IsTrue (ascends 0 (filter (is_on volume) spans)) → IsTrue (ascends span.start (filter (is_on volume) spans))
first_on volume span [] here first up = refl
first_on volume span (next ∷ spans) here first up =
    elim (is_on volume next) as
    (λ b. is_on volume next ≡ b → IsTrue (ascends 0 (cond b (next ∷ filter (is_on volume) spans) (filter (is_on volume) spans))) → IsTrue (ascends span.start (cond b (next ∷ filter (is_on volume) spans) (filter (is_on volume) spans)))) [
      | true ↦ λ e up. and_from _ _ (nat_le-from span.start next.start (starts_rise volume span next here e (not-true _ (and-first _ _ first)))) (and-second _ _ up)
      | false ↦ λ e up. first_on volume span spans here (and-second _ _ first) up
    ] refl up

on-ascends : (volume : ℕ) (spans : List Span) → IsTrue (rises spans) → IsTrue (ascends 0 (filter (is_on volume) spans))
on-ascends volume [] rise = refl
on-ascends volume (span ∷ spans) rise =
    elim (is_on volume span) as (λ b. is_on volume span ≡ b → IsTrue (ascends 0 (cond b (span ∷ filter (is_on volume) spans) (filter (is_on volume) spans)))) [
      | true ↦ λ e. and_from _ _ (least span.start) (first_on volume span spans e (and-first _ _ rise) (on-ascends volume spans (and-second _ _ rise)))
      | false ↦ λ e. on-ascends volume spans (and-second _ _ rise)
    ] refl
  where
    least : (n : ℕ) → IsTrue (nat_le 0 n)
    least n = grind (arith, nat_tests)

-- the spans on a volume ascend by their starts
pub spread_on-ascends : (volume : ℕ) (sets : Named Holding) → IsTrue (ascends 0 (spread_on volume sets))
spread_on-ascends volume sets = on-ascends volume (spans_of_all sets) (spans-rise sets)

-- a test that all spans pass, through filing
module _ (P : Span → Bool) where
  all_filed : (span : Span) (filing : List Span) → IsTrue (P span) → IsTrue (list_all P filing) → IsTrue (list_all P (filed span filing))
  all_filed span [] one all = and_from _ _ one refl
  all_filed span (next ∷ filing) one all =
      elim (is_before next span) as (λ b. IsTrue (list_all P (cond b (next ∷ filed span filing) (span ∷ next ∷ filing)))) [
        | true ↦ and_from _ _ (and-first _ _ all) (all_filed span filing one (and-second _ _ all))
        | false ↦ and_from _ _ one all
      ]

  all_filed_all : (spans filing : List Span) → IsTrue (list_all P spans) → IsTrue (list_all P filing) → IsTrue (list_all P (filed_all spans filing))
  all_filed_all [] filing each all = all
  all_filed_all (span ∷ spans) filing each all = all_filed_all spans (filed span filing) (and-second _ _ each) (all_filed span filing (and-first _ _ each) all)

  one_of_filed : (span : Span) (filing : List Span) → IsTrue (list_all P (filed span filing)) → IsTrue (P span)
  one_of_filed span [] all = and-first _ _ all
  one_of_filed span (next ∷ filing) all =
      elim (is_before next span) as (λ b. IsTrue (list_all P (cond b (next ∷ filed span filing) (span ∷ next ∷ filing))) → IsTrue (P span)) [
        | true ↦ λ all. one_of_filed span filing (and-second _ _ all)
        | false ↦ λ all. and-first _ _ all
      ] all

  rest_of_filed : (span : Span) (filing : List Span) → IsTrue (list_all P (filed span filing)) → IsTrue (list_all P filing)
  rest_of_filed span [] all = refl
  rest_of_filed span (next ∷ filing) all =
      elim (is_before next span) as (λ b. IsTrue (list_all P (cond b (next ∷ filed span filing) (span ∷ next ∷ filing))) → IsTrue (list_all P (next ∷ filing))) [
        | true ↦ λ all. and_from _ _ (and-first _ _ all) (rest_of_filed span filing (and-second _ _ all))
        | false ↦ λ all. and-second _ _ all
      ] all

  each_of_filed : (spans filing : List Span) → IsTrue (list_all P (filed_all spans filing)) → IsTrue (list_all P filing)
  each_of_filed [] filing all = all
  each_of_filed (span ∷ spans) filing all = rest_of_filed span filing (each_of_filed spans (filed span filing) all)

  those_of_filed : (spans filing : List Span) → IsTrue (list_all P (filed_all spans filing)) → IsTrue (list_all P spans)
  those_of_filed [] filing all = refl
  those_of_filed (span ∷ spans) filing all = and_from _ _ (one_of_filed span filing (each_of_filed spans (filed span filing) all)) (those_of_filed spans (filed span filing) all)

  -- what all spans pass, those of each data set pass
  pub spans-each : (sets : Named Holding) (name : Name) (holding : Holding) → entry_at sets name ≡ Some holding → IsTrue (list_all P (spans_of_all sets)) → IsTrue (list_all P (spans_of holding.set))
  spans-each [] name holding found all = absurd (some-not-none holding (sym found))
  spans-each (entry ∷ rest) name holding found all =
      elim (is_eq (name_cmp name entry.0)) as (λ b. cond b (Some entry.1) (entry_at rest name) ≡ Some holding → IsTrue (list_all P (spans_of holding.set))) [
        | true ↦ λ found. subst (λ (h : Holding). IsTrue (list_all P (spans_of h.set))) (same_Some entry.1 holding found) (those_of_filed (spans_of entry.1.set) (spans_of_all rest) all)
        | false ↦ λ found. spans-each rest name holding found (each_of_filed (spans_of entry.1.set) (spans_of_all rest) all)
      ] found

  -- what those of each data set pass, all spans pass
  pub spans-all : (sets : Named Holding) → EachEntry (λ (h : Holding). IsTrue (list_all P (spans_of h.set))) sets → IsTrue (list_all P (spans_of_all sets))
  spans-all [] each = refl
  spans-all (entry ∷ rest) each = all_filed_all (spans_of entry.1.set) (spans_of_all rest) each.0 (spans-all rest each.1)

-- a test of the spans on a volume
pub all-filter : (q P : Span → Bool) (spans : List Span) → IsTrue (list_all (λ s. not (q s) || P s) spans) → IsTrue (list_all P (filter q spans))
all-filter q P [] all = refl
all-filter q P (span ∷ spans) all =
    let rest : IsTrue (list_all (λ s. not (q s) || P s) spans) = and-second (not (q span) || P span) (list_all (λ s. not (q s) || P s) spans) all in
    elim (q span) as (λ b. IsTrue (not b || P span) → IsTrue (list_all P (cond b (span ∷ filter q spans) (filter q spans)))) [
      | true ↦ λ one. and_from (P span) (list_all P (filter q spans)) one (all-filter q P spans rest)
      | false ↦ λ one. all-filter q P spans rest
    ] (and-first (not (q span) || P span) (list_all (λ s. not (q s) || P s) spans) all)

pub filter-all : (q P : Span → Bool) (spans : List Span) → IsTrue (list_all P (filter q spans)) → IsTrue (list_all (λ s. not (q s) || P s) spans)
filter-all q P [] all = refl
filter-all q P (span ∷ spans) all =
    elim (q span) as (λ b. IsTrue (list_all P (cond b (span ∷ filter q spans) (filter q spans))) → IsTrue ((not b || P span) && list_all (λ s. not (q s) || P s) spans)) [
      | true ↦ λ all. and_from (P span) (list_all (λ s. not (q s) || P s) spans) (and-first (P span) (list_all P (filter q spans)) all) (filter-all q P spans (and-second (P span) (list_all P (filter q spans)) all))
      | false ↦ λ all. filter-all q P spans all
    ] all
