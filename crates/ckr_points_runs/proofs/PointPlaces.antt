-- A step point in its place.
use Rattle.std.proofs.Common.{◌≡◌, ℕ, zero, suc, Bool, true, false, cond, nat_lt, nat_eq, List, [], ◌∷◌, map, insert, slice_get, slice_set, refl, ap, sym, ◌∙◌, arith, take, drop, Some, subst}
use Rattle.std.proofs.lemmas.Bool.{false≢true}
use Rattle.std.proofs.lemmas.Bool.Decides.{nat_tests}
use Rattle.std.proofs.lemmas.Option.{same_Some}
use Rattle.ckr_base.proofs.Options.{some-not-none}
use Rattle.ckr_library.specs.Places.{lead}
use Rattle.ckr_points_runs.specs.declared.run_table.StepPoint.{StepPoint}
use Rattle.ckr_points.specs.Marks.{with_point}
use Rattle.ckr_points.specs.Rows.{StartPoint}
use Rattle.ckr_points_runs.specs.View.{has_step, point_of}

abbrev pub is_lower : StepPoint → StepPoint → Bool
is_lower point one = nat_lt one.step point.step

abbrev after_first : StartPoint → StartPoint → List StartPoint → List StartPoint → Bool → Bool → List StartPoint
after_first point first rest more same lower = cond same (point ∷ rest) (cond lower (point ∷ first ∷ rest) (first ∷ more))

lower_goes_on : (a b : ℕ) → nat_lt b a ≡ true → (nat_eq a b ≡ false) × (nat_lt a b ≡ false)
lower_goes_on a b e = (grind (arith, nat_tests), grind (arith, nat_tests))

higher_stops : (a b : ℕ) → nat_lt b a ≡ false → nat_eq a b ≡ false → nat_lt a b ≡ true
higher_stops a b e f = grind (arith, nat_tests)

swapped : (a b : ℕ) → nat_eq a b ≡ true → nat_eq b a ≡ true
swapped a b e = grind (arith, nat_tests)

module _ (point : StepPoint) where
  goes_on : (first : StepPoint) (rest : List StepPoint) (after : List StartPoint) → is_lower point first ≡ true → after ≡ with_point (point_of point) (map point_of rest) → point_of first ∷ after ≡ with_point (point_of point) (map point_of (first ∷ rest))
  goes_on first rest after e more =
      let other = lower_goes_on point.step first.step e in
      ap (λ t. point_of first ∷ t) more
      ∙ sym (ap (λ b. after_first (point_of point) (point_of first) (map point_of rest) (with_point (point_of point) (map point_of rest)) false b) other.1)
      ∙ sym (ap (λ b. after_first (point_of point) (point_of first) (map point_of rest) (with_point (point_of point) (map point_of rest)) b (nat_lt point.step first.step)) other.0)

  next_lower : (first : StepPoint) (rest : List StepPoint) (k : ℕ) → suc k ≡ lead (is_lower point) (first ∷ rest) → (is_lower point first ≡ true) × (k ≡ lead (is_lower point) rest)
  next_lower first rest k at =
      elim (nat_lt first.step point.step) as (λ b. nat_lt first.step point.step ≡ b → suc k ≡ cond b (suc (lead (is_lower point) rest)) 0 → (is_lower point first ≡ true) × (k ≡ lead (is_lower point) rest)) [
        | true ↦ λ e at. (e, omega (arith, at))
        | false ↦ λ e at. absurd (omega (arith, at))
      ] refl at

  -- the point of its step is replaced
  pub put_same : (items : List StepPoint) (place : ℕ) → place ≡ lead (is_lower point) items → has_step point.step (slice_get items place) ≡ true → map point_of (slice_set items place point) ≡ with_point (point_of point) (map point_of items)
  put_same [] place at same = absurd (false≢true same)
  put_same (first ∷ rest) zero at same =
      sym (ap (λ b. after_first (point_of point) (point_of first) (map point_of rest) (with_point (point_of point) (map point_of rest)) b (nat_lt point.step first.step)) (swapped first.step point.step same))
  put_same (first ∷ rest) (suc k) at same =
      let next = next_lower first rest k at in
      goes_on first rest (map point_of (slice_set rest k point)) next.0 (put_same rest k next.1 same)

  stops : (first : StepPoint) (rest : List StepPoint) → 0 ≡ lead (is_lower point) (first ∷ rest) → is_lower point first ≡ false
  stops first rest at =
      elim (nat_lt first.step point.step) as (λ b. 0 ≡ cond b (suc (lead (is_lower point) rest)) 0 → b ≡ false) [
        | true ↦ λ at. absurd (omega (arith, at))
        | false ↦ λ at. refl
      ] at

  -- a new point is inserted
  pub put_new : (items : List StepPoint) (place : ℕ) → place ≡ lead (is_lower point) items → has_step point.step (slice_get items place) ≡ false → map point_of (insert items place point) ≡ with_point (point_of point) (map point_of items)
  put_new [] zero at other = refl
  put_new [] (suc k) at other = absurd (omega (arith, at))
  put_new (first ∷ rest) zero at other =
      sym (ap (λ b. after_first (point_of point) (point_of first) (map point_of rest) (with_point (point_of point) (map point_of rest)) false b) (higher_stops point.step first.step (stops first rest at) (unlike first.step point.step other)))
      ∙ sym (ap (λ b. after_first (point_of point) (point_of first) (map point_of rest) (with_point (point_of point) (map point_of rest)) b (nat_lt point.step first.step)) (unlike first.step point.step other))
    where
      unlike : (a b : ℕ) → nat_eq a b ≡ false → nat_eq b a ≡ false
      unlike a b e = grind (arith, nat_tests)
  put_new (first ∷ rest) (suc k) at other =
      let next = next_lower first rest k at in
      goes_on first rest (map point_of (insert rest k point)) next.0 (put_new rest k next.1 other)

-- ---- all points changed, one after the other

-- one more item is changed, and the rest is as it was
pub changed_more : {A : Type 0} (f : A → A) (items before : List A) (place : ℕ) (one new : A) → take place items ≡ map f (take place before) → drop place items ≡ drop place before → slice_get items place ≡ Some one → new ≡ f one
    → (take (suc place) (slice_set items place new) ≡ map f (take (suc place) before)) × (drop (suc place) (slice_set items place new) ≡ drop (suc place) before)
changed_more f [] before place one new done left here is = absurd (some-not-none _ (sym here))
changed_more f (item ∷ items) before zero one new done left here is =
    subst (λ all. (take 1 (new ∷ items) ≡ map f (take 1 all)) × (drop 1 (new ∷ items) ≡ drop 1 all)) left
    (ap (λ x. x ∷ []) (is ∙ ap f (sym (same_Some item one here))), refl)
changed_more f (item ∷ items) [] (suc place) one new done left here is = absurd (cc)
changed_more f (item ∷ items) (first ∷ before) (suc place) one new done left here is =
    let head : item ≡ f first = cc in
    let tail : take place items ≡ map f (take place before) = cc in
    let rest = changed_more f items before place one new tail left here is in
    (ap (λ x. x ∷ take (suc place) (slice_set items place new)) head ∙ ap (λ xs. f first ∷ xs) rest.0, rest.1)
