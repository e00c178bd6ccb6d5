-- Step points in order: what keeps the order, and where the point of a step stands.
use Rattle.std.proofs.Common.{◌≡◌, ℕ, suc, ◌==◌, ◌&&◌, Bool, true, false, cond, nat_eq, nat_lt, List, [], ◌∷◌, map, length, slice_get, slice_index_or, slice_set, ◌<◌, refl, ap, sym, ◌∙◌, arith, Some, None, Option}
use Rattle.std.specs.Option.{option_map}
use Rattle.std.proofs.lemmas.Bool.{and_from, false≢true}
use Rattle.std.proofs.lemmas.Bool.Decides.{nat_tests}
use Rattle.std.proofs.lemmas.Option.{slice_get_within}
use Rattle.ckr_base.proofs.Bools.{and-first, and-second}
use Rattle.ckr_base.proofs.Sequences.{get-from}
use Rattle.ckr_base.proofs.Numbers.{nat_eq-true}
use Rattle.ckr_library.specs.Places.{lead}
use Rattle.ckr_points.specs.Marks.{point_at, with_point}
use Rattle.ckr_points.specs.Restart.{point_restarted}
use Rattle.ckr_points.specs.Rows.{StartPoint}
use Rattle.ckr_points.specs.Tables.{point_rewritten}
use Rattle.ckr_points_runs.specs.PointOrder.{are_in_order, is_below}
use Rattle.ckr_points_runs.specs.View.{has_step, point_of}
use Rattle.ckr_points_runs.specs.declared.run_table.StepPoint.{StepPoint}
use Rattle.ckr_points_runs.proofs.PointPlaces.{put_same}

lower : (a b c : ℕ) → nat_lt a b ≡ true → nat_lt b c ≡ true → nat_lt a c ≡ true
lower a b c e f = grind (arith, nat_tests)

higher : (a b : ℕ) → nat_eq a b ≡ false → nat_lt a b ≡ false → nat_lt b a ≡ true
higher a b e f = grind (arith, nat_tests)

apart : (a b : ℕ) → nat_lt a b ≡ true → nat_eq b a ≡ false
apart a b e = grind (arith, nat_tests)

not-lower : (a b : ℕ) → nat_eq b a ≡ true → nat_lt b a ≡ false
not-lower a b e = grind (arith, nat_tests)

-- a lower step is below what another is below
below-lower : (a b : ℕ) (points : List StartPoint) → nat_lt a b ≡ true → is_below b points ≡ true → is_below a points ≡ true
below-lower a b [] e below = refl
below-lower a b (point ∷ points) e below =
    and_from (nat_lt a point.step) _ (lower a b point.step e (and-first (nat_lt b point.step) _ below)) (below-lower a b points e (and-second (nat_lt b point.step) _ below))

below-with_point : (step : ℕ) (point : StartPoint) (points : List StartPoint) → nat_lt step point.step ≡ true → is_below step points ≡ true → is_below step (with_point point points) ≡ true
below-with_point step point [] e below = and_from (nat_lt step point.step) true e refl
below-with_point step point (first ∷ rest) e below =
    by (point.step == first.step) (nat_lt point.step first.step) (below-with_point step point rest e (and-second (nat_lt step first.step) _ below))
  where
    by : (same low : Bool) → is_below step (with_point point rest) ≡ true → is_below step (cond same (point ∷ rest) (cond low (point ∷ first ∷ rest) (first ∷ with_point point rest))) ≡ true
    by true low more = and_from (nat_lt step point.step) _ e (and-second (nat_lt step first.step) _ below)
    by false true more = and_from (nat_lt step point.step) _ e below
    by false false more = and_from (nat_lt step first.step) _ (and-first (nat_lt step first.step) _ below) more

-- a point in its place keeps the order
pub order-with_point : (point : StartPoint) (points : List StartPoint) → are_in_order points ≡ true → are_in_order (with_point point points) ≡ true
order-with_point point [] order = refl
order-with_point point (first ∷ rest) order =
    by (point.step == first.step) (nat_lt point.step first.step) refl refl (order-with_point point rest (and-second (is_below first.step rest) _ order))
  where
    by : (same low : Bool) → (point.step == first.step) ≡ same → nat_lt point.step first.step ≡ low → are_in_order (with_point point rest) ≡ true → are_in_order (cond same (point ∷ rest) (cond low (point ∷ first ∷ rest) (first ∷ with_point point rest))) ≡ true
    by true low e f more = and_from (is_below point.step rest) _ (ap (λ n. is_below n rest) (nat_eq-true point.step first.step e) ∙ and-first (is_below first.step rest) _ order) (and-second (is_below first.step rest) _ order)
    by false true e f more =
        and_from (is_below point.step (first ∷ rest)) _
        (and_from (nat_lt point.step first.step) _ f (below-lower point.step first.step rest f (and-first (is_below first.step rest) _ order))) order
    by false false e f more =
        and_from (is_below first.step (with_point point rest)) _ (below-with_point first.step point rest (higher point.step first.step e f) (and-first (is_below first.step rest) _ order)) more

step-rewritten : (step : ℕ) (point : StartPoint) → (point_rewritten step point).step ≡ point.step
step-rewritten step point = by (point.step == step)
  where
    by : (b : Bool) → (let after : StartPoint = cond b (record point { rewritten = true }) point in after.step) ≡ point.step
    by true = refl
    by false = refl

below-rewritten : (low step : ℕ) (points : List StartPoint) → is_below low (map (point_rewritten step) points) ≡ is_below low points
below-rewritten low step [] = refl
below-rewritten low step (point ∷ points) =
    ap (λ n. nat_lt low n && is_below low (map (point_rewritten step) points)) (step-rewritten step point) ∙ ap (λ b. nat_lt low point.step && b) (below-rewritten low step points)

-- a rewrite keeps the order
pub order-rewritten : (step : ℕ) (points : List StartPoint) → are_in_order (map (point_rewritten step) points) ≡ are_in_order points
order-rewritten step [] = refl
order-rewritten step (point ∷ points) =
    ap (λ n. is_below n (map (point_rewritten step) points) && are_in_order (map (point_rewritten step) points)) (step-rewritten step point)
    ∙ ap (λ b. b && are_in_order (map (point_rewritten step) points)) (below-rewritten point.step step points)
    ∙ ap (λ b. is_below point.step points && b) (order-rewritten step points)

-- none of the points that a step is below is of it
none-below : (step : ℕ) (points : List StartPoint) → is_below step points ≡ true → point_at points step ≡ None
none-below step [] below = refl
none-below step (point ∷ points) below =
    ap (λ b. cond b (Some point) (point_at points step)) (apart step point.step (and-first (nat_lt step point.step) _ below)) ∙ none-below step points (and-second (nat_lt step point.step) _ below)

-- the point of a step stands behind the lower ones, if it is there
abbrev pub first_from : ℕ → List StepPoint → ℕ
first_from step items = lead (λ (point : StepPoint). nat_lt point.step step) items

abbrev shown : ℕ → Option StepPoint → Option StartPoint
shown step found = cond (has_step step found) (option_map point_of found) None

pub point-placed : (step : ℕ) (items : List StepPoint) → are_in_order (map point_of items) ≡ true → point_at (map point_of items) step ≡ shown step (slice_get items (first_from step items))
point-placed step [] order = refl
point-placed step (item ∷ items) order =
    by (nat_lt item.step step) (item.step == step) refl refl (point-placed step items (and-second (is_below item.step (map point_of items)) _ order))
  where
    by : (low same : Bool) → nat_lt item.step step ≡ low → (item.step == step) ≡ same → point_at (map point_of items) step ≡ shown step (slice_get items (first_from step items))
        → cond same (Some (point_of item)) (point_at (map point_of items) step) ≡ shown step (slice_get (item ∷ items) (cond low (suc (first_from step items)) 0))
    by true true e f more = absurd (false≢true (sym (not-lower step item.step f) ∙ e))
    by true false e f more = more
    by false true e f more = sym (ap (λ b. cond b (Some (point_of item)) None) f)
    by false false e f more =
        none-below step (map point_of items) (below-lower step item.step (map point_of items) (higher item.step step f e) (and-first (is_below item.step (map point_of items)) _ order))
        ∙ sym (ap (λ b. cond b (Some (point_of item)) None) f)

-- the place of a point that is read there
pub point-inside : (step : ℕ) (items : List StepPoint) (place : ℕ) (old : StepPoint) → has_step step (slice_get items place) ≡ true → old ≡ slice_index_or items place old → slice_get items place ≡ Some old
point-inside step items place old has read = get-from items place old (by (slice_get items place) refl has) read
  where
    by : (found : Option StepPoint) → slice_get items place ≡ found → has_step step found ≡ true → place < length items
    by None is has = absurd (false≢true has)
    by (Some one) is has = slice_get_within items place one is

module _ (step : ℕ) (items : List StepPoint) (order : are_in_order (map point_of items) ≡ true) (place : ℕ) (first : place ≡ first_from step items) where
  pub point-none : has_step step (slice_get items place) ≡ false → point_at (map point_of items) step ≡ None
  point-none has =
      point-placed step items order ∙ ap (λ n. shown step (slice_get items n)) (sym first)
      ∙ ap (λ b. cond b (option_map point_of (slice_get items place)) None) has

  module _ (old : StepPoint) (there : slice_get items place ≡ Some old) (has : has_step step (slice_get items place) ≡ true) where
    pub point-there : point_at (map point_of items) step ≡ Some (point_of old)
    point-there =
        point-placed step items order ∙ ap (λ n. shown step (slice_get items n)) (sym first)
        ∙ ap (λ b. cond b (option_map point_of (slice_get items place)) None) has ∙ ap (option_map point_of) there

    -- a restart at it
    pub point-restarted : (new : StepPoint) → point_of new ≡ point_restarted (point_of old) → map point_of (slice_set items place new) ≡ with_point (point_restarted (point_of old)) (map point_of items)
    point-restarted new same =
        let new_step : new.step ≡ step = ap (λ (point : StartPoint). point.step) same ∙ nat_eq-true old.step step (ap (has_step step) (sym there) ∙ has) in
        put_same new items place (first ∙ ap (λ n. lead (λ (point : StepPoint). nat_lt point.step n) items) (sym new_step)) (ap (λ n. has_step n (slice_get items place)) new_step ∙ has)
        ∙ ap (λ point. with_point point (map point_of items)) same
