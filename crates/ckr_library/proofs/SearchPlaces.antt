-- The place that a search by halving finds: how many items lead the list that pass the test.
use Rattle.std.proofs.Common.{◌≡◌, ℕ, zero, suc, ◌≤◌, Bool, true, false, cond, List, [], ◌∷◌, length, ap, sym, ◌∙◌, arith}
use Rattle.std.specs.List.Sorted.{IsPartitionPoint}
use Rattle.ckr_library.specs.Places.{lead}

module _ {A : Type 0} (p : A → Bool) where
  -- the item after which the test fails
  pub lead-point : (items : List A) (i : ℕ) → i ≤ length items → IsPartitionPoint (λ y. p y ≡ true) (λ y. p y ≡ false) items i → i ≡ lead p items
  lead-point [] i fits point = omega (arith, fits)
  lead-point (item ∷ items) zero fits point =
      sym (ap (λ b. cond b (suc (lead p items)) 0) (point.1 0 item (omega arith) (omega arith)))
  lead-point (item ∷ items) (suc i) fits point =
      ap suc (lead-point items i (omega (arith, fits)) (
        λ k d low high. point.0 (suc k) d (omega arith) (omega (arith, high)),
        λ k d low high. point.1 (suc k) d (omega (arith, low)) (omega (arith, high)),
      )) ∙ sym (ap (λ b. cond b (suc (lead p items)) 0) (point.0 0 item (omega arith) (omega arith)))

  pub lead-le-length : (items : List A) → lead p items ≤ length items
  lead-le-length [] = omega arith
  lead-le-length (item ∷ items) =
      elim (p item) as (λ b. cond b (suc (lead p items)) 0 ≤ length (item ∷ items)) [
        | true ↦ omega (arith, lead-le-length items)
        | false ↦ omega arith
      ]
