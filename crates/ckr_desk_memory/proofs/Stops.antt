-- A list that is changed from its first item on, as far as a loop has come.
use Rattle.std.proofs.Common.{◌≡◌, ◌≢◌, ◌+◌, ◌<◌, ◌≤◌, ℕ, zero, suc, Bool, true, false, nat_lt, List, [], ◌∷◌, map, length, slice_get, slice_set, refl, ap, sym, ◌∙◌, None, Some, arith}
use Rattle.std.specs.Option.{option_map}
use Rattle.std.proofs.lemmas.Option.{same_Some}
use Rattle.std.proofs.lemmas.Bool.Decides.{nat_tests}
use Rattle.ckr_base.proofs.Numbers.{nat_lt-true, number-cases}
use Rattle.ckr_base.proofs.Options.{some-not-none}
use Rattle.ckr_base.proofs.Sequences.{get-set-other, get-set-same}

-- the items before a place are changed, as they are seen, and those behind it aren't
pub record IsChangedTo {X V : Type 0} (seen : X → V) (change : V → V) (place : ℕ) (old new : List X) : Type 0 where
  pub before : (at : ℕ) → at < place → option_map seen (slice_get new at) ≡ option_map (λ x. change (seen x)) (slice_get old at)
  pub behind : (at : ℕ) → place ≤ at → slice_get new at ≡ slice_get old at

module _ {X V : Type 0} (seen : X → V) (change : V → V) where
  pub changed-none : (old : List X) → IsChangedTo seen change 0 old old
  changed-none old = record { before = λ at low. absurd (omega (arith, low)); behind = λ at high. refl }

  pub changed-next : (place : ℕ) (old new : List X) (item next : X) → IsChangedTo seen change place old new → slice_get new place ≡ Some item → seen next ≡ change (seen item) → IsChangedTo seen change (place + 1) old (slice_set new place next)
  changed-next place old new item next is at changes = record {
    before = λ other low.
        number-cases other place
        (λ here.
        ap (λ n. option_map seen (slice_get (slice_set new place next) n)) here
        ∙ ap (option_map seen) (get-set-same new place next item at) ∙ ap Some changes
        ∙ sym (ap (option_map (λ x. change (seen x))) (ap (slice_get old) here ∙ sym (is.behind place (omega arith)) ∙ at)))
        (λ apart. ap (option_map seen) (get-set-other new place other next apart) ∙ is.before other (below other low apart));
    behind = λ other high. get-set-other new place other next (λ here. absurd (omega (arith, high, here))) ∙ is.behind other (omega (arith, high));
  }
    where
      below : (other : ℕ) → other < place + 1 → other ≢ place → other < place
      below other low apart = omega (arith, low, apart)

  -- all items are changed
  same-items : (old new : List X) → ((at : ℕ) → option_map seen (slice_get new at) ≡ option_map (λ x. change (seen x)) (slice_get old at)) → map seen new ≡ map change (map seen old)
  same-items [] [] same = refl
  same-items [] (x ∷ new) same = absurd (some-not-none (seen x) (same 0))
  same-items (y ∷ old) [] same = absurd (some-not-none (change (seen y)) (sym (same 0)))
  same-items (y ∷ old) (x ∷ new) same = ap (λ (v : V). v ∷ map seen new) (same_Some _ _ (same 0)) ∙ ap (λ (vs : List V). change (seen y) ∷ vs) (same-items old new (λ at. same (suc at)))

  beyond : (items : List X) (at : ℕ) → length items ≤ at → slice_get items at ≡ None
  beyond [] at high = refl
  beyond (x ∷ items) zero high = absurd (omega (arith, high))
  beyond (x ∷ items) (suc at) high = beyond items at (omega (arith, high))

  pub changed-all : (place : ℕ) (old new : List X) → IsChangedTo seen change place old new → length old ≤ place → map seen new ≡ map change (map seen old)
  changed-all place old new is all = same-items old new each
    where
      each : (at : ℕ) → option_map seen (slice_get new at) ≡ option_map (λ x. change (seen x)) (slice_get old at)
      each at = by (nat_lt at place) refl
        where
          by : (b : Bool) → nat_lt at place ≡ b → option_map seen (slice_get new at) ≡ option_map (λ x. change (seen x)) (slice_get old at)
          by true low = is.before at (nat_lt-true at place low)
          by false high =
              let far : length old ≤ at = grind (arith, nat_tests, all, high) in
              ap (option_map seen) (is.behind at (grind (arith, nat_tests, high)) ∙ beyond old at far) ∙ sym (ap (option_map (λ x. change (seen x))) (beyond old at far))

-- so it is where they are seen as they are
pub changed-items : {X : Type 0} (change : X → X) (place : ℕ) (old new : List X) → IsChangedTo (λ x. x) change place old new → length old ≤ place → new ≡ map change old
changed-items {X = X} change place old new is all = sym (as_is new) ∙ changed-all (λ x. x) change place old new is all ∙ ap (map change) (as_is old)
  where
    as_is : (items : List X) → map (λ x. x) items ≡ items
    as_is [] = refl
    as_is (x ∷ items) = ap (λ (rest : List X). x ∷ rest) (as_is items)
