-- The index of the runs on initiators, as one run changes.
use Rattle.std.proofs.Common.{◌≡◌, ◌≢◌, ℕ, zero, suc, ◌<◌, Bool, true, false, cond, nat_eq, List, [], ◌∷◌, length, slice_get, slice_set, slice_index, refl, ap, sym, ◌∙◌, subst, arith, Some, None, Option, ◌⊎◌, inl, inr}
use Rattle.std.specs.Option.{option_and_then, option_eq}
use Rattle.std.proofs.lemmas.Bool.Decides.{nat_tests}
use Rattle.std.proofs.lemmas.List.{get_or-set_same, get_or-set_other}
use Rattle.std.proofs.Math.ListN.{length-set}
use Rattle.ckr_base.proofs.Numbers.{nat_eq-false, nat_eq-true, suc-same}
use Rattle.ckr_base.proofs.Sequences.{get-set-same}
use Rattle.ckr_points.specs.declared.run.Run.{Run}
use Rattle.ckr_points_tables.specs.Invariant.{IsIndexOf, initiator_at, put_at}
use Rattle.ckr_points_tables.proofs.Runs.{at_true, at_false, get-other}

abbrev is_in : Option ℕ → ℕ → Bool
is_in found i = option_eq nat_eq found (Some i)

-- what the index has after a write
at_put : (found : Option ℕ) (v : ℕ) (index : List ℕ) → ((i : ℕ) → found ≡ Some i → i < length index) → (j : ℕ) → slice_index (put_at found v index) j ≡ cond (is_in found j) v (slice_index index j)
at_put None v index fits j = refl
at_put (Some i) v index fits j =
    elim (nat_eq i j) as (λ b. nat_eq i j ≡ b → slice_index (slice_set index i v) j ≡ cond b v (slice_index index j)) [
      | true ↦ λ e. subst (λ k. slice_index (slice_set index i v) k ≡ v) (nat_eq-true i j e) (get_or-set_same index i v 0 (fits i refl))
      | false ↦ λ e. get_or-set_other index i j v 0 (differ i j e)
    ] refl
  where
    differ : (a b : ℕ) → nat_eq a b ≡ false → b ≢ a
    differ a b e = λ f. grind (arith, nat_tests)

length-put_at : (found : Option ℕ) (v : ℕ) (index : List ℕ) → length (put_at found v index) ≡ length index
length-put_at None v index = refl
length-put_at (Some i) v index = length-set index i v

module _ (lines : List Run) (index : List ℕ) (is : IsIndexOf index lines) (place : ℕ) (line : Run) (here : slice_get lines place ≡ Some line) (new : Run) (fits : (i : ℕ) → new.initiator ≡ Some i → i < 256) (free : (i k : ℕ) → new.initiator ≡ Some i → initiator_at lines k ≡ Some i → k ≡ place) where
  abbrev after : List ℕ
  after = put_at new.initiator (suc place) (put_at line.initiator 0 index)

  was : initiator_at lines place ≡ line.initiator
  was = ap (λ (found : Option Run). option_and_then (λ (one : Run). one.initiator) found) here

  is_now : initiator_at (slice_set lines place new) place ≡ new.initiator
  is_now = ap (λ (found : Option Run). option_and_then (λ (one : Run). one.initiator) found) (get-set-same lines place new line here)

  others : (k : ℕ) → (k ≡ place → ⊥) → initiator_at (slice_set lines place new) k ≡ initiator_at lines k
  others k other = ap (λ (found : Option Run). option_and_then (λ (one : Run). one.initiator) found) (get-other lines place k new other)

  long_enough : (i : ℕ) → line.initiator ≡ Some i → i < length index
  long_enough i on = some_inside index i place (is.all i place (was ∙ on))
    where
      some_inside : (xs : List ℕ) (j k : ℕ) → slice_index xs j ≡ suc k → j < length xs
      some_inside [] j k e = absurd (omega (arith, e))
      some_inside (x ∷ xs) zero k e = omega arith
      some_inside (x ∷ xs) (suc j) k e = omega (arith, some_inside xs j k e)

  at_after : (j : ℕ) → slice_index after j ≡ cond (is_in new.initiator j) (suc place) (cond (is_in line.initiator j) 0 (slice_index index j))
  at_after j =
      at_put new.initiator (suc place) (put_at line.initiator 0 index) (λ i on. omega (arith, fits i on, is.long, length-put_at line.initiator 0 index)) j
      ∙ ap (λ x. cond (is_in new.initiator j) (suc place) x) (at_put line.initiator 0 index long_enough j)

  on_so : (j k : ℕ) (a b : Bool) → is_in new.initiator j ≡ a → is_in line.initiator j ≡ b → cond a (suc place) (cond b 0 (slice_index index j)) ≡ suc k → initiator_at (slice_set lines place new) k ≡ Some j
  on_so j k true b now then e = subst (λ p. initiator_at (slice_set lines place new) p ≡ Some j) (suc-same place k e) (is_now ∙ at_true new.initiator j now)
  on_so j k false true now then e = absurd (clash e)
    where
      clash : 0 ≡ suc k → ⊥
      clash e = omega arith
  on_so j k false false now then e =
      let on = is.on j k e in
      others k (λ same. at_false line.initiator j then (sym was ∙ ap (initiator_at lines) (sym same) ∙ on)) ∙ on

  all_so : (j k : ℕ) (a b : Bool) → is_in new.initiator j ≡ a → is_in line.initiator j ≡ b → (here_or : (k ≡ place) ⊎ (k ≡ place → ⊥)) → initiator_at (slice_set lines place new) k ≡ Some j → cond a (suc place) (cond b 0 (slice_index index j)) ≡ suc k
  all_so j k true b now then (inl same) on = ap suc (sym same)
  all_so j k false b now then (inl same) on = absurd (at_false new.initiator j now (sym is_now ∙ ap (initiator_at (slice_set lines place new)) (sym same) ∙ on))
  all_so j k true b now then (inr other) on = absurd (other (free j k (at_true new.initiator j now) (sym (others k other) ∙ on)))
  all_so j k false true now then (inr other) on =
      absurd (other (suc-same k place (sym (is.all j k (sym (others k other) ∙ on)) ∙ is.all j place (was ∙ at_true line.initiator j then))))
  all_so j k false false now then (inr other) on = is.all j k (sym (others k other) ∙ on)

  here_or_not : (a b : ℕ) → (a ≡ b) ⊎ (a ≡ b → ⊥)
  here_or_not a b =
      elim (nat_eq a b) as (λ t. nat_eq a b ≡ t → (a ≡ b) ⊎ (a ≡ b → ⊥)) [
        | true ↦ λ e. inl (nat_eq-true a b e)
        | false ↦ λ e. inr (λ f. nat_eq-false a b e f)
      ] refl

  -- the index with the run's old initiator free and its new one taken
  pub index_changed : IsIndexOf after (slice_set lines place new)
  index_changed = record {
    long = length-put_at new.initiator (suc place) (put_at line.initiator 0 index) ∙ length-put_at line.initiator 0 index ∙ is.long;
    on = λ j k e. on_so j k (is_in new.initiator j) (is_in line.initiator j) refl refl (sym (at_after j) ∙ e);
    all = λ j k e. at_after j ∙ all_so j k (is_in new.initiator j) (is_in line.initiator j) refl refl (here_or_not k place) e;
  }
