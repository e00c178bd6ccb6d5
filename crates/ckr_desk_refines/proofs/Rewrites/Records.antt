-- The records of a data set that differs at one place are the same once the record of that place is written.
use Rattle.std.proofs.Common.{◌≡◌, ◌≢◌, ◌<◌, ◌-◌, ℕ, zero, suc, List, [], ◌∷◌, ◌++◌, length, refl, ap, sym, ◌∙◌, slice_set, arith, ⊎_elim}
use Rattle.std.proofs.lemmas.Bool.{cases_order}
use Rattle.std.proofs.lemmas.List.{set-append_left, set-append_right}
use Rattle.ckr_library.specs.declared.sets.DataSet.{DataSet}
use Rattle.ckr_volumes.specs.declared.layout.Layout.{Layout}
use Rattle.ckr_volumes.specs.Lists.{length_records, same_records}
use Rattle.ckr_volumes.specs.Records.{record_at, records_on}

module _ (old new : List ℕ) (layout : Layout) (set : DataSet) (place : ℕ) (bytes : List ℕ) where
  pub same-but : (n : ℕ) → ((at : ℕ) → at < n → at ≢ place → record_at new layout set at ≡ record_at old layout set at) → slice_set (records_on new layout set n) place bytes ≡ slice_set (records_on old layout set n) place bytes
  same-but zero same = refl
  same-but (suc n) same =
      let one : List (List ℕ) = records_on new layout set n in
      let other : List (List ℕ) = records_on old layout set n in
      let here : List ℕ = record_at new layout set n in
      let there : List ℕ = record_at old layout set n in
      let long : length one ≡ n = length_records new layout set n in
      let wide : length other ≡ n = length_records old layout set n in
      ⊎_elim
      (λ at_end.
      set-append_right one (here ∷ []) n place bytes long (omega (arith, at_end))
      ∙ ap (λ k. one ++ slice_set (here ∷ []) k bytes) (none_of place n at_end)
      ∙ ap (λ (l : List (List ℕ)). l ++ bytes ∷ []) (same_records old new layout set n (λ at less. same at (omega arith) (λ e. absurd (omega (arith, e, at_end, less)))))
      ∙ sym (set-append_right other (there ∷ []) n place bytes wide (omega (arith, at_end)) ∙ ap (λ k. other ++ slice_set (there ∷ []) k bytes) (none_of place n at_end)))
      (λ either. ⊎_elim
      (λ inside.
      set-append_left one (here ∷ []) place bytes (omega (arith, long, inside))
      ∙ ap (λ (l : List (List ℕ)). l ++ here ∷ []) (same-but n (λ at less. same at (omega arith)))
      ∙ ap (λ (r : List ℕ). slice_set other place bytes ++ r ∷ []) (same n (omega arith) (λ e. absurd (omega (arith, e, inside))))
      ∙ sym (set-append_left other (there ∷ []) place bytes (omega (arith, wide, inside))))
      (λ past.
      set-append_right one (here ∷ []) n place bytes long (omega (arith, past))
      ∙ ap (λ k. one ++ slice_set (here ∷ []) k bytes) (some_of place n past)
      ∙ ap (λ (l : List (List ℕ)). l ++ here ∷ []) (same_records old new layout set n (λ at less. same at (omega arith) (λ e. absurd (omega (arith, e, past, less)))))
      ∙ ap (λ (r : List ℕ). other ++ r ∷ []) (same n (omega arith) (λ e. absurd (omega (arith, e, past))))
      ∙ sym (set-append_right other (there ∷ []) n place bytes wide (omega (arith, past)) ∙ ap (λ k. other ++ slice_set (there ∷ []) k bytes) (some_of place n past)))
      either)
      (cases_order place n)
    where
      none_of : (place n : ℕ) → place ≡ n → place - n ≡ 0
      none_of place n is = omega arith

      some_of : (place n : ℕ) → n < place → place - n ≡ suc (place - n - 1)
      some_of place n less = omega arith
