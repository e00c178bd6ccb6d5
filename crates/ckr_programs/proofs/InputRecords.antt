-- The records that a program takes: those before the first one that it can't take.
use Rattle.std.proofs.Common.{◌≡◌, ◌<◌, ◌≤◌, ◌+◌, ℕ, zero, suc, Bool, true, false, cond, List, [], ◌∷◌, ◌++◌, length, take, drop, Some, None, refl, ap, ◌∙◌, arith}
use Rattle.std.specs.List.{take_while, prefix_len, list_all, slice_get}

module _ {A : Type 0} (test : A → Bool) where
  -- the first element passes
  pub take_while-pass : (x : A) (xs : List A) → test x ≡ true → take_while test (x ∷ xs) ≡ x ∷ take_while test xs
  take_while-pass x xs p =
      ap (λ b. take (cond b (1 + prefix_len test xs) 0) (x ∷ xs)) p
      ∙ ap (λ n. take n (x ∷ xs)) (let e : 1 + prefix_len test xs ≡ suc (prefix_len test xs) = omega arith in e)

  pub take_while-fail : (x : A) (xs : List A) → test x ≡ false → take_while test (x ∷ xs) ≡ []
  take_while-fail x xs p = ap (λ b. take (cond b (1 + prefix_len test xs) 0) (x ∷ xs)) p

  list_all-pass : (x : A) (xs : List A) → test x ≡ true → list_all test (x ∷ xs) ≡ list_all test xs
  list_all-pass x xs p = rw p refl

  list_all-fail : (x : A) (xs : List A) → test x ≡ false → list_all test (x ∷ xs) ≡ false
  list_all-fail x xs p = rw p refl

  -- the next element passes: it is taken
  pub record IsTaken (input : List A) (at : ℕ) (x : A) : Type 0 where
    pub within : at < length (take_while test input)
    pub more : take (suc at) (take_while test input) ≡ take at (take_while test input) ++ x ∷ []

  -- the list taken ends there
  pub record IsEnd (input : List A) (at : ℕ) (complete : Bool) : Type 0 where
    pub all : at ≡ length (take_while test input)
    pub whole : list_all test input ≡ complete

  taken_at : (taken : List A) (x : A) → take 1 (x ∷ taken) ≡ x ∷ []
  taken_at taken x = refl

  pub next_taken : (input : List A) (at : ℕ) (x : A) → slice_get input at ≡ Some x → at ≤ length (take_while test input) → test x ≡ true → IsTaken input at x
  next_taken [] at x e h p = absurd (cc)
  next_taken (y ∷ ys) zero x e h p =
      let same : y ≡ x = cc in
      let passes : test y ≡ true = ap test same ∙ p in
      let is = take_while-pass y ys passes in
      record {
        within = rw is (omega arith);
        more = rw is (ap (λ z. z ∷ []) same);
      }
  next_taken (y ∷ ys) (suc at) x e h p = by (test y) refl (λ short. next_taken ys at x e short p)
    where
      by : (b : Bool) → test y ≡ b → (at ≤ length (take_while test ys) → IsTaken ys at x) → IsTaken (y ∷ ys) (suc at) x
      by true q behind =
          let is = take_while-pass y ys q in
          let short : at ≤ length (take_while test ys) = let h' = rw is at h in omega arith in
          let part = behind short in
          record { within = rw is (omega (arith, part.within)); more = rw is (ap (λ zs. y ∷ zs) part.more) }
      by false q behind = absurd (let h' = rw (take_while-fail y ys q) at h in omega arith)

  pub next_cut : (input : List A) (at : ℕ) (x : A) → slice_get input at ≡ Some x → at ≤ length (take_while test input) → test x ≡ false → IsEnd input at false
  next_cut [] at x e h p = absurd (cc)
  next_cut (y ∷ ys) zero x e h p =
      let fails : test y ≡ false = ap test (let same : y ≡ x = cc in same) ∙ p in
      let is = take_while-fail y ys fails in
      record { all = rw is refl; whole = list_all-fail y ys fails }
  next_cut (y ∷ ys) (suc at) x e h p = by (test y) refl (λ short. next_cut ys at x e short p)
    where
      by : (b : Bool) → test y ≡ b → (at ≤ length (take_while test ys) → IsEnd ys at false) → IsEnd (y ∷ ys) (suc at) false
      by true q behind =
          let is = take_while-pass y ys q in
          let short : at ≤ length (take_while test ys) = let h' = rw is at h in omega arith in
          let part = behind short in
          record { all = rw is (ap suc part.all); whole = list_all-pass y ys q ∙ part.whole }
      by false q behind = absurd (let h' = rw (take_while-fail y ys q) at h in omega arith)

  pub no_next : (input : List A) (at : ℕ) → slice_get input at ≡ None → at ≤ length (take_while test input) → IsEnd input at true
  no_next [] at e h = record { all = omega arith; whole = refl }
  no_next (y ∷ ys) zero e h = absurd (cc)
  no_next (y ∷ ys) (suc at) e h = by (test y) refl (λ short. no_next ys at e short)
    where
      by : (b : Bool) → test y ≡ b → (at ≤ length (take_while test ys) → IsEnd ys at true) → IsEnd (y ∷ ys) (suc at) true
      by true q behind =
          let is = take_while-pass y ys q in
          let short : at ≤ length (take_while test ys) = let h' = rw is at h in omega arith in
          let part = behind short in
          record { all = rw is (ap suc part.all); whole = list_all-pass y ys q ∙ part.whole }
      by false q behind = absurd (let h' = rw (take_while-fail y ys q) at h in omega arith)

  -- behind elements taken the rest is taken of what is left
  pub record IsLeft (input : List A) (at : ℕ) : Type 0 where
    pub taken : drop at (take_while test input) ≡ take_while test (drop at input)
    pub whole : list_all test input ≡ list_all test (drop at input)

  pub what_is_left : (input : List A) (at : ℕ) → at ≤ length (take_while test input) → IsLeft input at
  what_is_left input zero h = record { taken = refl; whole = refl }
  what_is_left [] (suc at) h = record { taken = refl; whole = refl }
  what_is_left (y ∷ ys) (suc at) h = by (test y) refl (λ short. what_is_left ys at short)
    where
      by : (b : Bool) → test y ≡ b → (at ≤ length (take_while test ys) → IsLeft ys at) → IsLeft (y ∷ ys) (suc at)
      by true q behind =
          let is = take_while-pass y ys q in
          let short : at ≤ length (take_while test ys) = let h' = rw is at h in omega arith in
          let part = behind short in
          record { taken = rw is part.taken; whole = list_all-pass y ys q ∙ part.whole }
      by false q behind = absurd (let h' = rw (take_while-fail y ys q) at h in omega arith)
