-- Reading and writing marks one after the other, as a loop does.
use Rattle.std.proofs.Common.{◌≡◌, ℕ, suc, ◌-◌, ◌+◌, ◌≤◌, ◌<◌, List, [], ◌∷◌, ◌++◌, length, take, get_or, Option, Some, Ok, Err, refl, sym, ap, ◌∙◌, append_assoc, arith}
use Rattle.std.proofs.lemmas.List.{append-nil, take_more}
use Rattle.ckr_library.specs.NameMaps.{Name}
use Rattle.ckr_fields.specs.declared.error.ReadError.{ReadError}
use Rattle.ckr_fields.specs.declared.error.ReadError.TheVariants.{NoMemory, Wrong}
use Rattle.ckr_fields.specs.Fields.{spell_each}
use Rattle.ckr_fields.specs.Readers.{Reading, ◌>>=◌, Gives}
use Rattle.ckr_fields.proofs.Loops.{with_front, spelled_more}
use Rattle.ckr_entry.specs.declared.point.Mark.{Mark}
use Rattle.ckr_entry.specs.Sets.{mark_at, rising_at}

module _ (front : List Mark) (before : Option Name) (count i : ℕ) (bytes : List ℕ) (total : Reading (List Mark)) where
  regroup : (x : Mark) (reading : Reading (List Mark)) → with_front front (reading >>= λ others. Ok (x ∷ others.0, others.1)) ≡ with_front (front ++ x ∷ []) reading
  regroup x (Ok others) = ap (λ (xs : List Mark). Ok (xs, others.1)) (simp append_assoc)
  regroup x (Err left) = refl

  pub rises_on : (x : Mark) (after : List ℕ) → i < count → mark_at before bytes ≡ Ok (x, after) → with_front front (rising_at before (count - i) bytes) ≡ total
      → with_front (front ++ x ∷ []) (rising_at (Some x.name) (count - (i + 1)) after) ≡ total
  unfolding rising_at
  rises_on x after lt h so_far =
      let k : count - i ≡ suc (count - (i + 1)) = omega arith in
      let one : with_front front (rising_at before (count - i) bytes) ≡ with_front (front ++ x ∷ []) (rising_at (Some x.name) (count - (i + 1)) after) = rw (k, h) (regroup x (rising_at (Some x.name) (count - (i + 1)) after)) in
      sym one ∙ so_far

  pub breaks : {Y : Type 0} (whole : Y → List Mark) (e : ReadError) (behind later : List ℕ) → i < count → Gives (λ (x : Mark). x) (mark_at before bytes) (Err e) behind
      → with_front front (rising_at before (count - i) bytes) ≡ total → Gives whole total (Err e) later
  unfolding rising_at
  breaks whole NoMemory behind later lt h so_far = tt
  breaks whole (Wrong left) behind later lt h so_far =
      let k : count - i ≡ suc (count - (i + 1)) = omega arith in
      let one : with_front front (rising_at before (count - i) bytes) ≡ Err left = rw (k, h) refl in
      sym so_far ∙ one

  pub rose : count ≤ i → with_front front (rising_at before (count - i) bytes) ≡ total → total ≡ Ok (front, bytes)
  unfolding rising_at
  rose le so_far =
      let k : count - i ≡ 0 = omega arith in
      let one : with_front front (rising_at before (count - i) bytes) ≡ Ok (front, bytes) = rw k (ap (λ (xs : List Mark). Ok (xs, bytes)) (append-nil front)) in
      sym so_far ∙ one

-- the step of a loop that spells the items of a list behind these bytes
pub one_more : {A : Type 0} (spell : A → List ℕ) (xs : List A) (i : ℕ) (d : A) (old mid new : List ℕ) → i < length xs
    → mid ≡ old ++ spell_each spell (take i xs) → new ≡ mid ++ spell (get_or xs i d) → new ≡ old ++ spell_each spell (take (i + 1) xs)
one_more spell xs i d old mid new lt so_far one =
    one ∙ ap (λ (l : List ℕ). l ++ spell (get_or xs i d)) so_far ∙ append_assoc old (spell_each spell (take i xs)) (spell (get_or xs i d))
    ∙ ap (λ (l : List ℕ). old ++ l) (sym (ap (spell_each spell) (take_more xs i d lt) ∙ spelled_more spell (take i xs) (get_or xs i d)))
