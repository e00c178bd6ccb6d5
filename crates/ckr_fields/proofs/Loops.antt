-- Reading items one after the other, as a loop does.
use Rattle.std.proofs.Common.{◌≡◌, ℕ, suc, ◌-◌, ◌+◌, ◌≤◌, ◌<◌, List, [], ◌∷◌, ◌++◌, length, take, get_or, Ok, Err, refl, sym, ap, ◌∙◌, append_assoc, arith}
use Rattle.std.proofs.lemmas.List.{append-nil, take_more}
use Rattle.ckr_fields.specs.declared.error.ReadError.{ReadError}
use Rattle.ckr_fields.specs.declared.error.ReadError.TheVariants.{NoMemory, Wrong}
use Rattle.ckr_fields.specs.Fields.{times_at, spell_each}
use Rattle.ckr_fields.specs.Readers.{Reading, ◌>>=◌, Gives}

-- what was read before, and what is still read
abbrev pub with_front : {A : Type 0} → List A → Reading (List A) → Reading (List A)
with_front front reading = reading >>= λ x. Ok (front ++ x.0, x.1)

module _ {A : Type 0} (read : List ℕ → Reading A) (front : List A) (count i : ℕ) (bytes : List ℕ) (total : Reading (List A)) where
  regroup : (x : A) (reading : Reading (List A)) → with_front front (reading >>= λ others. Ok (x ∷ others.0, others.1)) ≡ with_front (front ++ x ∷ []) reading
  regroup x (Ok others) = ap (λ (xs : List A). Ok (xs, others.1)) (simp append_assoc)
  regroup x (Err left) = refl

  pub goes_on : (x : A) (after : List ℕ) → i < count → read bytes ≡ Ok (x, after) → with_front front (times_at read (count - i) bytes) ≡ total
      → with_front (front ++ x ∷ []) (times_at read (count - (i + 1)) after) ≡ total
  unfolding times_at
  goes_on x after lt h so_far =
      let k : count - i ≡ suc (count - (i + 1)) = omega arith in
      let one : with_front front (times_at read (count - i) bytes) ≡ with_front (front ++ x ∷ []) (times_at read (count - (i + 1)) after) = rw (k, h) (regroup x (times_at read (count - (i + 1)) after)) in
      sym one ∙ so_far

  pub ends : {X Y : Type 0} (view : X → A) (whole : Y → List A) (e : ReadError) (behind later : List ℕ) → i < count → Gives view (read bytes) (Err e) behind
      → with_front front (times_at read (count - i) bytes) ≡ total → Gives whole total (Err e) later
  unfolding times_at
  ends view whole NoMemory behind later lt h so_far = tt
  ends view whole (Wrong left) behind later lt h so_far =
      let k : count - i ≡ suc (count - (i + 1)) = omega arith in
      let one : with_front front (times_at read (count - i) bytes) ≡ Err left = rw (k, h) refl in
      sym so_far ∙ one

  pub is_done : count ≤ i → with_front front (times_at read (count - i) bytes) ≡ total → total ≡ Ok (front, bytes)
  unfolding times_at
  is_done le so_far =
      let k : count - i ≡ 0 = omega arith in
      let one : with_front front (times_at read (count - i) bytes) ≡ Ok (front, bytes) = rw k (ap (λ (xs : List A). Ok (xs, bytes)) (append-nil front)) in
      sym so_far ∙ one

-- one item more is spelled
pub spelled_more : {A : Type 0} (spell : A → List ℕ) (xs : List A) (x : A) → spell_each spell (xs ++ x ∷ []) ≡ spell_each spell xs ++ spell x
spelled_more spell [] x = append-nil (spell x)
spelled_more spell (y ∷ xs) x = ap (λ (l : List ℕ). spell y ++ l) (spelled_more spell xs x) ∙ sym (append_assoc (spell y) (spell_each spell xs) (spell x))

-- the step of a loop that spells the items of a list behind its length
pub one_more_spelled : {A : Type 0} (spell : A → List ℕ) (xs : List A) (i : ℕ) (d : A) (old mid new : List ℕ) → i < length xs
    → mid ≡ old ++ (length xs ∷ spell_each spell (take i xs)) → new ≡ mid ++ spell (get_or xs i d) → new ≡ old ++ (length xs ∷ spell_each spell (take (i + 1) xs))
one_more_spelled spell xs i d old mid new lt so_far one =
    one ∙ ap (λ (l : List ℕ). l ++ spell (get_or xs i d)) so_far ∙ append_assoc old (length xs ∷ spell_each spell (take i xs)) (spell (get_or xs i d))
    ∙ ap (λ (l : List ℕ). old ++ (length xs ∷ l)) (sym (ap (spell_each spell) (take_more xs i d lt) ∙ spelled_more spell (take i xs) (get_or xs i d)))
