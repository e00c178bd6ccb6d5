-- The bytes of a line that is filled with blanks.
use Rattle.std.proofs.Common.{◌≡◌, ℕ, ◌+◌, ◌-◌, ◌≤◌, Bool, true, false, List, [], ◌∷◌, ◌++◌, length, take, drop, refl, ap, sym, ◌∙◌, arith, length-take, length-append, append_assoc, if◌then◌else◌}
use Rattle.std.specs.Prelude.{slice_set, replicate, nat_le, nat_lt, min}
use Rattle.std.proofs.lemmas.List.{drop-replicate, length-replicate, length-take-le, replicate-append-replicate, take_all, take_min, take-append-le, take-replicate}
use Rattle.std.proofs.lemmas.Bool.Decides.{nat_tests}
use Rattle.std.proofs.Math.Seq.{set-append_seam, take-append-add}
use Rattle.ckr_base.proofs.Numbers.{nat_le-true}
use Rattle.ckr_cards.specs.Card.{filled, stored_line}
use Rattle.ckr_cards.specs.Cut.{columns_of}

pub length-filled : (line : List ℕ) → length (filled line) ≡ 80
unfolding filled
length-filled line =
    let blank : ℕ = 32 in
    rw (length-take 80 (line ++ replicate 80 32), length-append line (replicate 80 32), length-replicate 80 blank) (omega arith)

-- ---- a line as it is stored

filled_short : (line : List ℕ) → length line ≤ 80 → filled line ≡ line ++ replicate (80 - length line) 32
unfolding filled
filled_short line short =
    ap (λ n. take n (line ++ replicate 80 32)) (both (length line) short)
    ∙ (take-append-add line (replicate 80 32) (80 - length line) ∙ ap (λ rest. line ++ rest) (take-replicate (80 - length line) 80 32 (omega arith)))
  where
    both : (n : ℕ) → n ≤ 80 → 80 ≡ n + (80 - n)
    both n low = omega arith

filled_long : (line : List ℕ) → 80 ≤ length line → filled line ≡ take 80 line
unfolding filled
filled_long line long = take-append-le 80 line (replicate 80 32) long

-- behind the front of a line stand blanks, of which there is one more than the line is filled with
blanks : (n : ℕ) → n ≤ 80 → drop n (replicate {A = ℕ} 81 32) ≡ replicate (80 - n) 32 ++ 32 ∷ []
blanks n low =
    drop-replicate n 81 32
    ∙ (ap (λ k. replicate k 32) (one_more n low) ∙ sym (replicate-append-replicate (80 - n) 1 32))
  where
    one_more : (n : ℕ) → n ≤ 80 → 81 - n ≡ 80 - n + 1
    one_more n low = omega arith

no_less : (n : ℕ) → nat_le n 80 ≡ false → 80 ≤ n
no_less n is = grind (arith, nat_tests)

filled-is : (line : List ℕ) → take 80 line ++ drop (length (take 80 line)) (replicate {A = ℕ} 81 32) ≡ filled line ++ 32 ∷ []
filled-is line = by_length (nat_le (length line) 80) refl
  where
    by_length : (short : Bool) → nat_le (length line) 80 ≡ short → take 80 line ++ drop (length (take 80 line)) (replicate {A = ℕ} 81 32) ≡ filled line ++ 32 ∷ []
    by_length true is =
        let short = nat_le-true (length line) 80 is in
        ap (λ front. front ++ drop (length front) (replicate {A = ℕ} 81 32)) (take_all 80 line short)
        ∙ (ap (λ rest. line ++ rest) (blanks (length line) short)
        ∙ (sym (append_assoc line (replicate (80 - length line) 32) (32 ∷ [])) ∙ ap (λ front. front ++ 32 ∷ []) (sym (filled_short line short))))
    by_length false is =
        let long = no_less (length line) is in
        ap (λ n. take 80 line ++ drop n (replicate {A = ℕ} 81 32)) (length-take-le 80 line long)
        ∙ ap (λ front. front ++ 32 ∷ []) (sym (filled_long line long))

pub stored_by_front : (line stored : List ℕ) (count mark : ℕ) → count ≡ min (length line) 80 → stored ≡ take count line ++ drop (length (take count line)) (replicate {A = ℕ} 81 32)
    → slice_set stored 80 mark ≡ filled line ++ mark ∷ []
stored_by_front line stored count mark few same =
    ap (λ s. slice_set s 80 mark) (same ∙ ap (λ front. front ++ drop (length front) (replicate {A = ℕ} 81 32)) (ap (λ n. take n line) (few ∙ min-sym (length line) 80) ∙ take_min 80 line) ∙ filled-is line)
    ∙ (ap (λ n. slice_set (filled line ++ 32 ∷ []) n mark) (sym (length-filled line)) ∙ set-append_seam (filled line) 32 [] mark)
  where
    min-sym : (a b : ℕ) → min a b ≡ min b a
    min-sym a b = omega arith

-- the columns that are read of a line
pub columns_of_stored : (line : List ℕ) → take 71 (stored_line line) ≡ columns_of line
columns_of_stored line =
    take-append-le 71 (filled line) ((if nat_lt 80 (length line) then 1 else 0) ∷ []) (rw (length-filled line) (omega arith))
