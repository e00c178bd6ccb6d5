-- Each kind of field is read and written both ways.
use Rattle.std.proofs.Common.{◌≡◌, ◌<◌, ◌≤◌, ◌*◌, ◌/◌, ◌^◌, ℕ, zero, suc, Bool, true, false, IsTrue, cond, eqb, ltb, nat_le, List, [], ◌∷◌, ◌++◌, length, take, drop, Option, Some, None, Result, Ok, Err, refl, sym, ap, subst, ◌∙◌, append_assoc, arith, inl, inr}
use Rattle.std.specs.Int.{Width, w16, w32, byte_len, from_be_bytes, to_be_bytes}
use Rattle.std.proofs.Math.Nat.{mul-div_cancel_left}
use Rattle.std.proofs.lemmas.Bool.{ltb-false, le-ltb, eqb-true, leb-true, and_parts, cases_Bool, ne_eqb}
use Rattle.std.proofs.lemmas.List.{append-nil, take_at, drop_at, take-append-drop, length-append, length-take}
use Rattle.std.proofs.lemmas.Nat.{be_bytes_2, be_bytes_4, from_be_bytes-to_be_bytes_2, from_be_bytes-to_be_bytes_4}
use Rattle.ckr_base.specs.CodeText.{number_of}
use Rattle.ckr_base.specs.declared.code.Code.{Code}
use Rattle.ckr_base.specs.declared.code.Code.TheVariants.{System, User}
use Rattle.ckr_fields.specs.Bytes.{AreBytes, Takes, BothWays}
use Rattle.ckr_fields.specs.Fields.{Field, byte_at, byte, number_at, two_bytes, four_bytes, judged_at, judged, between, depending, ◌&◌, bytes_at, text_at, text, short_text, starts_with_zero, optional_at, optional, flag_at, flag, code_at, code, times_at, items, each_fits, spell_each, blocks, seen_at, seen}
use Rattle.ckr_fields.specs.Readers.{◌>>=◌}
use Rattle.ckr_fields.proofs.Steps.{bind_ok, guard_ok, test_ok, ok_is, AreBytes-drop, AreBytes-take, AreBytes-rest, takes_then}

-- ---- numbers

byte_takes : (bytes : List ℕ) (x : ℕ) (rest : List ℕ) → AreBytes bytes → byte_at bytes ≡ Ok (x, rest) → Takes bytes (x ∷ []) rest × (x < 256)
unfolding byte_at
byte_takes [] x rest fits e = absurd cc
byte_takes (b ∷ bytes) x rest fits e =
    subst (λ (p : ℕ × List ℕ). Takes (b ∷ bytes) (p.0 ∷ []) p.1 × (p.0 < 256)) (ok_is (b, bytes) (x, rest) e) (record { parts = refl; rest_fits = AreBytes-rest b bytes fits }, fits 0)

byte_again : (x : ℕ) (rest : List ℕ) → byte_at (x ∷ rest) ≡ Ok (x, rest)
unfolding byte_at
byte_again x rest = refl

pub byte_both : BothWays byte
byte_both = record { again = λ x rest h. byte_again x rest; takes = byte_takes }

record IsWide (w : Width) (limit : ℕ) : Type 0 where
  len : (n : ℕ) → length (to_be_bytes w n) ≡ byte_len w
  back : (bytes : List ℕ) → length bytes ≡ byte_len w → AreBytes bytes → to_be_bytes w (from_be_bytes w bytes) ≡ bytes
  again : (n : ℕ) → n < limit → from_be_bytes w (to_be_bytes w n) ≡ n
  below : (bytes : List ℕ) → AreBytes bytes → from_be_bytes w bytes < limit

wide16 : IsWide w16 (2 ^ 16)
wide16 = record {
  len = λ n. refl;
  back = λ bytes len fits. be_bytes_2 bytes _ len fits refl;
  again = λ n lt. from_be_bytes-to_be_bytes_2 n lt;
  below = λ bytes fits. omega (arith, fits 0, fits 1);
}

wide32 : IsWide w32 (2 ^ 32)
wide32 = record {
  len = λ n. refl;
  back = λ bytes len fits. be_bytes_4 bytes _ len fits refl;
  again = λ n lt. from_be_bytes-to_be_bytes_4 n lt;
  below = λ bytes fits. omega (arith, fits 0, fits 1, fits 2, fits 3);
}

number_takes : (w : Width) (limit : ℕ) (wide : IsWide w limit) (bytes : List ℕ) (n : ℕ) (rest : List ℕ) → AreBytes bytes → number_at w bytes ≡ Ok (n, rest) → Takes bytes (to_be_bytes w n) rest × (n < limit)
unfolding number_at
number_takes w limit wide bytes n rest fits e =
    let g = guard_ok (ltb (length bytes) (byte_len w)) 0 (Ok (from_be_bytes w (take (byte_len w) bytes), drop (byte_len w) bytes)) (n, rest) e in
    let pair = ok_is (from_be_bytes w (take (byte_len w) bytes), drop (byte_len w) bytes) (n, rest) g.1 in
    let long : byte_len w ≤ length bytes = ltb-false _ _ g.0 in
    let n-is : from_be_bytes w (take (byte_len w) bytes) ≡ n = ap (λ (p : ℕ × List ℕ). p.0) pair in
    let rest-is : drop (byte_len w) bytes ≡ rest = ap (λ (p : ℕ × List ℕ). p.1) pair in
    let front : to_be_bytes w n ≡ take (byte_len w) bytes = rw (← n-is) (wide.back (take (byte_len w) bytes) (omega (arith, length-take (byte_len w) bytes)) (AreBytes-take (byte_len w) bytes fits)) in
    (record { parts = rw (front, ← rest-is) (sym (take-append-drop (byte_len w) bytes)); rest_fits = rw (← rest-is) (AreBytes-drop (byte_len w) bytes fits) }, rw (← n-is) (wide.below (take (byte_len w) bytes) (AreBytes-take (byte_len w) bytes fits)))

number_again : (w : Width) (limit : ℕ) (wide : IsWide w limit) (n : ℕ) (rest : List ℕ) → n < limit → number_at w (to_be_bytes w n ++ rest) ≡ Ok (n, rest)
unfolding number_at
number_again w limit wide n rest lt =
    let len = wide.len n in
    let long : ltb (length (to_be_bytes w n ++ rest)) (byte_len w) ≡ false = le-ltb _ _ (omega (arith, length-append (to_be_bytes w n) rest)) in
    rw (long, take_at (to_be_bytes w n) rest (byte_len w) len, drop_at (to_be_bytes w n) rest (byte_len w) len, wide.again n lt) refl

pub two_bytes_both : BothWays two_bytes
two_bytes_both = record { again = λ n rest lt. number_again w16 (2 ^ 16) wide16 n rest lt; takes = λ bytes n rest fits e. number_takes w16 (2 ^ 16) wide16 bytes n rest fits e }

pub four_bytes_both : BothWays four_bytes
four_bytes_both = record { again = λ n rest lt. number_again w32 (2 ^ 32) wide32 n rest lt; takes = λ bytes n rest fits e. number_takes w32 (2 ^ 32) wide32 bytes n rest fits e }

-- ---- a value that passes a test

module _ {A : Type 0} (test : A → Bool) (field : Field A) (ways : BothWays field) where
  judged_again : (x : A) (rest : List ℕ) → field.fits x × IsTrue (test x) → judged_at test field.read (field.spell x ++ rest) ≡ Ok (x, rest)
  unfolding judged_at
  judged_again x rest h = rw (ways.again x rest h.0, h.1) refl

  judged_takes : (bytes : List ℕ) (x : A) (rest : List ℕ) → AreBytes bytes → judged_at test field.read bytes ≡ Ok (x, rest) → Takes bytes (field.spell x) rest × (field.fits x × IsTrue (test x))
  unfolding judged_at
  judged_takes bytes x rest fits e =
      let a = bind_ok (field.read bytes) (λ y. cond (test y.0) (Ok y) (Err (length bytes))) (x, rest) e in
      let g = test_ok (test a.0.0) (length bytes) a.0 (x, rest) a.2 in
      let t = ways.takes bytes x rest fits (a.1 ∙ ap (λ (p : A × List ℕ). Ok p) g.1) in
      (t.0, (t.1, ap (λ (p : A × List ℕ). test p.0) (sym g.1) ∙ g.0))

  pub judged_both : BothWays (judged test field)
  judged_both = record { again = judged_again; takes = judged_takes }

-- ---- one field behind another

module _ {A B : Type 0} (first : Field A) (second : A → Field B) (ways : BothWays first) (others : (a : A) → BothWays (second a)) where
  both_again : (x : A × B) (rest : List ℕ) → (depending first second).fits x → (depending first second).read ((depending first second).spell x ++ rest) ≡ Ok (x, rest)
  both_again x rest h =
      ap (depending first second).read (append_assoc (first.spell x.0) ((second x.0).spell x.1) rest)
      ∙ rw (ways.again x.0 ((second x.0).spell x.1 ++ rest) h.0, (others x.0).again x.1 rest h.1) refl

  both_takes : (bytes : List ℕ) (x : A × B) (rest : List ℕ) → AreBytes bytes → (depending first second).read bytes ≡ Ok (x, rest) → Takes bytes ((depending first second).spell x) rest × (depending first second).fits x
  both_takes bytes x rest fits e =
      let a = bind_ok (first.read bytes) (λ a. (second a.0).read a.1 >>= λ b. Ok ((a.0, b.0), b.1)) (x, rest) e in
      let b = bind_ok ((second a.0.0).read a.0.1) (λ b. Ok ((a.0.0, b.0), b.1)) (x, rest) a.2 in
      let t = ways.takes bytes a.0.0 a.0.1 fits a.1 in
      let u = (others a.0.0).takes a.0.1 b.0.0 b.0.1 t.0.rest_fits b.1 in
      subst (λ (p : (A × B) × List ℕ). Takes bytes ((depending first second).spell p.0) p.1 × (depending first second).fits p.0)
      (ok_is ((a.0.0, b.0.0), b.0.1) (x, rest) b.2)
      (takes_then bytes (first.spell a.0.0) a.0.1 ((second a.0.0).spell b.0.0) b.0.1 t.0 u.0, (t.1, u.1))

  pub depending_both : BothWays (depending first second)
  depending_both = record { again = both_again; takes = both_takes }

pub both_both : {A B : Type 0} (first : Field A) (second : Field B) → BothWays first → BothWays second → BothWays (first & second)
both_both first second ways others = depending_both first (λ _. second) ways (λ _. others)

-- ---- so many bytes

pub bytes_again : (n : ℕ) (text rest : List ℕ) → length text ≡ n → bytes_at n (text ++ rest) ≡ Ok (text, rest)
unfolding bytes_at
bytes_again n text rest len =
    let long : ltb (length (text ++ rest)) n ≡ false = le-ltb _ _ (omega (arith, length-append text rest)) in
    rw (long, take_at text rest n len, drop_at text rest n len) refl

pub bytes_takes : (n : ℕ) (bytes text rest : List ℕ) → AreBytes bytes → bytes_at n bytes ≡ Ok (text, rest) → Takes bytes text rest × (length text ≡ n)
unfolding bytes_at
bytes_takes n bytes text rest fits e =
    let g = guard_ok (ltb (length bytes) n) 0 (Ok (take n bytes, drop n bytes)) (text, rest) e in
    let long : n ≤ length bytes = ltb-false _ _ g.0 in
    subst (λ (p : List ℕ × List ℕ). Takes bytes p.0 p.1 × (length p.0 ≡ n)) (ok_is (take n bytes, drop n bytes) (text, rest) g.1)
    (record { parts = sym (take-append-drop n bytes); rest_fits = AreBytes-drop n bytes fits }, omega (arith, length-take n bytes))

-- ---- texts

module _ (size : Field ℕ) (is_text : List ℕ → Bool) (ways : BothWays size) where
  text_again : (t rest : List ℕ) → size.fits (length t) × IsTrue (is_text t) → text_at size.read is_text ((size.spell (length t) ++ t) ++ rest) ≡ Ok (t, rest)
  unfolding text_at
  text_again t rest h =
      ap (text_at size.read is_text) (append_assoc (size.spell (length t)) t rest)
      ∙ rw (ways.again (length t) (t ++ rest) h.0, bytes_again (length t) t rest refl, h.1) refl

  text_takes : (bytes t rest : List ℕ) → AreBytes bytes → text_at size.read is_text bytes ≡ Ok (t, rest) → Takes bytes (size.spell (length t) ++ t) rest × (size.fits (length t) × IsTrue (is_text t))
  unfolding text_at
  text_takes bytes t rest fits e =
      let a = bind_ok (size.read bytes) (λ n. bytes_at n.0 n.1 >>= λ x. cond (is_text x.0) (Ok x) (Err (length bytes))) (t, rest) e in
      let b = bind_ok (bytes_at a.0.0 a.0.1) (λ x. cond (is_text x.0) (Ok x) (Err (length bytes))) (t, rest) a.2 in
      let g = test_ok (is_text b.0.0) (length bytes) b.0 (t, rest) b.2 in
      let u = ways.takes bytes a.0.0 a.0.1 fits a.1 in
      let v = bytes_takes a.0.0 a.0.1 b.0.0 b.0.1 u.0.rest_fits b.1 in
      let both = takes_then bytes (size.spell a.0.0) a.0.1 b.0.0 b.0.1 u.0 v.0 in
      subst (λ (p : List ℕ × List ℕ). Takes bytes (size.spell (length p.0) ++ p.0) p.1 × (size.fits (length p.0) × IsTrue (is_text p.0))) g.1
      (subst (λ (k : ℕ). Takes bytes (size.spell k ++ b.0.0) b.0.1 × (size.fits k × IsTrue (is_text b.0.0))) (sym v.1) (both, (u.1, g.0)))

  pub text_both : BothWays (text size is_text)
  text_both = record { again = text_again; takes = text_takes }

pub short_text_both : (most : ℕ) (is_text : List ℕ → Bool) → BothWays (short_text most is_text)
short_text_both most is_text = text_both (judged (between 1 most) byte) is_text (judged_both (between 1 most) byte byte_both)

-- ---- a text or none

not_zero : (n : ℕ) (rest : List ℕ) → 1 ≤ n → starts_with_zero (n ∷ rest) ≡ false
not_zero n rest le = ne_eqb n 0 (λ e. absurd (omega arith))

module _ (most : ℕ) (is_text : List ℕ → Bool) where
  longer : (t : List ℕ) → (short_text most is_text).fits t → 1 ≤ length t
  longer t h = leb-true 1 (length t) (and_parts (nat_le 1 (length t)) (nat_le (length t) most) h.0.1).0

  optional_again : (o : Option (List ℕ)) (rest : List ℕ) → (optional most is_text).fits o → (optional most is_text).read ((optional most is_text).spell o ++ rest) ≡ Ok (o, rest)
  unfolding optional_at
  optional_again None rest h = refl
  optional_again (Some t) rest h =
      rw (not_zero (length t) (t ++ rest) (longer t h), (short_text_both most is_text).again t rest h) refl

  optional_takes : (bytes : List ℕ) (o : Option (List ℕ)) (rest : List ℕ) → AreBytes bytes → (optional most is_text).read bytes ≡ Ok (o, rest) → Takes bytes ((optional most is_text).spell o) rest × (optional most is_text).fits o
  unfolding optional_at
  optional_takes [] o rest fits e =
      let a = bind_ok ((short_text most is_text).read []) (λ x. Ok (Some x.0, x.1)) (o, rest) e in
      let t = (short_text_both most is_text).takes [] a.0.0 a.0.1 fits a.1 in
      subst (λ (p : Option (List ℕ) × List ℕ). Takes [] ((optional most is_text).spell p.0) p.1 × (optional most is_text).fits p.0) (ok_is (Some a.0.0, a.0.1) (o, rest) a.2) t
  optional_takes (zero ∷ bytes) o rest fits e =
      subst (λ (p : Option (List ℕ) × List ℕ). Takes (0 ∷ bytes) ((optional most is_text).spell p.0) p.1 × (optional most is_text).fits p.0) (ok_is (None, bytes) (o, rest) e)
      (record { parts = refl; rest_fits = AreBytes-rest 0 bytes fits }, tt)
  optional_takes (suc n ∷ bytes) o rest fits e =
      let not = not_zero (suc n) bytes (omega arith) in
      let after : Result (Option (List ℕ) × List ℕ) ℕ = (short_text most is_text).read (suc n ∷ bytes) >>= λ x. Ok (Some x.0, x.1) in
      let read : after ≡ Ok (o, rest) = sym (ap (λ (b : Bool). cond b (Ok (None, bytes)) after) not) ∙ e in
      let a = bind_ok ((short_text most is_text).read (suc n ∷ bytes)) (λ x. Ok (Some x.0, x.1)) (o, rest) read in
      let t = (short_text_both most is_text).takes (suc n ∷ bytes) a.0.0 a.0.1 fits a.1 in
      subst (λ (p : Option (List ℕ) × List ℕ). Takes (suc n ∷ bytes) ((optional most is_text).spell p.0) p.1 × (optional most is_text).fits p.0) (ok_is (Some a.0.0, a.0.1) (o, rest) a.2) t

  pub optional_both : BothWays (optional most is_text)
  optional_both = record { again = optional_again; takes = optional_takes }

-- ---- a flag

flag_again : (b : Bool) (rest : List ℕ) → flag_at (flag.spell b ++ rest) ≡ Ok (b, rest)
unfolding flag_at byte_at
flag_again false rest = refl
flag_again true rest = refl

abbrev flag_from : ℕ → ℕ → List ℕ → Result (Bool × List ℕ) ℕ
flag_from n left after = cond (eqb n 0) (Ok (false, after)) (cond (eqb n 1) (Ok (true, after)) (Err left))

flag_value : (n left : ℕ) (after : List ℕ) (b : Bool) (rest : List ℕ) → flag_from n left after ≡ Ok (b, rest) → (flag.spell b ≡ n ∷ []) × (after ≡ rest)
flag_value n left after b rest e =
    elim (cases_Bool (eqb n 0)) [
      | inl is ↦
          let same = ok_is (false, after) (b, rest) (sym (ap (λ (t : Bool). cond t (Ok (false, after)) (cond (eqb n 1) (Ok (true, after)) (Err left))) is) ∙ e) in
          let zero-is : n ≡ 0 = eqb-true _ _ is in
          (ap (λ (p : Bool × List ℕ). flag.spell p.0) (sym same) ∙ ap (λ (k : ℕ). k ∷ []) (sym zero-is), ap (λ (p : Bool × List ℕ). p.1) same)
      | inr not ↦
          let read : cond (eqb n 1) (Ok (true, after)) (Err left) ≡ Ok (b, rest) = sym (ap (λ (t : Bool). cond t (Ok (false, after)) (cond (eqb n 1) (Ok (true, after)) (Err left))) not) ∙ e in
          let t = test_ok (eqb n 1) left (true, after) (b, rest) read in
          let one-is : n ≡ 1 = eqb-true _ _ t.0 in
          (ap (λ (p : Bool × List ℕ). flag.spell p.0) (sym t.1) ∙ ap (λ (k : ℕ). k ∷ []) (sym one-is), ap (λ (p : Bool × List ℕ). p.1) t.1)
    ]

flag_takes : (bytes : List ℕ) (b : Bool) (rest : List ℕ) → AreBytes bytes → flag_at bytes ≡ Ok (b, rest) → Takes bytes (flag.spell b) rest × Unit {0}
unfolding flag_at
flag_takes bytes b rest fits e =
    let a = bind_ok (byte_at bytes) (λ x. flag_from x.0 (length bytes) x.1) (b, rest) e in
    let t = byte_takes bytes a.0.0 a.0.1 fits a.1 in
    let is = flag_value a.0.0 (length bytes) a.0.1 b rest a.2 in
    (subst (λ (l : List ℕ). Takes bytes (flag.spell b) l) is.1 (subst (λ (l : List ℕ). Takes bytes l a.0.1) (sym is.0) t.0), tt)

pub flag_both : BothWays flag
flag_both = record { again = λ b rest h. flag_again b rest; takes = flag_takes }

-- ---- a completion code

code_again : (c : Code) (rest : List ℕ) → number_of c ≤ 4095 → code_at (code.spell c ++ rest) ≡ Ok (c, rest)
unfolding code_at byte_at
code_again (System n) rest h =
    let small : ltb 4095 n ≡ false = le-ltb _ _ h in
    rw (number_again w16 (2 ^ 16) wide16 n rest (omega arith), small) refl
code_again (User n) rest h =
    let small : ltb 4095 n ≡ false = le-ltb _ _ h in
    rw (number_again w16 (2 ^ 16) wide16 n rest (omega arith), small) refl

abbrev code_from : ℕ → ℕ → ℕ → List ℕ → Result (Code × List ℕ) ℕ
code_from letter n left after = cond (eqb letter 83) (Ok (System n, after)) (cond (eqb letter 85) (Ok (User n, after)) (Err left))

code_letter : (letter n left : ℕ) (after : List ℕ) (c : Code) (rest : List ℕ) → n ≤ 4095 → code_from letter n left after ≡ Ok (c, rest)
    → (code.spell c ≡ letter ∷ to_be_bytes w16 n) × (number_of c ≤ 4095) × (after ≡ rest)
code_letter letter n left after c rest small e =
    elim (cases_Bool (eqb letter 83)) [
      | inl s ↦
          let same = ok_is (System n, after) (c, rest) (sym (ap (λ (b : Bool). cond b (Ok (System n, after)) (cond (eqb letter 85) (Ok (User n, after)) (Err left))) s) ∙ e) in
          let is : System n ≡ c = ap (λ (p : Code × List ℕ). p.0) same in
          let letter-is : letter ≡ 83 = eqb-true _ _ s in
          (ap code.spell (sym is) ∙ ap (λ (k : ℕ). k ∷ to_be_bytes w16 n) (sym letter-is), subst (λ (x : Code). number_of x ≤ 4095) is small, ap (λ (p : Code × List ℕ). p.1) same)
      | inr not ↦
          let read : cond (eqb letter 85) (Ok (User n, after)) (Err left) ≡ Ok (c, rest) = sym (ap (λ (b : Bool). cond b (Ok (System n, after)) (cond (eqb letter 85) (Ok (User n, after)) (Err left))) not) ∙ e in
          let t = test_ok (eqb letter 85) left (User n, after) (c, rest) read in
          let is : User n ≡ c = ap (λ (p : Code × List ℕ). p.0) t.1 in
          let letter-is : letter ≡ 85 = eqb-true _ _ t.0 in
          (ap code.spell (sym is) ∙ ap (λ (k : ℕ). k ∷ to_be_bytes w16 n) (sym letter-is), subst (λ (x : Code). number_of x ≤ 4095) is small, ap (λ (p : Code × List ℕ). p.1) t.1)
    ]

code_takes : (bytes : List ℕ) (c : Code) (rest : List ℕ) → AreBytes bytes → code_at bytes ≡ Ok (c, rest) → Takes bytes (code.spell c) rest × (number_of c ≤ 4095)
unfolding code_at
code_takes bytes c rest fits e =
    let a = bind_ok (byte_at bytes) (λ letter. number_at w16 letter.1 >>= λ n. cond (ltb 4095 n.0) (Err (length bytes)) (code_from letter.0 n.0 (length bytes) n.1)) (c, rest) e in
    let b = bind_ok (number_at w16 a.0.1) (λ n. cond (ltb 4095 n.0) (Err (length bytes)) (code_from a.0.0 n.0 (length bytes) n.1)) (c, rest) a.2 in
    let t = byte_takes bytes a.0.0 a.0.1 fits a.1 in
    let u = number_takes w16 (2 ^ 16) wide16 a.0.1 b.0.0 b.0.1 t.0.rest_fits b.1 in
    let g = guard_ok (ltb 4095 b.0.0) (length bytes) (code_from a.0.0 b.0.0 (length bytes) b.0.1) (c, rest) b.2 in
    let is = code_letter a.0.0 b.0.0 (length bytes) b.0.1 c rest (ltb-false _ _ g.0) g.1 in
    let both = takes_then bytes (a.0.0 ∷ []) a.0.1 (to_be_bytes w16 b.0.0) b.0.1 t.0 u.0 in
    (subst (λ (l : List ℕ). Takes bytes (code.spell c) l) is.2 (subst (λ (l : List ℕ). Takes bytes l b.0.1) (sym is.0) both), is.1)

pub code_both : BothWays code
code_both = record { again = code_again; takes = code_takes }

-- ---- a list

module _ {A : Type 0} (field : Field A) (ways : BothWays field) where
  times_again : (xs : List A) (rest : List ℕ) → each_fits field.fits xs → times_at field.read (length xs) (spell_each field.spell xs ++ rest) ≡ Ok (xs, rest)
  unfolding times_at
  times_again [] rest h = refl
  times_again (x ∷ xs) rest h =
      ap (times_at field.read (suc (length xs))) (append_assoc (field.spell x) (spell_each field.spell xs) rest)
      ∙ rw (ways.again x (spell_each field.spell xs ++ rest) h.0, times_again xs rest h.1) refl

  times_takes : (n : ℕ) (bytes : List ℕ) (xs : List A) (rest : List ℕ) → AreBytes bytes → times_at field.read n bytes ≡ Ok (xs, rest) → Takes bytes (spell_each field.spell xs) rest × (length xs ≡ n) × each_fits field.fits xs
  unfolding times_at
  times_takes zero bytes xs rest fits e =
      subst (λ (p : List A × List ℕ). Takes bytes (spell_each field.spell p.0) p.1 × (length p.0 ≡ 0) × each_fits field.fits p.0) (ok_is ([], bytes) (xs, rest) e) (record { parts = refl; rest_fits = fits }, refl, tt)
  times_takes (suc n) bytes xs rest fits e =
      let a = bind_ok (field.read bytes) (λ first. times_at field.read n first.1 >>= λ others. Ok (first.0 ∷ others.0, others.1)) (xs, rest) e in
      let b = bind_ok (times_at field.read n a.0.1) (λ others. Ok (a.0.0 ∷ others.0, others.1)) (xs, rest) a.2 in
      let t = ways.takes bytes a.0.0 a.0.1 fits a.1 in
      let u = times_takes n a.0.1 b.0.0 b.0.1 t.0.rest_fits b.1 in
      subst (λ (p : List A × List ℕ). Takes bytes (spell_each field.spell p.0) p.1 × (length p.0 ≡ suc n) × each_fits field.fits p.0) (ok_is (a.0.0 ∷ b.0.0, b.0.1) (xs, rest) b.2)
      (takes_then bytes (field.spell a.0.0) a.0.1 (spell_each field.spell b.0.0) b.0.1 t.0 u.0, ap suc u.1, (t.1, u.2))

  module _ (count : Field ℕ) (counts : BothWays count) where
    items_again : (xs : List A) (rest : List ℕ) → (items count field).fits xs → (items count field).read ((items count field).spell xs ++ rest) ≡ Ok (xs, rest)
    items_again xs rest h =
        ap (items count field).read (append_assoc (count.spell (length xs)) (spell_each field.spell xs) rest)
        ∙ rw (counts.again (length xs) (spell_each field.spell xs ++ rest) h.0) (times_again xs rest h.1)

    items_takes : (bytes : List ℕ) (xs : List A) (rest : List ℕ) → AreBytes bytes → (items count field).read bytes ≡ Ok (xs, rest) → Takes bytes ((items count field).spell xs) rest × (items count field).fits xs
    items_takes bytes xs rest fits e =
        let a = bind_ok (count.read bytes) (λ n. times_at field.read n.0 n.1) (xs, rest) e in
        let t = counts.takes bytes a.0.0 a.0.1 fits a.1 in
        let u = times_takes a.0.0 a.0.1 xs rest t.0.rest_fits a.2 in
        let both = takes_then bytes (count.spell a.0.0) a.0.1 (spell_each field.spell xs) rest t.0 u.0 in
        subst (λ (k : ℕ). Takes bytes (count.spell k ++ spell_each field.spell xs) rest × (count.fits k × each_fits field.fits xs)) (sym u.1) (both, (t.1, u.2))

    pub items_both : BothWays (items count field)
    items_both = record { again = items_again; takes = items_takes }

-- ---- blocks

module _ (size : ℕ) (positive : 0 < size) where
  blocks_again : (xs rest : List ℕ) → (blocks size).fits xs → (blocks size).read ((blocks size).spell xs ++ rest) ≡ Ok (xs, rest)
  blocks_again xs rest h =
      ap (blocks size).read (append_assoc (to_be_bytes w32 (length xs / size)) xs rest)
      ∙ rw (number_again w32 (2 ^ 32) wide32 (length xs / size) (xs ++ rest) h.1) (bytes_again (size * (length xs / size)) xs rest h.0)

  blocks_takes : (bytes xs rest : List ℕ) → AreBytes bytes → (blocks size).read bytes ≡ Ok (xs, rest) → Takes bytes ((blocks size).spell xs) rest × (blocks size).fits xs
  blocks_takes bytes xs rest fits e =
      let a = bind_ok (number_at w32 bytes) (λ n. bytes_at (size * n.0) n.1) (xs, rest) e in
      let t = number_takes w32 (2 ^ 32) wide32 bytes a.0.0 a.0.1 fits a.1 in
      let u = bytes_takes (size * a.0.0) a.0.1 xs rest t.0.rest_fits a.2 in
      let both = takes_then bytes (to_be_bytes w32 a.0.0) a.0.1 xs rest t.0 u.0 in
      let many : a.0.0 ≡ length xs / size = sym (ap (λ (k : ℕ). k / size) u.1 ∙ mul-div_cancel_left a.0.0 positive) in
      subst (λ (k : ℕ). Takes bytes (to_be_bytes w32 k ++ xs) rest × ((length xs ≡ size * k) × (k < 2 ^ 32))) many (both, (u.1, t.1))

  pub blocks_both : BothWays (blocks size)
  blocks_both = record { again = blocks_again; takes = blocks_takes }

-- ---- a value in another form

module _ {A B : Type 0} (make : A → B) (field : Field A) (ways : BothWays field) where
  pub made_again : (x : A) (rest : List ℕ) → field.fits x → seen_at make field.read (field.spell x ++ rest) ≡ Ok (make x, rest)
  made_again x rest h = rw (ways.again x rest h) refl

  -- with nothing behind it
  pub made_alone : (x : A) → field.fits x → seen_at make field.read (field.spell x) ≡ Ok (make x, [])
  made_alone x h = ap (seen_at make field.read) (sym (append-nil (field.spell x))) ∙ made_again x [] h

  pub made_takes : (bytes : List ℕ) (y : B) (rest : List ℕ) → AreBytes bytes → seen_at make field.read bytes ≡ Ok (y, rest)
      → (x : A) × (make x ≡ y) × Takes bytes (field.spell x) rest × field.fits x
  made_takes bytes y rest fits e =
      let a = bind_ok (field.read bytes) (λ x. Ok (make x.0, x.1)) (y, rest) e in
      let same = ok_is (make a.0.0, a.0.1) (y, rest) a.2 in
      let t = ways.takes bytes a.0.0 a.0.1 fits a.1 in
      (a.0.0, ap (λ (p : B × List ℕ). p.0) same, subst (λ (l : List ℕ). Takes bytes (field.spell a.0.0) l) (ap (λ (p : B × List ℕ). p.1) same) t.0, t.1)

  -- where the values are the same in both forms
  module _ (parts : B → A) (made : (x : B) → make (parts x) ≡ x) (parted : (x : A) → parts (make x) ≡ x) where
    seen_again : (x : B) (rest : List ℕ) → field.fits (parts x) → seen_at make field.read (field.spell (parts x) ++ rest) ≡ Ok (x, rest)
    seen_again x rest h = made_again (parts x) rest h ∙ ap (λ (y : B). Ok (y, rest)) (made x)

    seen_takes : (bytes : List ℕ) (y : B) (rest : List ℕ) → AreBytes bytes → seen_at make field.read bytes ≡ Ok (y, rest) → Takes bytes (field.spell (parts y)) rest × field.fits (parts y)
    seen_takes bytes y rest fits e =
        let m = made_takes bytes y rest fits e in
        subst (λ (x : A). Takes bytes (field.spell x) rest × field.fits x) (sym (parted m.0) ∙ ap parts m.1) (m.2, m.3)

    pub seen_both : BothWays (seen make parts field)
    seen_both = record { again = seen_again; takes = seen_takes }

-- ---- values behind a tag that tells their form

module _ {E : Type 0} (spell : E → List ℕ) (fits : E → Type 0) (bytes : List ℕ) where
  -- what is read behind the tag fits, and is spelled so
  abbrev pub IsTagged : ℕ → Result (E × List ℕ) ℕ → Type 0
  IsTagged tag reading = (y : E) (rest : List ℕ) → reading ≡ Ok (y, rest) → Takes (tag ∷ bytes) (spell y) rest × fits y

  pub none_tagged : (tag left : ℕ) → IsTagged tag (Err left)
  none_tagged tag left y rest e = absurd cc

  pub is_tagged : {A : Type 0} (tag : ℕ) (make : A → E) (field : Field A) → BothWays field → ((x : A) → spell (make x) ≡ tag ∷ field.spell x) → ((x : A) → field.fits x → fits (make x))
      → AreBytes bytes → IsTagged tag (seen_at make field.read bytes)
  is_tagged tag make field ways spelled fitted are y rest e =
      let m = made_takes make field ways bytes y rest are e in
      subst (λ (z : E). Takes (tag ∷ bytes) (spell z) rest × fits z) m.1
      (record { parts = ap (λ (l : List ℕ). tag ∷ l) m.2.parts ∙ ap (λ (l : List ℕ). l ++ rest) (sym (spelled m.0)); rest_fits = m.2.rest_fits }, fitted m.0 m.3)

  pub if_tag : (tag k : ℕ) (here other : Result (E × List ℕ) ℕ) → IsTagged k here → IsTagged tag other → IsTagged tag (cond (eqb tag k) here other)
  if_tag tag k here other is or y rest e = elim (cases_Bool (eqb tag k)) [
    | inl same ↦
        let tag-is : tag ≡ k = eqb-true _ _ same in
        subst (λ (t : ℕ). Takes (t ∷ bytes) (spell y) rest × fits y) (sym tag-is) (is y rest (sym (ap (λ (b : Bool). cond b here other) same) ∙ e))
    | inr not ↦ or y rest (sym (ap (λ (b : Bool). cond b here other) not) ∙ e)
  ]
