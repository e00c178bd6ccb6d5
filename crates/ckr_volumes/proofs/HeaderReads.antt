-- A header that is read is spelled so.
use Rattle.std.proofs.Common.{◌≡◌, ◌≤◌, ℕ, suc, ◌+◌, ◌-◌, ◌*◌, Bool, true, false, not, cond, ◌||◌, IsTrue, nat_le, nat_lt, eqb, List, [], ◌∷◌, ◌++◌, length, take, replicate, flat_map, position, Option, Some, None, Result, Ok, Err, IfOk, refl, ap, sym, ◌∙◌, subst, arith, append_assoc}
use Rattle.std.specs.List.{position_or_len}
use Rattle.std.proofs.lemmas.Bool.{and_parts, eqb-true, ltb-false}
use Rattle.ckr_base.specs.declared.code.Code.{Code}
use Rattle.ckr_base.proofs.Numbers.{nat_le-true}
use Rattle.ckr_base.proofs.Options.{some-not-none}
use Rattle.ckr_outside.specs.Disk.{part}
use Rattle.ckr_volumes.specs.declared.header.HeaderError.{HeaderError}
use Rattle.ckr_volumes.specs.declared.header.HeaderError.TheVariants.{NotFormatted, Version, BadHeader}
use Rattle.ckr_volumes.specs.declared.layout.Layout.{Layout}
use Rattle.ckr_volumes.specs.declared.layout.Volume.{Volume}
use Rattle.ckr_volumes.specs.Header.{half, word, volume_bytes, code_bytes, fixed_bytes, field_bytes, header_bytes, byte_at, half_at, word_at, is_formatted, is_within, lengths_at, front_at, fixed_fault, volumes_at, codes_at, marked, mark_behind, layout_with, by_rest, by_codes, by_volumes, by_fixed, header_of, IsHeader, HeaderRead}
use Rattle.ckr_volumes.proofs.Headers.{none_place}
use Rattle.ckr_volumes.proofs.HeaderSpelling.{fields-length}
use Rattle.ckr_volumes.proofs.HeaderParts.{AreBytes, VolumesRead, CodesRead, part-join, part-length, part-next, half-part, word-part, volumes-read, codes-read}

-- ---- zeros

zeros_by : (xs : List ℕ) → position_or_len (λ byte. not (eqb byte 0)) xs ≡ length xs → xs ≡ replicate (length xs) 0
zeros_by [] is = refl
zeros_by (x ∷ xs) is =
    (elim (eqb x 0) as (λ b. eqb x 0 ≡ b → cond (not (not b)) (1 + position_or_len (λ byte. not (eqb byte 0)) xs) 0 ≡ suc (length xs) → x ∷ xs ≡ 0 ∷ replicate (length xs) 0) [
      | true ↦ λ e is. λ i. eqb-true x 0 e i ∷ zeros_by xs (omega (arith, is)) i
      | false ↦ λ e is. absurd (omega (arith, is))
    ]) refl is

unmarked : (at : ℕ) (found : Option ℕ) → marked at found ≡ None → found ≡ None
unmarked at None e = refl
unmarked at (Some place) e = absurd (some-not-none (at + place) e)

zeros-read : (bytes : List ℕ) (at : ℕ) → at ≤ 512 → 512 ≤ length bytes → mark_behind bytes at ≡ None → part at (512 - at) bytes ≡ replicate (512 - at) 0
unfolding mark_behind
zeros-read bytes at low long none =
    let rest = part at (512 - at) bytes in
    let long_rest : length rest ≡ 512 - at = part-length at (512 - at) bytes (omega (arith, low, long)) in
    let all : rest ≡ replicate (length rest) 0 = zeros_by rest (sym (none_place (λ byte. not (eqb byte 0)) rest (unmarked at (position (λ byte. not (eqb byte 0)) rest) none))) in
    all ∙ ap (λ n. replicate n 0) long_rest

-- ---- the whole

no_fault : {A : Type 0} (k : ℕ) → Some k ≡ None → A
no_fault k e = absurd (some-not-none k e)

passed : (b : Bool) (k : ℕ) (rest : Option ℕ) → cond (not b) (Some k) rest ≡ None → IsTrue b × (rest ≡ None)
passed true k rest e = (refl, e)
passed false k rest e = no_fault k e

passed_both : (b c : Bool) (k : ℕ) (rest : Option ℕ) → cond (not b || c) (Some k) rest ≡ None → IsTrue b × (c ≡ false) × (rest ≡ None)
passed_both true true k rest e = no_fault k e
passed_both true false k rest e = (refl, refl, e)
passed_both false c k rest e = no_fault k e

pub record FixedFine (bytes : List ℕ) (size : ℕ) : Type 0 where
  pub initiators : IsTrue (is_within 1 8 (byte_at bytes 7))
  pub units : IsTrue (is_within 1 16 (byte_at bytes 8))
  pub volumes : IsTrue (is_within 1 32 (byte_at bytes 9))
  pub codes : IsTrue (is_within 1 32 (byte_at bytes 10))
  pub book : IsTrue (is_within 256 268435456 (word_at bytes 11))
  pub needed : nat_lt size (front_at bytes + lengths_at (byte_at bytes 9) bytes 19) ≡ false
  pub image : word_at bytes 15 ≡ 0

fixed-fine : (bytes : List ℕ) (size : ℕ) → fixed_fault bytes size ≡ None → FixedFine bytes size
unfolding fixed_fault
fixed-fine bytes size none =
    let a = passed (is_within 1 8 (byte_at bytes 7)) 7 _ none in
    let b = passed (is_within 1 16 (byte_at bytes 8)) 8 _ a.1 in
    let c = passed (is_within 1 32 (byte_at bytes 9)) 9 _ b.1 in
    let d = passed (is_within 1 32 (byte_at bytes 10)) 10 _ c.1 in
    let e = passed_both (is_within 256 268435456 (word_at bytes 11)) (nat_lt size (front_at bytes + lengths_at (byte_at bytes 9) bytes 19)) 11 _ d.1 in
    let f = passed (eqb (word_at bytes 15) 0) 15 None e.2 in
    record { initiators = a.0; units = b.0; volumes = c.0; codes = d.0; book = e.0; needed = e.1; image = eqb-true (word_at bytes 15) 0 f.0 }

pub record Formatted (bytes : List ℕ) : Type 0 where
  pub long : 512 ≤ length bytes
  pub front : part 0 5 bytes ≡ 1 ∷ 67 ∷ 75 ∷ 82 ∷ 68 ∷ []

formatted-read : (bytes : List ℕ) → IsTrue (is_formatted bytes) → Formatted bytes
unfolding is_formatted
formatted-read bytes is =
    let a = and_parts (nat_le 512 (length bytes)) _ is in
    let b = and_parts (eqb (byte_at bytes 0) 1) _ a.1 in
    let c = and_parts (eqb (byte_at bytes 1) 67) _ b.1 in
    let d = and_parts (eqb (byte_at bytes 2) 75) _ c.1 in
    let e = and_parts (eqb (byte_at bytes 3) 82) (eqb (byte_at bytes 4) 68) d.1 in
    let long : 512 ≤ length bytes = nat_le-true 512 (length bytes) a.0 in
    record {
      long = long;
      front = part-next 0 4 bytes (omega (arith, long)) ∙ ap (λ r. byte_at bytes 0 ∷ r) (part-next 1 3 bytes (omega (arith, long)))
          ∙ ap (λ r. byte_at bytes 0 ∷ byte_at bytes 1 ∷ r) (part-next 2 2 bytes (omega (arith, long)))
          ∙ ap (λ r. byte_at bytes 0 ∷ byte_at bytes 1 ∷ byte_at bytes 2 ∷ r) (part-next 3 1 bytes (omega (arith, long)))
          ∙ ap (λ r. byte_at bytes 0 ∷ byte_at bytes 1 ∷ byte_at bytes 2 ∷ byte_at bytes 3 ∷ r) (part-next 4 0 bytes (omega (arith, long)))
          ∙ (λ i. eqb-true (byte_at bytes 0) 1 b.0 i ∷ eqb-true (byte_at bytes 1) 67 c.0 i ∷ eqb-true (byte_at bytes 2) 75 d.0 i ∷ eqb-true (byte_at bytes 3) 82 e.0 i ∷ eqb-true (byte_at bytes 4) 68 e.1 i ∷ []);
    }

within_most : (least most n : ℕ) → IsTrue (is_within least most n) → n ≤ most
within_most least most n is = nat_le-true n most (and_parts (nat_le least n) (nat_le n most) is).1

module _ (bytes : List ℕ) (size : ℕ) (all : AreBytes bytes) (formatted : Formatted bytes) (version : half_at bytes 5 ≡ 1) (fine : FixedFine bytes size) where
  volumes_most : byte_at bytes 9 ≤ 32
  volumes_most = within_most 1 32 (byte_at bytes 9) fine.volumes

  codes_most : byte_at bytes 10 ≤ 32
  codes_most = within_most 1 32 (byte_at bytes 10) fine.codes

  four : part 7 4 bytes ≡ byte_at bytes 7 ∷ byte_at bytes 8 ∷ byte_at bytes 9 ∷ byte_at bytes 10 ∷ []
  four =
      part-next 7 3 bytes (omega (arith, formatted.long)) ∙ ap (λ r. byte_at bytes 7 ∷ r) (part-next 8 2 bytes (omega (arith, formatted.long)))
      ∙ ap (λ r. byte_at bytes 7 ∷ byte_at bytes 8 ∷ r) (part-next 9 1 bytes (omega (arith, formatted.long)))
      ∙ ap (λ r. byte_at bytes 7 ∷ byte_at bytes 8 ∷ byte_at bytes 9 ∷ r) (part-next 10 0 bytes (omega (arith, formatted.long)))

  fixed-read : (volumes : List Volume) (codes : List Code) → length volumes ≡ byte_at bytes 9 → length codes ≡ byte_at bytes 10 → part 0 19 bytes ≡ fixed_bytes (layout_with bytes volumes codes)
  fixed-read volumes codes v c =
      part-join 0 5 14 bytes ∙ ap (λ r. part 0 5 bytes ++ r) (part-join 5 2 12 bytes ∙ ap (λ r. part 5 2 bytes ++ r) (part-join 7 4 8 bytes ∙ ap (λ r. part 7 4 bytes ++ r) (part-join 11 4 4 bytes)))
      ∙ (λ i. formatted.front i ++ (half-part bytes 5 all (omega (arith, formatted.long)) i ++ (four i ++ (word-part bytes 11 all (omega (arith, formatted.long)) i ++ word-part bytes 15 all (omega (arith, formatted.long)) i))))
      ∙ (λ i. (1 ∷ 67 ∷ 75 ∷ 82 ∷ 68 ∷ []) ++ (half (half_at bytes 5) ++ ((byte_at bytes 7 ∷ byte_at bytes 8 ∷ sym v i ∷ sym c i ∷ []) ++ (word (word_at bytes 11) ++ word (word_at bytes 15)))))

  module _ (whole : List Volume) (eligible : List Code) (volumes : VolumesRead (byte_at bytes 9) bytes [] (front_at bytes) 19 whole) (codes : CodesRead (byte_at bytes 10) bytes [] (19 + 10 * byte_at bytes 9) eligible)
      (rest : mark_behind bytes (19 + 10 * byte_at bytes 9 + 3 * byte_at bytes 10) ≡ None) where
    said-fits : IsHeader (layout_with bytes volumes.volumes codes.codes) size
    said-fits = record {
      version = version;
      initiators = fine.initiators;
      units = fine.units;
      volume_count = subst (λ n. IsTrue (is_within 1 32 n)) (sym volumes.count_is) fine.volumes;
      code_count = subst (λ n. IsTrue (is_within 1 32 n)) (sym codes.count_is) fine.codes;
      book = fine.book;
      image = fine.image;
      volumes = volumes.fit;
      codes = codes.fit;
      fits = subst (λ n. n ≤ size) volumes.lengths (ltb-false size (front_at bytes + lengths_at (byte_at bytes 9) bytes 19) fine.needed);
    }

    said-total : (v c : ℕ) → v ≤ 32 → c ≤ 32 → 512 ≡ 19 + (10 * v + (3 * c + (512 - (19 + 10 * v + 3 * c))))
    said-total v c few few_codes = omega (arith, few, few_codes)

    said-parts : take 512 bytes ≡ part 0 19 bytes ++ (part 19 (10 * byte_at bytes 9) bytes ++ (part (19 + 10 * byte_at bytes 9) (3 * byte_at bytes 10) bytes ++ part (19 + 10 * byte_at bytes 9 + 3 * byte_at bytes 10) (512 - (19 + 10 * byte_at bytes 9 + 3 * byte_at bytes 10)) bytes))
    said-parts =
        let v = byte_at bytes 9 in
        let c = byte_at bytes 10 in
        let z = 512 - (19 + 10 * v + 3 * c) in
        ap (λ n. part 0 n bytes) (said-total v c volumes_most codes_most)
        ∙ part-join 0 19 (10 * v + (3 * c + z)) bytes
        ∙ ap (λ r. part 0 19 bytes ++ r) (part-join 19 (10 * v) (3 * c + z) bytes ∙ ap (λ r. part 19 (10 * v) bytes ++ r) (part-join (19 + 10 * v) (3 * c) z bytes))

    said-length : length (field_bytes (layout_with bytes volumes.volumes codes.codes)) ≡ 19 + 10 * byte_at bytes 9 + 3 * byte_at bytes 10
    said-length = fields-length (layout_with bytes volumes.volumes codes.codes) size said-fits ∙ (λ i. 19 + 10 * volumes.count_is i + 3 * codes.count_is i)

    said-text : take 512 bytes ≡ header_bytes (layout_with bytes volumes.volumes codes.codes)
    said-text =
        let fixed = fixed_bytes (layout_with bytes volumes.volumes codes.codes) in
        let volume_text = flat_map volume_bytes volumes.volumes in
        let code_text = flat_map code_bytes codes.codes in
        let zeros : List ℕ = replicate (512 - length (field_bytes (layout_with bytes volumes.volumes codes.codes))) 0 in
        said-parts
        ∙ (λ i. fixed-read volumes.volumes codes.codes volumes.count_is codes.count_is i ++ (volumes.text i ++ (codes.text i
        ++ (zeros-read bytes (19 + 10 * byte_at bytes 9 + 3 * byte_at bytes 10) (omega (arith, volumes_most, codes_most)) formatted.long rest ∙ ap (λ n. replicate (512 - n) 0) (sym said-length)) i)))
        ∙ sym (append_assoc fixed volume_text (code_text ++ zeros))
        ∙ sym (append_assoc (fixed ++ volume_text) code_text zeros)

    header_from : HeaderRead bytes size (layout_with bytes whole eligible)
    header_from = subst (HeaderRead bytes size) (λ i. layout_with bytes (sym volumes.whole_is i) (sym codes.whole_is i)) (record { is = said-fits; laid = volumes.follow; text = said-text })

no_layout : {A : Type 0} (cause : HeaderError) (layout : Layout) → ◌≡◌ {A = Result Layout HeaderError} (Err cause) (Ok layout) → A
no_layout cause layout e = absurd (no cause layout e)
  where
    no : (cause : HeaderError) (layout : Layout) → ◌≡◌ {A = Result Layout HeaderError} (Err cause) (Ok layout) → ⊥
    no cause layout e = cc

same_layout : (a b : Layout) → ◌≡◌ {A = Result Layout HeaderError} (Ok a) (Ok b) → a ≡ b
same_layout a b e = cc

module _ (bytes : List ℕ) (size : ℕ) (layout : Layout) (all : AreBytes bytes) where
  rest_read : (whole : List Volume) (eligible : List Code) (found : Option ℕ) → by_rest bytes whole eligible found ≡ Ok layout → (found ≡ None) × (layout_with bytes whole eligible ≡ layout)
  rest_read whole eligible None is = (refl, same_layout (layout_with bytes whole eligible) layout is)
  rest_read whole eligible (Some offset) is = no_layout (BadHeader offset) layout is

  codes_by : (whole : List Volume) (read : Result (List Code) ℕ) → by_codes bytes whole read ≡ Ok layout → (eligible : List Code) × (read ≡ Ok eligible) × (mark_behind bytes (19 + 10 * byte_at bytes 9 + 3 * byte_at bytes 10) ≡ None) × (layout_with bytes whole eligible ≡ layout)
  codes_by whole (Ok eligible) is = let rest = rest_read whole eligible (mark_behind bytes (19 + 10 * byte_at bytes 9 + 3 * byte_at bytes 10)) is in (eligible, refl, rest.0, rest.1)
  codes_by whole (Err offset) is = no_layout (BadHeader offset) layout is

  volumes_by : (read : Result (List Volume) ℕ) → by_volumes bytes read ≡ Ok layout → (whole : List Volume) × (read ≡ Ok whole) × (by_codes bytes whole (codes_at (byte_at bytes 10) bytes [] (19 + 10 * byte_at bytes 9)) ≡ Ok layout)
  volumes_by (Ok whole) is = (whole, refl, is)
  volumes_by (Err offset) is = no_layout (BadHeader offset) layout is

  fixed_by : (found : Option ℕ) → by_fixed bytes found ≡ Ok layout → (found ≡ None) × (by_volumes bytes (volumes_at (byte_at bytes 9) bytes [] (front_at bytes) 19) ≡ Ok layout)
  fixed_by None is = (refl, is)
  fixed_by (Some offset) is = no_layout (BadHeader offset) layout is

  after_fixed : Formatted bytes → half_at bytes 5 ≡ 1 → by_fixed bytes (fixed_fault bytes size) ≡ Ok layout → HeaderRead bytes size layout
  after_fixed formatted version is =
      let fixed = fixed_by (fixed_fault bytes size) is in
      let fine = fixed-fine bytes size fixed.0 in
      let volumes = volumes_by (volumes_at (byte_at bytes 9) bytes [] (front_at bytes) 19) fixed.1 in
      let codes = codes_by volumes.0 (codes_at (byte_at bytes 10) bytes [] (19 + 10 * byte_at bytes 9)) volumes.2 in
      let few : byte_at bytes 9 ≤ 32 = within_most 1 32 (byte_at bytes 9) fine.volumes in
      let few_codes : byte_at bytes 10 ≤ 32 = within_most 1 32 (byte_at bytes 10) fine.codes in
      subst (HeaderRead bytes size) codes.3 (
      header_from bytes size all formatted version fine volumes.0 codes.0
      (volumes-read (byte_at bytes 9) bytes [] (front_at bytes) 19 volumes.0 all (omega (arith, few, formatted.long)) volumes.1)
      (codes-read (byte_at bytes 10) bytes [] (19 + 10 * byte_at bytes 9) codes.0 all (omega (arith, few, few_codes, formatted.long)) codes.1)
      codes.2)

  -- what a header says is a layout such as headers have, and the header is its spelling
  pub header-read : header_of bytes size ≡ Ok layout → HeaderRead bytes size layout
  unfolding header_of
  header-read is = by (is_formatted bytes) (eqb (half_at bytes 5) 1) refl refl is
    where
      by : (p q : Bool) → is_formatted bytes ≡ p → eqb (half_at bytes 5) 1 ≡ q → cond (not p) (Err NotFormatted) (cond (not q) (Err (Version (half_at bytes 5))) (by_fixed bytes (fixed_fault bytes size))) ≡ Ok layout → HeaderRead bytes size layout
      by false q e f is = no_layout NotFormatted layout is
      by true false e f is = no_layout (Version (half_at bytes 5)) layout is
      by true true e f is = after_fixed (formatted-read bytes e) (eqb-true (half_at bytes 5) 1 f) is

-- the same of a result
pub result-read : (bytes : List ℕ) (size : ℕ) (result : Result Layout HeaderError) → AreBytes bytes → result ≡ header_of bytes size → IfOk result (λ layout. HeaderRead bytes size layout)
result-read bytes size (Ok layout) all is = header-read bytes size layout all (sym is)
result-read bytes size (Err cause) all is = tt
