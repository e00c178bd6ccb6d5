-- The volumes and the codes of a header that are read are spelled so.
use Rattle.std.proofs.Common.{◌≡◌, ◌≤◌, ◌<◌, ℕ, zero, suc, ◌+◌, ◌-◌, ◌*◌, Bool, true, false, not, cond, ◌&&◌, IsTrue, nat_le, eqb, List, [], ◌∷◌, ◌++◌, length, take, drop, replicate, flat_map, get_or, Option, Some, None, Result, Ok, Err, refl, ap, sym, ◌∙◌, subst, arith, append_assoc, length-append, length-drop, take-append-drop}
use Rattle.std.specs.List.{list_all, list_any, position_or_len}
use Rattle.std.specs.Int.{w16, w32, from_be_bytes}
use Rattle.std.proofs.lemmas.Bool.{and_parts, and_from, eqb-true}
use Rattle.std.proofs.lemmas.Bool.Decides.{nat_tests}
use Rattle.std.proofs.lemmas.List.{drop-drop, length-take-le, append-nil}
use Rattle.std.proofs.lemmas.Nat.{be_bytes_2, be_bytes_4}
use Rattle.std.proofs.lemmas.Option.{none-some, same_Some}
use Rattle.ckr_base.specs.declared.code.Code.{Code}
use Rattle.ckr_base.specs.declared.code.Code.TheVariants.{System, User}
use Rattle.ckr_base.specs.CodeText.{number_of, code_letter, same_code}
use Rattle.ckr_base.specs.Grammar.{is_serial}
use Rattle.ckr_base.proofs.Numbers.{suc-is-plus}
use Rattle.ckr_outside.specs.Disk.{part}
use Rattle.ckr_volumes.specs.declared.layout.Volume.{Volume}
use Rattle.ckr_volumes.specs.Header.{half, word, padded, volume_bytes, code_bytes, byte_at, half_at, word_at, is_within, lengths_at, is_blank, serial_in, has_serial, volume_with, volume_at, volumes_at, code_in, code_with, code_at, codes_at, volumes_fit, codes_fit}
use Rattle.ckr_volumes.specs.Layouts.{volumes_follow, volumes_end}
use Rattle.ckr_volumes.proofs.Headers.{volumes_on, codes_on}

-- each one is a byte
abbrev pub AreBytes : List ℕ → Type 0
AreBytes bytes = (i : ℕ) → get_or bytes i 0 < 256

bytes_drop : (n : ℕ) (bytes : List ℕ) → AreBytes bytes → AreBytes (drop n bytes)
bytes_drop zero bytes all = all
bytes_drop (suc n) [] all = λ i. omega arith
bytes_drop (suc n) (b ∷ bytes) all = bytes_drop n bytes (λ i. all (suc i))

bytes_take : (n : ℕ) (bytes : List ℕ) → AreBytes bytes → AreBytes (take n bytes)
bytes_take zero bytes all i = omega arith
bytes_take (suc n) [] all i = omega arith
bytes_take (suc n) (b ∷ bytes) all zero = all 0
bytes_take (suc n) (b ∷ bytes) all (suc i) = bytes_take n bytes (λ k. all (suc k)) i

-- one part and another behind it
pub part-join : (at n m : ℕ) (bytes : List ℕ) → part at (n + m) bytes ≡ part at n bytes ++ part (at + n) m bytes
part-join at n m bytes = joined n (drop at bytes) ∙ ap (λ b. take n (drop at bytes) ++ take m b) (drop-drop n at bytes)
  where
    joined : (n : ℕ) (xs : List ℕ) → take (n + m) xs ≡ take n xs ++ take m (drop n xs)
    joined zero xs = ap (λ k. take k xs) (zero_sum m)
      where
        zero_sum : (k : ℕ) → 0 + k ≡ k
        zero_sum k = omega arith
    joined (suc n) [] = none (suc n + m) ∙ sym (none m)
      where
        none : (k : ℕ) → take {A = ℕ} k [] ≡ []
        none zero = refl
        none (suc k) = refl
    joined (suc n) (x ∷ xs) = ap (λ k. take k (x ∷ xs)) (more n m) ∙ ap (λ rest. x ∷ rest) (joined n xs)
      where
        more : (a b : ℕ) → suc a + b ≡ suc (a + b)
        more a b = omega arith

pub part-length : (at n : ℕ) (bytes : List ℕ) → at + n ≤ length bytes → length (part at n bytes) ≡ n
part-length at n bytes fits = length-take-le n (drop at bytes) (omega (arith, fits, length-drop at bytes))

-- a part that begins with a byte
pub part-next : (at n : ℕ) (bytes : List ℕ) → at < length bytes → part at (suc n) bytes ≡ byte_at bytes at ∷ part (suc at) n bytes
part-next at n [] less = absurd (omega (arith, less))
part-next zero n (b ∷ bytes) less = refl
part-next (suc at) n (b ∷ bytes) less = part-next at n bytes (omega (arith, less))

pub half-part : (bytes : List ℕ) (at : ℕ) → AreBytes bytes → at + 2 ≤ length bytes → part at 2 bytes ≡ half (half_at bytes at)
unfolding half_at
half-part bytes at all fits = sym (be_bytes_2 (part at 2 bytes) (from_be_bytes w16 (part at 2 bytes)) (part-length at 2 bytes fits) (bytes_take 2 (drop at bytes) (bytes_drop at bytes all)) refl)

pub word-part : (bytes : List ℕ) (at : ℕ) → AreBytes bytes → at + 4 ≤ length bytes → part at 4 bytes ≡ word (word_at bytes at)
unfolding word_at
word-part bytes at all fits = sym (be_bytes_4 (part at 4 bytes) (from_be_bytes w32 (part at 4 bytes)) (part-length at 4 bytes fits) (bytes_take 4 (drop at bytes) (bytes_drop at bytes all)) refl)

-- ---- a serial

blanks-read : (xs : List ℕ) → IsTrue (list_all is_blank xs) → xs ≡ replicate (length xs) 32
blanks-read [] all = refl
blanks-read (x ∷ xs) all =
    let both = and_parts (is_blank x) (list_all is_blank xs) all in
    λ i. eqb-true x 32 both.0 i ∷ blanks-read xs both.1 i

no_text : {A : Type 0} (serial : List ℕ) → None ≡ Some serial → A
no_text serial e = absurd (none-some serial e)

blanks_left : (n : ℕ) (field : List ℕ) → length field ≡ 6 → 6 - length (take n field) ≡ length (drop n field)
blanks_left n field six = omega (arith, six, ap length (take-append-drop n field), length-append (take n field) (drop n field))

serial_by : (n : ℕ) (field serial : List ℕ) → length field ≡ 6 → (b : Bool) → (is_serial (take n field) && list_all is_blank (drop n field)) ≡ b → cond b (Some (take n field)) None ≡ Some serial → (padded serial ≡ field) × IsTrue (is_serial serial)
serial_by n field serial six true e found =
    let both = and_parts (is_serial (take n field)) (list_all is_blank (drop n field)) e in
    let same : take n field ≡ serial = same_Some (take n field) serial found in (
      sym (ap padded same) ∙ ap (λ b. take n field ++ b) (ap (λ k. replicate k 32) (blanks_left n field six) ∙ sym (blanks-read (drop n field) both.1)) ∙ take-append-drop n field,
      subst (λ t. IsTrue (is_serial t)) same both.0,
    )
serial_by n field serial six false e found = no_text serial found

serial-read : (field serial : List ℕ) → length field ≡ 6 → serial_in field ≡ Some serial → (padded serial ≡ field) × IsTrue (is_serial serial)
unfolding serial_in
serial-read field serial six is = serial_by (position_or_len is_blank field) field serial six (is_serial (take (position_or_len is_blank field) field) && list_all is_blank (drop (position_or_len is_blank field) field)) refl is

-- ---- a volume

no_volume : {A : Type 0} (offset : ℕ) (volume : Volume) → ◌≡◌ {A = Result Volume ℕ} (Err offset) (Ok volume) → A
no_volume offset volume e = absurd (no offset volume e)
  where
    no : (offset : ℕ) (volume : Volume) → ◌≡◌ {A = Result Volume ℕ} (Err offset) (Ok volume) → ⊥
    no offset volume e = cc

same_volume : (a b : Volume) → ◌≡◌ {A = Result Volume ℕ} (Ok a) (Ok b) → a ≡ b
same_volume a b e = cc

-- what holds of a volume that was read
pub record VolumeRead (bytes : List ℕ) (made : List Volume) (start at : ℕ) (volume : Volume) : Type 0 where
  pub text : part at 10 bytes ≡ volume_bytes volume
  pub serial : IsTrue (is_serial volume.serial)
  pub fresh : IsTrue (not (has_serial made volume.serial))
  pub starts : volume.start ≡ start
  pub within : IsTrue (is_within 1024 268435456 volume.bytes)
  pub length : word_at bytes (at + 6) ≡ volume.bytes

volume_by : (bytes : List ℕ) (made : List Volume) (start at : ℕ) (volume : Volume) → AreBytes bytes → at + 10 ≤ length bytes
    → (found : Option (List ℕ)) → serial_in (part at 6 bytes) ≡ found → volume_with made start at (word_at bytes (at + 6)) found ≡ Ok volume → VolumeRead bytes made start at volume
volume_by bytes made start at volume all fits None e is = no_volume at volume is
volume_by bytes made start at volume all fits (Some serial) e is = by (has_serial made serial) (is_within 1024 268435456 (word_at bytes (at + 6))) refl refl is
  where
    by : (p q : Bool) → has_serial made serial ≡ p → is_within 1024 268435456 (word_at bytes (at + 6)) ≡ q
        → cond p (Err at) (cond q (Ok (record { serial = serial; start = start; bytes = word_at bytes (at + 6) })) (Err (at + 6))) ≡ Ok volume → VolumeRead bytes made start at volume
    by true q f g is = no_volume at volume is
    by false false f g is = no_volume (at + 6) volume is
    by false true f g is =
        let read = serial-read (part at 6 bytes) serial (part-length at 6 bytes (omega (arith, fits))) e in
        subst (VolumeRead bytes made start at) (same_volume (record { serial = serial; start = start; bytes = word_at bytes (at + 6) }) volume is) (record {
          text = part-join at 6 4 bytes ∙ (λ i. sym read.0 i ++ word-part bytes (at + 6) all (omega (arith, fits)) i);
          serial = read.1;
          fresh = ap not f;
          starts = refl;
          within = g;
          length = refl;
        })

volume-read : (bytes : List ℕ) (made : List Volume) (start at : ℕ) (volume : Volume) → AreBytes bytes → at + 10 ≤ length bytes → volume_at bytes made start at ≡ Ok volume → VolumeRead bytes made start at volume
unfolding volume_at
volume-read bytes made start at volume all fits is = volume_by bytes made start at volume all fits (serial_in (part at 6 bytes)) refl is

no_volumes : {A : Type 0} (offset : ℕ) (volumes : List Volume) → ◌≡◌ {A = Result (List Volume) ℕ} (Err offset) (Ok volumes) → A
no_volumes offset volumes e = absurd (no offset volumes e)
  where
    no : (offset : ℕ) (volumes : List Volume) → ◌≡◌ {A = Result (List Volume) ℕ} (Err offset) (Ok volumes) → ⊥
    no offset volumes e = cc

same_volumes : (a b : List Volume) → ◌≡◌ {A = Result (List Volume) ℕ} (Ok a) (Ok b) → a ≡ b
same_volumes a b e = cc

-- what holds of the volumes that were read behind others
pub record VolumesRead (count : ℕ) (bytes : List ℕ) (made : List Volume) (start at : ℕ) (whole : List Volume) : Type 0 where
  pub volumes : List Volume
  pub whole_is : whole ≡ made ++ volumes
  pub count_is : length volumes ≡ count
  pub text : part at (10 * count) bytes ≡ flat_map volume_bytes volumes
  pub fit : IsTrue (volumes_fit made start volumes)
  pub lengths : start + lengths_at count bytes at ≡ volumes_end start volumes
  pub follow : IsTrue (volumes_follow start volumes)

pub volumes-read : (count : ℕ) (bytes : List ℕ) (made : List Volume) (start at : ℕ) (whole : List Volume) → AreBytes bytes → at + 10 * count ≤ length bytes → volumes_at count bytes made start at ≡ Ok whole → VolumesRead count bytes made start at whole
volumes-read zero bytes made start at whole all fits is = record {
  volumes = [];
  whole_is = sym (same_volumes made whole is) ∙ sym (append-nil made);
  count_is = refl;
  text = refl;
  fit = refl;
  lengths = omega arith;
  follow = refl;
}
volumes-read (suc count) bytes made start at whole all fits is = by (volume_at bytes made start at) refl is
    (λ volume next. volumes-read count bytes (made ++ volume ∷ []) (start + volume.bytes) (at + 10) whole all (omega (arith, fits)) next)
  where
    by : (read : Result Volume ℕ) → volume_at bytes made start at ≡ read → volumes_on count bytes made start (at + 10) read ≡ Ok whole
        → ((volume : Volume) → volumes_at count bytes (made ++ volume ∷ []) (start + volume.bytes) (at + 10) ≡ Ok whole → VolumesRead count bytes (made ++ volume ∷ []) (start + volume.bytes) (at + 10) whole)
        → VolumesRead (suc count) bytes made start at whole
    by (Err offset) e is next = no_volumes offset whole is
    by (Ok volume) e is next =
        let one = volume-read bytes made start at volume all (omega (arith, fits)) e in
        let rest = next volume is in
        record {
          volumes = volume ∷ rest.volumes;
          whole_is = rest.whole_is ∙ append_assoc made (volume ∷ []) rest.volumes;
          count_is = omega (arith, rest.count_is);
          text = ap (λ n. part at n bytes) (ten_more count) ∙ part-join at 10 (10 * count) bytes ∙ (λ i. one.text i ++ rest.text i);
          fit = and_from _ _ (and_from _ _ one.serial one.fresh) (and_from _ _ (and_from _ _ (same_true volume.start start one.starts) one.within) rest.fit);
          lengths = omega (arith, one.length, rest.lengths);
          follow = and_from _ _ (same_true volume.start start one.starts) rest.follow;
        }
      where
        ten_more : (count : ℕ) → 10 * suc count ≡ 10 + 10 * count
        ten_more count = omega arith

        same_true : (a b : ℕ) → a ≡ b → IsTrue (eqb a b)
        same_true a b e = grind (arith, nat_tests)

-- ---- a code

no_code : {A : Type 0} (offset : ℕ) (code : Code) → ◌≡◌ {A = Result Code ℕ} (Err offset) (Ok code) → A
no_code offset code e = absurd (no offset code e)
  where
    no : (offset : ℕ) (code : Code) → ◌≡◌ {A = Result Code ℕ} (Err offset) (Ok code) → ⊥
    no offset code e = cc

same_code_read : (a b : Code) → ◌≡◌ {A = Result Code ℕ} (Ok a) (Ok b) → a ≡ b
same_code_read a b e = cc

none_code : {A : Type 0} (code : Code) → None ≡ Some code → A
none_code code e = absurd (none-some code e)

pub record CodeSpelled (letter number : ℕ) (code : Code) : Type 0 where
  pub letter_is : code_letter code ≡ letter
  pub number_is : number_of code ≡ number
  pub fits : IsTrue (nat_le (number_of code) 4095)

code-in : (letter number : ℕ) (code : Code) → code_in letter number ≡ Some code → CodeSpelled letter number code
unfolding code_in
code-in letter number code is = by (nat_le number 4095) (eqb letter 83) (eqb letter 85) refl refl refl is
  where
    by : (p q r : Bool) → nat_le number 4095 ≡ p → eqb letter 83 ≡ q → eqb letter 85 ≡ r
        → cond (not p) None (cond q (Some (System number)) (cond r (Some (User number)) None)) ≡ Some code → CodeSpelled letter number code
    by false q r e f g is = none_code code is
    by true true r e f g is = subst (CodeSpelled letter number) (same_Some (System number) code is) (record { letter_is = sym (eqb-true letter 83 f); number_is = refl; fits = e })
    by true false true e f g is = subst (CodeSpelled letter number) (same_Some (User number) code is) (record { letter_is = sym (eqb-true letter 85 g); number_is = refl; fits = e })
    by true false false e f g is = none_code code is

pub record CodeRead (bytes : List ℕ) (made : List Code) (at : ℕ) (code : Code) : Type 0 where
  pub text : part at 3 bytes ≡ code_bytes code
  pub fits : IsTrue (nat_le (number_of code) 4095)
  pub fresh : IsTrue (not (list_any (same_code code) made))

code_by : (bytes : List ℕ) (made : List Code) (at : ℕ) (code : Code) → AreBytes bytes → at + 3 ≤ length bytes
    → (found : Option Code) → code_in (byte_at bytes at) (half_at bytes (at + 1)) ≡ found → code_with made at found ≡ Ok code → CodeRead bytes made at code
code_by bytes made at code all fits None e is = no_code at code is
code_by bytes made at code all fits (Some found) e is = by (list_any (same_code found) made) refl is
  where
    by : (p : Bool) → list_any (same_code found) made ≡ p → cond p (Err at) (Ok found) ≡ Ok code → CodeRead bytes made at code
    by true f is = no_code at code is
    by false f is =
        let spelled = code-in (byte_at bytes at) (half_at bytes (at + 1)) found e in
        subst (CodeRead bytes made at) (same_code_read found code is) (record {
          text = part-next at 2 bytes (omega (arith, fits)) ∙ (λ i. sym spelled.letter_is i ∷ second i) ∙ ap (λ n. code_letter found ∷ half n) (sym spelled.number_is);
          fits = spelled.fits;
          fresh = ap not f;
        })
      where
        second : part (suc at) 2 bytes ≡ half (half_at bytes (at + 1))
        second = ap (λ n. part n 2 bytes) (suc-is-plus at) ∙ half-part bytes (at + 1) all (omega (arith, fits))

code-read : (bytes : List ℕ) (made : List Code) (at : ℕ) (code : Code) → AreBytes bytes → at + 3 ≤ length bytes → code_at bytes made at ≡ Ok code → CodeRead bytes made at code
unfolding code_at
code-read bytes made at code all fits is = code_by bytes made at code all fits (code_in (byte_at bytes at) (half_at bytes (at + 1))) refl is

no_codes : {A : Type 0} (offset : ℕ) (codes : List Code) → ◌≡◌ {A = Result (List Code) ℕ} (Err offset) (Ok codes) → A
no_codes offset codes e = absurd (no offset codes e)
  where
    no : (offset : ℕ) (codes : List Code) → ◌≡◌ {A = Result (List Code) ℕ} (Err offset) (Ok codes) → ⊥
    no offset codes e = cc

same_codes : (a b : List Code) → ◌≡◌ {A = Result (List Code) ℕ} (Ok a) (Ok b) → a ≡ b
same_codes a b e = cc

pub record CodesRead (count : ℕ) (bytes : List ℕ) (made : List Code) (at : ℕ) (whole : List Code) : Type 0 where
  pub codes : List Code
  pub whole_is : whole ≡ made ++ codes
  pub count_is : length codes ≡ count
  pub text : part at (3 * count) bytes ≡ flat_map code_bytes codes
  pub fit : IsTrue (codes_fit made codes)

pub codes-read : (count : ℕ) (bytes : List ℕ) (made : List Code) (at : ℕ) (whole : List Code) → AreBytes bytes → at + 3 * count ≤ length bytes → codes_at count bytes made at ≡ Ok whole → CodesRead count bytes made at whole
codes-read zero bytes made at whole all fits is = record {
  codes = [];
  whole_is = sym (same_codes made whole is) ∙ sym (append-nil made);
  count_is = refl;
  text = refl;
  fit = refl;
}
codes-read (suc count) bytes made at whole all fits is = by (code_at bytes made at) refl is
    (λ code next. codes-read count bytes (made ++ code ∷ []) (at + 3) whole all (omega (arith, fits)) next)
  where
    by : (read : Result Code ℕ) → code_at bytes made at ≡ read → codes_on count bytes made (at + 3) read ≡ Ok whole
        → ((code : Code) → codes_at count bytes (made ++ code ∷ []) (at + 3) ≡ Ok whole → CodesRead count bytes (made ++ code ∷ []) (at + 3) whole)
        → CodesRead (suc count) bytes made at whole
    by (Err offset) e is next = no_codes offset whole is
    by (Ok code) e is next =
        let one = code-read bytes made at code all (omega (arith, fits)) e in
        let rest = next code is in
        record {
          codes = code ∷ rest.codes;
          whole_is = rest.whole_is ∙ append_assoc made (code ∷ []) rest.codes;
          count_is = omega (arith, rest.count_is);
          text = ap (λ n. part at n bytes) (three_more count) ∙ part-join at 3 (3 * count) bytes ∙ (λ i. one.text i ++ rest.text i);
          fit = and_from _ _ (and_from _ _ one.fits one.fresh) rest.fit;
        }
      where
        three_more : (count : ℕ) → 3 * suc count ≡ 3 + 3 * count
        three_more count = omega arith
