-- What a layout's header says is the layout.
use Rattle.std.proofs.Common.{◌≡◌, ◌≤◌, ◌<◌, ℕ, zero, suc, ◌+◌, ◌-◌, ◌*◌, ◌^◌, Bool, true, false, not, cond, ◌&&◌, ◌||◌, IsTrue, nat_le, nat_lt, eqb, List, [], ◌∷◌, ◌++◌, length, take, drop, replicate, flat_map, position, Some, None, Ok, Err, refl, ap, sym, ◌∙◌, subst, arith, append_assoc, length-append, get_or}
use Rattle.std.specs.List.{list_all, list_any, position_or_len}
use Rattle.std.specs.Int.{w16, w32, from_be_bytes}
use Rattle.std.proofs.lemmas.Bool.{and_from, and_parts, eqb-true, not-true}
use Rattle.std.proofs.lemmas.Bool.Decides.{nat_tests}
use Rattle.std.proofs.lemmas.List.{take_at, drop_at, length-replicate, append-nil}
use Rattle.std.proofs.lemmas.Nat.{from_be_bytes-to_be_bytes_2, from_be_bytes-to_be_bytes_4}
use Rattle.ckr_base.specs.declared.code.Code.{Code}
use Rattle.ckr_base.specs.declared.code.Code.TheVariants.{System, User}
use Rattle.ckr_base.specs.CodeText.{number_of, code_letter, same_code}
use Rattle.ckr_base.specs.Grammar.{is_serial_byte, is_serial}
use Rattle.ckr_base.proofs.Bools.{true-not-false}
use Rattle.ckr_base.proofs.Numbers.{nat_le-true, nat_lt-beyond, nat_lt-itself}
use Rattle.ckr_outside.specs.Disk.{part}
use Rattle.ckr_volumes.specs.declared.header.HeaderError.TheVariants.{NotFormatted, Version}
use Rattle.ckr_volumes.specs.declared.layout.Layout.{Layout}
use Rattle.ckr_volumes.specs.declared.layout.Volume.{Volume}
use Rattle.ckr_volumes.specs.Header.{half, word, padded, volume_bytes, code_bytes, fixed_bytes, field_bytes, header_bytes, byte_at, half_at, word_at, is_formatted, is_within, lengths_at, front_at, fixed_fault, is_blank, serial_in, has_serial, volume_with, volume_at, volumes_at, code_in, code_with, code_at, codes_at, marked, mark_behind, layout_with, by_rest, by_codes, by_volumes, by_fixed, header_of, volumes_fit, codes_fit, IsHeader}
use Rattle.ckr_volumes.specs.Layouts.{front_of, volumes_end, disk_needed}
use Rattle.ckr_volumes.proofs.Headers.{volumes_on, codes_on}

-- a piece of a list between others
pub part-between : (before piece after bytes : List ℕ) (at n : ℕ) → bytes ≡ before ++ (piece ++ after) → at ≡ length before → n ≡ length piece → part at n bytes ≡ piece
part-between before piece after bytes at n is place size =
    ap (λ b. take n (drop at b)) is ∙ ap (take n) (drop_at before (piece ++ after) at (sym place)) ∙ take_at piece after n (sym size)

-- a serial has no blank
no_blank : (b : ℕ) → IsTrue (is_serial_byte b) → is_blank b ≡ false
no_blank b is =
    (elim (eqb b 32) as (λ t. eqb b 32 ≡ t → t ≡ false) [
      | true ↦ λ e. true-not-false (sym (subst (λ c. IsTrue (is_serial_byte c)) (eqb-true b 32 e) is))
      | false ↦ λ e. refl
    ]) refl

blank_first : (k : ℕ) → position_or_len is_blank (replicate k 32) ≡ 0
blank_first zero = refl
blank_first (suc k) = refl

text-ends : (serial : List ℕ) (k : ℕ) → IsTrue (list_all is_serial_byte serial) → position_or_len is_blank (serial ++ replicate k 32) ≡ length serial
text-ends [] k all = blank_first k
text-ends (b ∷ serial) k all =
    let both = and_parts (is_serial_byte b) (list_all is_serial_byte serial) all in
    ap (λ t. cond (not t) (1 + position_or_len is_blank (serial ++ replicate k 32)) 0) (no_blank b both.0)
    ∙ omega (arith, text-ends serial k both.1)

all_blank : (k : ℕ) → IsTrue (list_all is_blank (replicate k 32))
all_blank zero = refl
all_blank (suc k) = all_blank k

serial_parts : (serial : List ℕ) → IsTrue (is_serial serial) → (length serial ≤ 6) × IsTrue (list_all is_serial_byte serial)
serial_parts serial is =
    let both = and_parts (nat_le 1 (length serial) && nat_le (length serial) 6) (list_all is_serial_byte serial) is in
    (nat_le-true (length serial) 6 (and_parts (nat_le 1 (length serial)) (nat_le (length serial) 6) both.0).1, both.1)

pub serial-spelled : (serial : List ℕ) → IsTrue (is_serial serial) → serial_in (padded serial) ≡ Some serial
unfolding serial_in
serial-spelled serial is =
    let parts = serial_parts serial is in
    let rest = replicate (6 - length serial) 32 in
    ap (λ n. cond (is_serial (take n (serial ++ rest)) && list_all is_blank (drop n (serial ++ rest))) (Some (take n (serial ++ rest))) None) (text-ends serial (6 - length serial) parts.1)
    ∙ ap (λ t. cond (is_serial t && list_all is_blank (drop (length serial) (serial ++ rest))) (Some t) None) (take_at serial rest (length serial) refl)
    ∙ ap (λ r. cond (is_serial serial && list_all is_blank r) (Some serial) None) (drop_at serial rest (length serial) refl)
    ∙ ap (λ b. cond b (Some serial) None) (and_from (is_serial serial) (list_all is_blank rest) is (all_blank (6 - length serial)))

padded-length : (serial : List ℕ) → IsTrue (is_serial serial) → length (padded serial) ≡ 6
padded-length serial is = omega (arith, length-append serial (replicate (6 - length serial) 32), length-replicate {A = ℕ} (6 - length serial) 32, (serial_parts serial is).0)

pub word-spelled : (bytes : List ℕ) (at n : ℕ) → n < 2 ^ 32 → part at 4 bytes ≡ word n → word_at bytes at ≡ n
unfolding word_at
word-spelled bytes at n less is = ap (from_be_bytes w32) is ∙ from_be_bytes-to_be_bytes_4 n less

pub half-spelled : (bytes : List ℕ) (at n : ℕ) → n < 2 ^ 16 → part at 2 bytes ≡ half n → half_at bytes at ≡ n
unfolding half_at
half-spelled bytes at n less is = ap (from_be_bytes w16) is ∙ from_be_bytes-to_be_bytes_2 n less

within_most : (least most n : ℕ) → IsTrue (is_within least most n) → n ≤ most
within_most least most n is = nat_le-true n most (and_parts (nat_le least n) (nat_le n most) is).1

-- a volume behind others that fits
pub volume-spelled : (before after bytes : List ℕ) (made : List Volume) (start at : ℕ) (volume : Volume) → bytes ≡ before ++ (volume_bytes volume ++ after) → at ≡ length before
    → IsTrue (is_serial volume.serial) → has_serial made volume.serial ≡ false → volume.start ≡ start → IsTrue (is_within 1024 268435456 volume.bytes) → volume_at bytes made start at ≡ Ok volume
unfolding volume_at
volume-spelled before after bytes made start at volume is place serial fresh starts within =
    let text = padded volume.serial in
    let six : 6 ≡ length text = sym (padded-length volume.serial serial) in
    let first : part at 6 bytes ≡ text = part-between before text (word volume.bytes ++ after) bytes at 6 (is ∙ ap (λ b. before ++ b) (append_assoc text (word volume.bytes) after)) place six in
    let later : bytes ≡ (before ++ text) ++ (word volume.bytes ++ after) = is ∙ ap (λ b. before ++ b) (append_assoc text (word volume.bytes) after) ∙ sym (append_assoc before text (word volume.bytes ++ after)) in
    let second : part (at + 6) 4 bytes ≡ word volume.bytes = part-between (before ++ text) (word volume.bytes) after bytes (at + 6) 4 later (omega (arith, place, six, length-append before text)) refl in
    ap (λ field. volume_with made start at (word_at bytes (at + 6)) (serial_in field)) first
    ∙ ap (volume_with made start at (word_at bytes (at + 6))) (serial-spelled volume.serial serial)
    ∙ ap (λ n. volume_with made start at n (Some volume.serial)) (word-spelled bytes (at + 6) volume.bytes (omega (arith, within_most 1024 268435456 volume.bytes within)) second)
    ∙ ap (λ b. cond b (Err at) (cond (is_within 1024 268435456 volume.bytes) (Ok (record { serial = volume.serial; start = start; bytes = volume.bytes })) (Err (at + 6)))) fresh
    ∙ ap (λ b. cond b (Ok (record { serial = volume.serial; start = start; bytes = volume.bytes })) (Err (at + 6))) within
    ∙ ap (λ n. Ok (record { serial = volume.serial; start = n; bytes = volume.bytes })) (sym starts)

volume-length : (volume : Volume) → IsTrue (is_serial volume.serial) → length (volume_bytes volume) ≡ 10
volume-length volume serial = omega (arith, length-append (padded volume.serial) (word volume.bytes), padded-length volume.serial serial)

pub volumes-spelled : (volumes made : List Volume) (before after bytes : List ℕ) (start at : ℕ) → bytes ≡ before ++ (flat_map volume_bytes volumes ++ after) → at ≡ length before → IsTrue (volumes_fit made start volumes)
    → volumes_at (length volumes) bytes made start at ≡ Ok (made ++ volumes)
volumes-spelled [] made before after bytes start at is place fit = ap Ok (sym (append-nil made))
volumes-spelled (volume ∷ rest) made before after bytes start at is place fit =
    let both = and_parts (is_serial volume.serial && not (has_serial made volume.serial)) ((eqb volume.start start && is_within 1024 268435456 volume.bytes) && volumes_fit (made ++ volume ∷ []) (start + volume.bytes) rest) fit in
    let names = and_parts (is_serial volume.serial) (not (has_serial made volume.serial)) both.0 in
    let more = and_parts (eqb volume.start start && is_within 1024 268435456 volume.bytes) (volumes_fit (made ++ volume ∷ []) (start + volume.bytes) rest) both.1 in
    let places = and_parts (eqb volume.start start) (is_within 1024 268435456 volume.bytes) more.0 in
    let parted : bytes ≡ before ++ (volume_bytes volume ++ (flat_map volume_bytes rest ++ after)) = is ∙ ap (λ b. before ++ b) (append_assoc (volume_bytes volume) (flat_map volume_bytes rest) after) in
    ap (volumes_on (length rest) bytes made start (at + 10)) (volume-spelled before (flat_map volume_bytes rest ++ after) bytes made start at volume parted place names.0 (not-true _ names.1) (eqb-true volume.start start places.0) places.1)
    ∙ volumes-spelled rest (made ++ volume ∷ []) (before ++ volume_bytes volume) after bytes (start + volume.bytes) (at + 10)
    (parted ∙ sym (append_assoc before (volume_bytes volume) (flat_map volume_bytes rest ++ after)))
    (omega (arith, place, volume-length volume names.0, length-append before (volume_bytes volume))) more.1
    ∙ ap Ok (append_assoc made (volume ∷ []) rest)

-- the lengths together
pub lengths-spelled : (volumes made : List Volume) (before after bytes : List ℕ) (start at : ℕ) → bytes ≡ before ++ (flat_map volume_bytes volumes ++ after) → at ≡ length before → IsTrue (volumes_fit made start volumes)
    → start + lengths_at (length volumes) bytes at ≡ volumes_end start volumes
lengths-spelled [] made before after bytes start at is place fit = omega arith
lengths-spelled (volume ∷ rest) made before after bytes start at is place fit =
    let both = and_parts (is_serial volume.serial && not (has_serial made volume.serial)) ((eqb volume.start start && is_within 1024 268435456 volume.bytes) && volumes_fit (made ++ volume ∷ []) (start + volume.bytes) rest) fit in
    let names = and_parts (is_serial volume.serial) (not (has_serial made volume.serial)) both.0 in
    let more = and_parts (eqb volume.start start && is_within 1024 268435456 volume.bytes) (volumes_fit (made ++ volume ∷ []) (start + volume.bytes) rest) both.1 in
    let places = and_parts (eqb volume.start start) (is_within 1024 268435456 volume.bytes) more.0 in
    let parted : bytes ≡ before ++ (volume_bytes volume ++ (flat_map volume_bytes rest ++ after)) = is ∙ ap (λ b. before ++ b) (append_assoc (volume_bytes volume) (flat_map volume_bytes rest) after) in
    let text = padded volume.serial in
    let later : bytes ≡ (before ++ text) ++ (word volume.bytes ++ (flat_map volume_bytes rest ++ after)) = parted ∙ ap (λ b. before ++ b) (append_assoc text (word volume.bytes) (flat_map volume_bytes rest ++ after)) ∙ sym (append_assoc before text (word volume.bytes ++ (flat_map volume_bytes rest ++ after))) in
    let number : word_at bytes (at + 6) ≡ volume.bytes = word-spelled bytes (at + 6) volume.bytes (omega (arith, within_most 1024 268435456 volume.bytes places.1))
    (part-between (before ++ text) (word volume.bytes) (flat_map volume_bytes rest ++ after) bytes (at + 6) 4 later (omega (arith, place, padded-length volume.serial names.0, length-append before text)) refl) in
    omega (
      arith,
      number,
      lengths-spelled rest (made ++ volume ∷ []) (before ++ volume_bytes volume) after bytes (start + volume.bytes) (at + 10)
          (parted ∙ sym (append_assoc before (volume_bytes volume) (flat_map volume_bytes rest ++ after)))
          (omega (arith, place, volume-length volume names.0, length-append before (volume_bytes volume))) more.1,
    )

-- a code
code-again : (code : Code) → IsTrue (nat_le (number_of code) 4095) → code_in (code_letter code) (number_of code) ≡ Some code
unfolding code_in
code-again (System number) fits = ap (λ b. cond (not b) None (Some (System number))) fits
code-again (User number) fits = ap (λ b. cond (not b) None (Some (User number))) fits

code-least : (code : Code) → IsTrue (nat_le (number_of code) 4095) → number_of code < 2 ^ 16
code-least code fits = omega (arith, nat_le-true (number_of code) 4095 fits)

byte-between : (before after bytes : List ℕ) (b at : ℕ) → bytes ≡ before ++ (b ∷ after) → at ≡ length before → byte_at bytes at ≡ b
byte-between before after bytes b at is place = ap (λ l. get_or l at 0) is ∙ ap (λ n. get_or (before ++ (b ∷ after)) n 0) place ∙ there before
  where
    there : (before : List ℕ) → get_or (before ++ (b ∷ after)) (length before) 0 ≡ b
    there [] = refl
    there (x ∷ before) = there before

pub code-spelled : (before after bytes : List ℕ) (made : List Code) (at : ℕ) (code : Code) → bytes ≡ before ++ (code_bytes code ++ after) → at ≡ length before → IsTrue (nat_le (number_of code) 4095) → list_any (same_code code) made ≡ false → code_at bytes made at ≡ Ok code
unfolding code_at
code-spelled before after bytes made at code is place fits fresh =
    let letter : byte_at bytes at ≡ code_letter code = byte-between before (half (number_of code) ++ after) bytes (code_letter code) at is place in
    let later : bytes ≡ (before ++ code_letter code ∷ []) ++ (half (number_of code) ++ after) = is ∙ sym (append_assoc before (code_letter code ∷ []) (half (number_of code) ++ after)) in
    let number : half_at bytes (at + 1) ≡ number_of code = half-spelled bytes (at + 1) (number_of code) (code-least code fits)
    (part-between (before ++ code_letter code ∷ []) (half (number_of code)) after bytes (at + 1) 2 later (omega (arith, place, length-append before (code_letter code ∷ []))) refl) in
    (λ i. code_with made at (code_in (letter i) (number i)))
    ∙ ap (code_with made at) (code-again code fits)
    ∙ ap (λ b. cond b (Err at) (Ok code)) fresh

pub codes-spelled : (codes made : List Code) (before after bytes : List ℕ) (at : ℕ) → bytes ≡ before ++ (flat_map code_bytes codes ++ after) → at ≡ length before → IsTrue (codes_fit made codes)
    → codes_at (length codes) bytes made at ≡ Ok (made ++ codes)
codes-spelled [] made before after bytes at is place fit = ap Ok (sym (append-nil made))
codes-spelled (code ∷ rest) made before after bytes at is place fit =
    let both = and_parts (nat_le (number_of code) 4095 && not (list_any (same_code code) made)) (codes_fit (made ++ code ∷ []) rest) fit in
    let one = and_parts (nat_le (number_of code) 4095) (not (list_any (same_code code) made)) both.0 in
    let parted : bytes ≡ before ++ (code_bytes code ++ (flat_map code_bytes rest ++ after)) = is ∙ ap (λ b. before ++ b) (append_assoc (code_bytes code) (flat_map code_bytes rest) after) in
    ap (codes_on (length rest) bytes made (at + 3)) (code-spelled before (flat_map code_bytes rest ++ after) bytes made at code parted place one.0 (not-true _ one.1))
    ∙ codes-spelled rest (made ++ code ∷ []) (before ++ code_bytes code) after bytes (at + 3)
    (parted ∙ sym (append_assoc before (code_bytes code) (flat_map code_bytes rest ++ after)))
    (omega (arith, place, length-append before (code_bytes code))) both.1
    ∙ ap Ok (append_assoc made (code ∷ []) rest)

zeros_unmarked : (n : ℕ) → position (λ byte. not (eqb byte 0)) (replicate n 0) ≡ None
zeros_unmarked n =
    let zeros : List ℕ = replicate n 0 in
    ap (λ k. cond (nat_lt k (length zeros)) (Some k) None) (all_over n) ∙ ap (λ b. cond b (Some (length zeros)) None) (nat_lt-itself (length zeros))
  where
    all_over : (n : ℕ) → position_or_len (λ byte. not (eqb byte 0)) (replicate n 0) ≡ length {A = ℕ} (replicate n 0)
    all_over zero = refl
    all_over (suc n) = omega (arith, all_over n)

pub rest-spelled : (before bytes : List ℕ) (n at : ℕ) → bytes ≡ before ++ replicate n 0 → at ≡ length before → at + n ≡ 512 → mark_behind bytes at ≡ None
unfolding mark_behind
rest-spelled before bytes n at is place full =
    let rest : part at (512 - at) bytes ≡ replicate n 0 =
    part-between before (replicate n 0) [] bytes at (512 - at) (is ∙ ap (λ r. before ++ r) (sym (append-nil (replicate n 0)))) place (omega (arith, full, length-replicate {A = ℕ} n 0)) in
    ap (λ r. marked at (position (λ byte. not (eqb byte 0)) r)) rest ∙ ap (marked at) (zeros_unmarked n)

volumes-length : (volumes made : List Volume) (start : ℕ) → IsTrue (volumes_fit made start volumes) → length (flat_map volume_bytes volumes) ≡ 10 * length volumes
volumes-length [] made start fit = refl
volumes-length (volume ∷ rest) made start fit =
    let both = and_parts (is_serial volume.serial && not (has_serial made volume.serial)) ((eqb volume.start start && is_within 1024 268435456 volume.bytes) && volumes_fit (made ++ volume ∷ []) (start + volume.bytes) rest) fit in
    let names = and_parts (is_serial volume.serial) (not (has_serial made volume.serial)) both.0 in
    let more = and_parts (eqb volume.start start && is_within 1024 268435456 volume.bytes) (volumes_fit (made ++ volume ∷ []) (start + volume.bytes) rest) both.1 in
    omega (arith, length-append (volume_bytes volume) (flat_map volume_bytes rest), volume-length volume names.0, volumes-length rest (made ++ volume ∷ []) (start + volume.bytes) more.1)

codes-length : (codes : List Code) → length (flat_map code_bytes codes) ≡ 3 * length codes
codes-length [] = refl
codes-length (code ∷ rest) = omega (arith, length-append (code_bytes code) (flat_map code_bytes rest), codes-length rest)

passes : {A : Type 0} (b : Bool) (x y : A) → b ≡ true → cond (not b) x y ≡ y
passes b x y e = ap (λ t. cond (not t) x y) e

passes_both : {A : Type 0} (b c : Bool) (x y : A) → b ≡ true → c ≡ false → cond (not b || c) x y ≡ y
passes_both b c x y e f = λ i. cond (not (e i) || f i) x y

same_true : (a b : ℕ) → a ≡ b → eqb a b ≡ true
same_true a b e = grind (arith, nat_tests)

-- the header of a layout
module _ (layout : Layout) (size : ℕ) (is : IsHeader layout size) where
  pub fields-length : length (field_bytes layout) ≡ 19 + 10 * length layout.volumes.items + 3 * length layout.eligible.items
  fields-length =
      let volumes = flat_map volume_bytes layout.volumes.items in
      let codes = flat_map code_bytes layout.eligible.items in
      omega (
        arith,
        length-append (fixed_bytes layout ++ volumes) codes,
        length-append (fixed_bytes layout) volumes,
        volumes-length layout.volumes.items [] (front_of layout) is.volumes,
        codes-length layout.eligible.items,
      )

  short : length (field_bytes layout) ≤ 512
  short = omega (arith, fields-length, within_most 1 32 (length layout.volumes.items) is.volume_count, within_most 1 32 (length layout.eligible.items) is.code_count)

  full : length (header_bytes layout) ≡ 512
  full = omega (arith, length-append (field_bytes layout) (replicate (512 - length (field_bytes layout)) 0), length-replicate {A = ℕ} (512 - length (field_bytes layout)) 0, short)

  abbrev header : List ℕ
  header = header_bytes layout

  abbrev volume_text : List ℕ
  volume_text = flat_map volume_bytes layout.volumes.items

  abbrev code_text : List ℕ
  code_text = flat_map code_bytes layout.eligible.items

  abbrev zeros : List ℕ
  zeros = replicate (512 - length (field_bytes layout)) 0

  version_is : half_at header 5 ≡ layout.version
  version_is = half-spelled header 5 layout.version (omega (arith, is.version)) refl

  book_is : word_at header 11 ≡ layout.book
  book_is = word-spelled header 11 layout.book (omega (arith, within_most 256 268435456 layout.book is.book)) refl

  image_is : word_at header 15 ≡ layout.image
  image_is = word-spelled header 15 layout.image (omega (arith, is.image)) refl

  front_is : front_at header ≡ front_of layout
  front_is = omega (arith, book_is, image_is)

  volumes_behind : header ≡ fixed_bytes layout ++ (volume_text ++ (code_text ++ zeros))
  volumes_behind =
      append_assoc (fixed_bytes layout ++ volume_text) code_text zeros
      ∙ append_assoc (fixed_bytes layout) volume_text (code_text ++ zeros)

  codes_behind : header ≡ (fixed_bytes layout ++ volume_text) ++ (code_text ++ zeros)
  codes_behind = append_assoc (fixed_bytes layout ++ volume_text) code_text zeros

  needed_is : front_at header + lengths_at (length layout.volumes.items) header 19 ≡ disk_needed layout
  needed_is = ap (λ n. n + lengths_at (length layout.volumes.items) header 19) front_is
      ∙ lengths-spelled layout.volumes.items [] (fixed_bytes layout) (code_text ++ zeros) header (front_of layout) 19 volumes_behind refl is.volumes

  no_fault : fixed_fault header size ≡ None
  unfolding fixed_fault
  no_fault =
      passes (is_within 1 8 layout.initiators) (Some 7) _ is.initiators
      ∙ passes (is_within 1 16 layout.units) (Some 8) _ is.units
      ∙ passes (is_within 1 32 (length layout.volumes.items)) (Some 9) _ is.volume_count
      ∙ passes (is_within 1 32 (length layout.eligible.items)) (Some 10) _ is.code_count
      ∙ passes_both (is_within 256 268435456 (word_at header 11)) (nat_lt size (front_at header + lengths_at (length layout.volumes.items) header 19)) (Some 11) _
      (ap (is_within 256 268435456) book_is ∙ is.book) (ap (nat_lt size) needed_is ∙ nat_lt-beyond size (disk_needed layout) is.fits)
      ∙ passes (eqb (word_at header 15) 0) (Some 15) None (same_true (word_at header 15) 0 (image_is ∙ is.image))

  formatted : is_formatted header ≡ true
  unfolding is_formatted
  formatted = and_from (nat_le 512 (length header)) true (long (length header) full) refl
    where
      long : (n : ℕ) → n ≡ 512 → IsTrue (nat_le 512 n)
      long n e = grind (arith, nat_tests)

  volumes_are : volumes_at (length layout.volumes.items) header [] (front_at header) 19 ≡ Ok layout.volumes.items
  volumes_are = ap (λ front. volumes_at (length layout.volumes.items) header [] front 19) front_is
      ∙ volumes-spelled layout.volumes.items [] (fixed_bytes layout) (code_text ++ zeros) header (front_of layout) 19 volumes_behind refl is.volumes

  codes_place : 19 + 10 * length layout.volumes.items ≡ length (fixed_bytes layout ++ volume_text)
  codes_place = omega (arith, length-append (fixed_bytes layout) volume_text, volumes-length layout.volumes.items [] (front_of layout) is.volumes)

  codes_are : codes_at (length layout.eligible.items) header [] (19 + 10 * length layout.volumes.items) ≡ Ok layout.eligible.items
  codes_are = codes-spelled layout.eligible.items [] (fixed_bytes layout ++ volume_text) zeros header (19 + 10 * length layout.volumes.items) codes_behind codes_place is.codes

  rest_is : mark_behind header (19 + 10 * length layout.volumes.items + 3 * length layout.eligible.items) ≡ None
  rest_is = rest-spelled (field_bytes layout) header (512 - length (field_bytes layout)) (19 + 10 * length layout.volumes.items + 3 * length layout.eligible.items) refl (sym fields-length) (omega (arith, fields-length, short))

  layout_is : layout_with header layout.volumes.items layout.eligible.items ≡ layout
  layout_is = λ i. record {
    version = version_is i;
    initiators = layout.initiators;
    units = layout.units;
    volumes = layout.volumes;
    eligible = layout.eligible;
    book = book_is i;
    image = image_is i;
  }

  -- what the header of a layout says is the layout
  pub header-spelled : header_of (header_bytes layout) size ≡ Ok layout
  unfolding header_of
  header-spelled =
      passes (is_formatted header) (Err NotFormatted) _ formatted
      ∙ passes (eqb (half_at header 5) 1) (Err (Version (half_at header 5))) _ (same_true (half_at header 5) 1 (version_is ∙ is.version))
      ∙ ap (by_fixed header) no_fault
      ∙ ap (by_volumes header) volumes_are
      ∙ ap (by_codes header layout.volumes.items) codes_are
      ∙ ap (by_rest header layout.volumes.items layout.eligible.items) rest_is
      ∙ ap Ok layout_is
