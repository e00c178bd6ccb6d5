-- The kinds of fields: how a value is spelled, which values have a spelling, and how one is read.
use Rattle.std.specs.Prelude.{◌≡◌, ◌<◌, ◌≤◌, ◌*◌, ◌/◌, ◌^◌, ◌==◌, ◌&&◌, ℕ, zero, suc, Bool, true, false, IsTrue, nat_lt, nat_le, if◌then◌else◌, List, [], ◌∷◌, ◌++◌, length, take, drop, Option, Some, None, Ok, Err}
use Rattle.std.specs.Int.{Width, w16, w32, byte_len, from_be_bytes, to_be_bytes}
use Rattle.ckr_base.specs.Grammar.{is_name8, is_ds_name, is_check_id}
use Rattle.ckr_base.specs.CodeText.{number_of}
use Rattle.ckr_base.specs.declared.code.Code.{Code}
use Rattle.ckr_base.specs.declared.code.Code.TheVariants.{System, User}
use Rattle.ckr_fields.specs.Readers.{Reading, ◌>>=◌}

pub record Field (A : Type 0) : Type 1 where
  pub fits : A → Type 0
  pub spell : A → List ℕ
  pub read : List ℕ → Reading A

-- ---- numbers

unfoldable pub byte_at : List ℕ → Reading ℕ
byte_at [] = Err 0
byte_at (value ∷ rest) = Ok (value, rest)

-- a number of one byte
abbrev pub byte : Field ℕ
byte = record { fits = λ n. n < 256; spell = λ n. n ∷ []; read = byte_at }

unfoldable pub number_at : Width → List ℕ → Reading ℕ
number_at w bytes = if nat_lt (length bytes) (byte_len w) then Err 0 else Ok (from_be_bytes w (take (byte_len w) bytes), drop (byte_len w) bytes)

-- a number of two bytes or of four, the highest byte first
abbrev pub two_bytes : Field ℕ
two_bytes = record { fits = λ n. n < 2 ^ 16; spell = to_be_bytes w16; read = number_at w16 }

abbrev pub four_bytes : Field ℕ
four_bytes = record { fits = λ n. n < 2 ^ 32; spell = to_be_bytes w32; read = number_at w32 }

-- ---- a value that has to pass a test, which is wrong where it begins

unfoldable pub judged_at : {A : Type 0} → (A → Bool) → (List ℕ → Reading A) → List ℕ → Reading A
judged_at test read bytes = read bytes >>= λ x. if test x.0 then Ok x else Err (length bytes)

abbrev pub judged : {A : Type 0} → (A → Bool) → Field A → Field A
judged test field = record { fits = λ x. field.fits x × IsTrue (test x); spell = field.spell; read = judged_at test field.read }

abbrev pub between : ℕ → ℕ → ℕ → Bool
between least most n = nat_le least n && nat_le n most

-- ---- two fields, one behind the other

abbrev pub both_at : {A B : Type 0} → (List ℕ → Reading A) → (A → List ℕ → Reading B) → List ℕ → Reading (A × B)
both_at first second bytes = first bytes >>= λ a. second a.0 a.1 >>= λ b. Ok ((a.0, b.0), b.1)

-- where the first value decides which field the second is
abbrev pub depending : {A B : Type 0} → Field A → (A → Field B) → Field (A × B)
depending first second = record {
  fits = λ x. first.fits x.0 × (second x.0).fits x.1;
  spell = λ x. first.spell x.0 ++ (second x.0).spell x.1;
  read = both_at first.read (λ a. (second a).read);
}

infixr 20 ◌&◌
abbrev pub ◌&◌ : {A B : Type 0} → Field A → Field B → Field (A × B)
first & second = depending first (λ _. second)

-- ---- so many bytes

unfoldable pub bytes_at : ℕ → List ℕ → Reading (List ℕ)
bytes_at size bytes = if nat_lt (length bytes) size then Err 0 else Ok (take size bytes, drop size bytes)

-- ---- texts: a length, and that many bytes

unfoldable pub text_at : (List ℕ → Reading ℕ) → (List ℕ → Bool) → List ℕ → Reading (List ℕ)
text_at size is_text bytes =
    size bytes >>= λ n. bytes_at n.0 n.1 >>= λ t. if is_text t.0 then Ok t else Err (length bytes)

abbrev pub text : Field ℕ → (List ℕ → Bool) → Field (List ℕ)
text size is_text = record {
  fits = λ t. size.fits (length t) × IsTrue (is_text t);
  spell = λ t. size.spell (length t) ++ t;
  read = text_at size.read is_text;
}

-- a text of 1 to so many bytes, behind a length of one byte
abbrev pub short_text : ℕ → (List ℕ → Bool) → Field (List ℕ)
short_text most is_text = text (judged (between 1 most) byte) is_text

-- the name of a job, a step or a DD
abbrev pub name8 : Field (List ℕ)
name8 = short_text 8 is_name8

-- the name of a data set
abbrev pub ds_name : Field (List ℕ)
ds_name = short_text 44 is_ds_name

-- the identifier of a checkpoint
abbrev pub check_id : Field (List ℕ)
check_id = short_text 16 is_check_id

-- any bytes of a record, behind a length of two bytes
abbrev pub record_bytes : Field (List ℕ)
record_bytes = text (judged (between 0 256) two_bytes) (λ _. true)

-- ---- a text or none, which is spelled as a length of 0

abbrev pub starts_with_zero : List ℕ → Bool
starts_with_zero [] = false
starts_with_zero (first ∷ rest) = first == 0

unfoldable pub optional_at : (List ℕ → Reading (List ℕ)) → List ℕ → Reading (Option (List ℕ))
optional_at read bytes = if starts_with_zero bytes then Ok (None, drop 1 bytes) else read bytes >>= λ x. Ok (Some x.0, x.1)

abbrev pub optional_fits : (List ℕ → Type 0) → Option (List ℕ) → Type 0
optional_fits fits None = Unit {0}
optional_fits fits (Some t) = fits t

abbrev pub optional_spell : (List ℕ → List ℕ) → Option (List ℕ) → List ℕ
optional_spell spell None = 0 ∷ []
optional_spell spell (Some t) = spell t

abbrev pub optional : ℕ → (List ℕ → Bool) → Field (Option (List ℕ))
optional most is_text =
    let field = short_text most is_text in
    record { fits = optional_fits field.fits; spell = optional_spell field.spell; read = optional_at field.read }

-- ---- a flag: 0 or 1

unfoldable pub flag_at : List ℕ → Reading Bool
flag_at bytes =
    byte_at bytes >>= λ x. if x.0 == 0 then Ok (false, x.1) else if x.0 == 1 then Ok (true, x.1) else Err (length bytes)

abbrev pub flag_spell : Bool → List ℕ
flag_spell false = 0 ∷ []
flag_spell true = 1 ∷ []

abbrev pub flag : Field Bool
flag = record { fits = λ _. Unit {0}; spell = flag_spell; read = flag_at }

-- ---- a completion code: `S` or `U`, and its number

abbrev pub code_spell : Code → List ℕ
code_spell (System number) = 83 ∷ to_be_bytes w16 number
code_spell (User number) = 85 ∷ to_be_bytes w16 number

unfoldable pub code_at : List ℕ → Reading Code
code_at bytes =
    byte_at bytes >>= λ letter. number_at w16 letter.1 >>= λ n.
    if nat_lt 4095 n.0 then Err (length bytes)
    else if letter.0 == 83 then Ok (System n.0, n.1)
    else if letter.0 == 85 then Ok (User n.0, n.1)
    else Err (length bytes)

abbrev pub code : Field Code
code = record { fits = λ c. number_of c ≤ 4095; spell = code_spell; read = code_at }

-- ---- a list: a count, and that many items

unfoldable pub times_at : {A : Type 0} → (List ℕ → Reading A) → ℕ → List ℕ → Reading (List A)
times_at read zero bytes = Ok ([], bytes)
times_at read (suc n) bytes = read bytes >>= λ first. times_at read n first.1 >>= λ others. Ok (first.0 ∷ others.0, others.1)

abbrev pub items_at : {A : Type 0} → (List ℕ → Reading ℕ) → (List ℕ → Reading A) → List ℕ → Reading (List A)
items_at count read bytes = count bytes >>= λ n. times_at read n.0 n.1

abbrev pub each_fits : {A : Type 0} → (A → Type 0) → List A → Type 0
each_fits fits [] = Unit {0}
each_fits fits (x ∷ xs) = fits x × each_fits fits xs

abbrev pub spell_each : {A : Type 0} → (A → List ℕ) → List A → List ℕ
spell_each spell [] = []
spell_each spell (x ∷ xs) = spell x ++ spell_each spell xs

abbrev pub items : {A : Type 0} → Field ℕ → Field A → Field (List A)
items count field = record {
  fits = λ xs. count.fits (length xs) × each_fits field.fits xs;
  spell = λ xs. count.spell (length xs) ++ spell_each field.spell xs;
  read = items_at count.read field.read;
}

-- ---- blocks of so many bytes behind their count of four bytes

abbrev pub blocks_at : ℕ → List ℕ → Reading (List ℕ)
blocks_at size bytes = number_at w32 bytes >>= λ n. bytes_at (size * n.0) n.1

abbrev pub blocks : ℕ → Field (List ℕ)
blocks size = record {
  fits = λ xs. (length xs ≡ size * (length xs / size)) × (length xs / size < 2 ^ 32);
  spell = λ xs. to_be_bytes w32 (length xs / size) ++ xs;
  read = blocks_at size;
}

-- ---- a value in another form

abbrev pub seen_at : {A B : Type 0} → (A → B) → (List ℕ → Reading A) → List ℕ → Reading B
seen_at make read bytes = read bytes >>= λ x. Ok (make x.0, x.1)

abbrev pub seen : {A B : Type 0} → (A → B) → (B → A) → Field A → Field B
seen make parts field = record {
  fits = λ x. field.fits (parts x);
  spell = λ x. field.spell (parts x);
  read = seen_at make field.read;
}
