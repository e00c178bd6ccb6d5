-- The numbers of an entry, and values that an entry has or hasn't.
use Rattle.std.specs.Prelude.{◌<◌, ◌*◌, ◌+◌, ◌/◌, ◌%◌, ◌^◌, ℕ, List, [], ◌∷◌, Option, Some, None, Ok, if◌then◌else◌}
use Rattle.ckr_fields.specs.Readers.{Reading, ◌>>=◌}
use Rattle.ckr_fields.specs.Fields.{Field, four_bytes, judged, between, ◌&◌, flag_at, seen_at}

-- a number of four bytes from the least to the most
abbrev pub number : ℕ → ℕ → Field ℕ
number least most = judged (between least most) four_bytes

-- a number as two: its highest bytes and the rest
abbrev pub halves : ℕ → ℕ → ℕ × ℕ
halves size n = (n / 2 ^ size, n % 2 ^ size)

abbrev pub from_halves : ℕ → ℕ × ℕ → ℕ
from_halves size x = x.0 * 2 ^ size + x.1

-- a number of eight bytes, the highest first
unfoldable pub eight_bytes_at : List ℕ → Reading ℕ
eight_bytes_at = seen_at (from_halves 32) (four_bytes & four_bytes).read

abbrev pub eight_bytes : Field ℕ
eight_bytes = record { fits = λ n. n < 2 ^ 64; spell = λ n. (four_bytes & four_bytes).spell (halves 32 n); read = eight_bytes_at }

-- a number of sixteen bytes, the highest first
unfoldable pub sixteen_bytes_at : List ℕ → Reading ℕ
sixteen_bytes_at = seen_at (from_halves 64) (eight_bytes & eight_bytes).read

abbrev pub sixteen_bytes : Field ℕ
sixteen_bytes = record { fits = λ n. n < 2 ^ 128; spell = λ n. (eight_bytes & eight_bytes).spell (halves 64 n); read = sixteen_bytes_at }

-- ---- a value behind 01, or 00 where there is none

unfoldable pub given_at : {A : Type 0} → (List ℕ → Reading A) → List ℕ → Reading (Option A)
given_at read bytes =
    flag_at bytes >>= λ given. if given.0 then seen_at (λ x. Some x) read given.1 else Ok (None, given.1)

abbrev pub given_fits : {A : Type 0} → (A → Type 0) → Option A → Type 0
given_fits fits None = Unit {0}
given_fits fits (Some x) = fits x

abbrev pub given_spell : {A : Type 0} → (A → List ℕ) → Option A → List ℕ
given_spell spell None = 0 ∷ []
given_spell spell (Some x) = 1 ∷ spell x

abbrev pub given : {A : Type 0} → Field A → Field (Option A)
given field = record { fits = given_fits field.fits; spell = given_spell field.spell; read = given_at field.read }
