-- What the laws of the fields say: what is spelled is read, and what is read is spelled so.
use Rattle.std.specs.Prelude.{◌≡◌, ◌<◌, ℕ, List, ◌++◌, get_or, Ok}
use Rattle.ckr_fields.specs.Fields.{Field}

-- each one is a byte
abbrev pub AreBytes : List ℕ → Type 0
AreBytes bytes = (i : ℕ) → get_or bytes i 0 < 256

-- the bytes begin with this spelling
pub record Takes (bytes spelled rest : List ℕ) : Type 0 where
  pub parts : bytes ≡ spelled ++ rest
  pub rest_fits : AreBytes rest

-- whatever follows it, a value that fits is read again; and what is read fits and is spelled so
pub record BothWays {A : Type 0} (field : Field A) : Type 1 where
  pub again : (x : A) (rest : List ℕ) → field.fits x → field.read (field.spell x ++ rest) ≡ Ok (x, rest)
  pub takes : (bytes : List ℕ) (x : A) (rest : List ℕ) → AreBytes bytes → field.read bytes ≡ Ok (x, rest) → Takes bytes (field.spell x) rest × field.fits x
