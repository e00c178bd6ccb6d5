-- Reading a format from left to right.
use Rattle.std.specs.Prelude.{◌≡◌, ◌-◌, ℕ, List, Result, Ok, Err}
use Rattle.ckr_fields.specs.declared.error.ReadError.{ReadError}
use Rattle.ckr_fields.specs.declared.error.ReadError.TheVariants.{NoMemory, Wrong}

-- A value and the bytes behind it; or how many bytes are left from the first byte of the field that is wrong on, which
-- is none where bytes are missing.
abbrev pub Reading : Type 0 → Type 0
Reading A = Result (A × List ℕ) ℕ

-- one step and then another, which isn't made behind a wrong field
infixl 10 ◌>>=◌
abbrev pub ◌>>=◌ : {A B : Type 0} → Result A ℕ → (A → Result B ℕ) → Result B ℕ
(Ok x) >>= f = f x
(Err left) >>= f = Err left

-- a fault is told by its offset in place of the bytes that are left from it on
abbrev pub at_offset : {A : Type 0} → ℕ → Result A ℕ → Result A ℕ
at_offset size (Ok x) = Ok x
at_offset size (Err left) = Err (size - left)

-- what a function returned, seen by `view`, and the bytes that it left are what is read, unless memory ran out
abbrev pub Gives : {X Y : Type 0} → (X → Y) → Reading Y → Result X ReadError → List ℕ → Type 0
Gives view reading (Ok x) behind = reading ≡ Ok (view x, behind)
Gives view reading (Err NoMemory) behind = Unit {0}
Gives view reading (Err (Wrong left)) behind = reading ≡ Err left
