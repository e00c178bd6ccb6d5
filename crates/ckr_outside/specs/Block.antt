-- A block of a disk's bytes in memory.
use Rattle.std.specs.Prelude.{◌≡◌, ◌≤◌, ◌+◌, ◌-◌, ◌⊎◌, ℕ, List, length}
use Rattle.ckr_outside.specs.Disk.{part}

-- `bytes`, whose first one stands at `base` of the disk, has what the disk reads from `from` up to `to`
pub record IsBlockOf (told : Type 0) (content : List ℕ) (base from to : ℕ) (bytes : List ℕ) : Type 0 where
  pub base_below : base ≤ from
  pub inside : to ≤ base + length bytes
  pub reads : told → (at n : ℕ) → from ≤ at → at + n ≤ to → part at n content ≡ part (at - base) n bytes

-- the bytes from one up to another have none of the n from `at` on
abbrev pub LiesClear : ℕ → ℕ → ℕ → ℕ → Type 0
LiesClear from to at n = (to ≤ at) ⊎ (at + n ≤ from)

-- so it is of a disk of this size
pub record IsBlockOn (told : Type 0) (content : List ℕ) (size : ℕ) (base from to : ℕ) (bytes : List ℕ) : Type 0 where
  pub block : IsBlockOf told content base from to bytes
  pub within : to ≤ size
