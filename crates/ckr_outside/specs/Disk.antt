-- What the calls of a disk do to its content, and what a stop may leave of it.
use Rattle.std.specs.Prelude.{◌≡◌, ◌≤◌, ◌+◌, ◌⊎◌, ℕ, List, ◌++◌, length, take, drop, Result, OnErr}
use Rattle.ckr_outside.specs.Faults.{Rose}

-- `new` is `old` with these bytes at this place
abbrev pub Overwrites : ℕ → List ℕ → List ℕ → List ℕ → Type 0
Overwrites at bytes old new = new ≡ take at old ++ bytes ++ drop (at + length bytes) old

-- `new` has any bytes in the range of n from `at` on, and those of `old` elsewhere
pub record SameOutside (at n : ℕ) (old new : List ℕ) : Type 0 where
  pub before : take at new ≡ take at old
  pub behind : drop (at + n) new ≡ drop (at + n) old
  pub as_long : length new ≡ length old

-- the image differs from one of these images within the range alone
abbrev pub StemsFrom : (List ℕ → Type 0) → ℕ → ℕ → List ℕ → Type 0
StemsFrom images at n image = (from : List ℕ) × images from × SameOutside at n from image

-- there is no other image
abbrev pub Only : List ℕ → (List ℕ → Type 0) → Type 0
Only content images = (image : List ℕ) → images image → image ≡ content

-- each new image was one before
abbrev pub NoneNew : (List ℕ → Type 0) → (List ℕ → Type 0) → Type 0
NoneNew old new = (image : List ℕ) → new image → old image

-- what a stop might have left is not forgotten
abbrev pub Remembers : ℕ → (ℕ → List ℕ → Type 0) → (ℕ → List ℕ → Type 0) → Type 0
Remembers now old new = (t : ℕ) (image : List ℕ) → t ≤ now → old t image → new t image

-- what a stop at any moment from `old` to `new` might have left has P
pub record EachSince {D : Type 0} (moment : D → ℕ) (left_since : D → ℕ → List ℕ → Type 0) (old new : D) (P : List ℕ → Type 0) : Type 0 where
  pub later : moment old ≤ moment new
  pub each : (image : List ℕ) → left_since new (moment old) image → P image
  -- for a call that began earlier
  pub earlier : (t : ℕ) (image : List ℕ) → t ≤ moment old → left_since new t image → left_since old t image ⊎ P image

-- the disk reads as before, and what a stop might have left is an image of before
pub record OnlyReads {D : Type 0} (content : D → List ℕ) (may_leave : D → List ℕ → Type 0) (moment : D → ℕ) (left_since : D → ℕ → List ℕ → Type 0) (old new : D) : Type 0 where
  pub same : content new ≡ content old
  pub none_new : NoneNew (may_leave old) (may_leave new)
  pub since : EachSince moment left_since old new (may_leave old)

-- in this range alone the disk reads otherwise than before, and so does what a stop might have left
pub record ChangesWithin {D : Type 0} (told : Type 0) (content : D → List ℕ) (may_leave : D → List ℕ → Type 0) (moment : D → ℕ) (left_since : D → ℕ → List ℕ → Type 0) (at n : ℕ) (old new : D) : Type 0 where
  pub reads : told → SameOutside at n (content old) (content new)
  pub since : EachSince moment left_since old new (StemsFrom (may_leave old) at n)

-- the n bytes from `at` on
abbrev pub part : ℕ → ℕ → List ℕ → List ℕ
part at n bytes = take n (drop at bytes)

-- the count doesn't fall, and an error came only where it rose
pub record HasCause {T E : Type 0} (before now : ℕ) (result : Result T E) : Type 0 where
  pub never_falls : before ≤ now
  pub rose : OnErr result (Rose before now)
