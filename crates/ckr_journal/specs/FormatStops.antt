-- What a stop within the formatting of a disk leaves.
use Rattle.std.specs.Prelude.{◌≡◌, ◌⊎◌, ℕ, false, List, take, Ok, Err}
use Rattle.ckr_outside.specs.Disk.{StemsFrom, part}
use Rattle.ckr_book.specs.Next.{NoneAt}
use Rattle.ckr_volumes.specs.declared.layout.Layout.{Layout}
use Rattle.ckr_volumes.specs.declared.header.HeaderError.TheVariants.{NotFormatted}
use Rattle.ckr_volumes.specs.Header.{header_of}

-- the image of a disk of this size isn't formatted
abbrev pub IsUnformatted : ℕ → List ℕ → Type 0
IsUnformatted size image = header_of (take 512 image) size ≡ Err NotFormatted

-- its header says this layout, and its book is empty
pub record IsFresh (size : ℕ) (layout : Layout) (image : List ℕ) : Type 0 where
  pub header : header_of (take 512 image) size ≡ Ok layout
  pub empty : NoneAt (part 512 layout.book image) false

-- it is an image of before, but for the gate of the header; or it isn't formatted; or it is just formatted by this layout
abbrev pub IsOldOrFresh : (List ℕ → Type 0) → ℕ → Layout → List ℕ → Type 0
IsOldOrFresh before size layout image = StemsFrom before 0 1 image ⊎ (IsUnformatted size image ⊎ IsFresh size layout image)
