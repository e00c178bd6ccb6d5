-- What an image has that a desk opens on.
use Rattle.std.specs.Prelude.{◌≡◌, ℕ, List, take, Ok}
use Rattle.ckr_outside.specs.Disk.{part}
use Rattle.ckr_book.specs.Book.{records_in, ends_closed}
use Rattle.ckr_volumes.specs.declared.layout.Layout.{Layout}
use Rattle.ckr_volumes.specs.Header.{header_of}

-- the records of the desk's book, which begins behind the header
abbrev pub event_records : Layout → List ℕ → List (List ℕ)
event_records layout image = records_in 512 layout.book image

-- a desk opens on the image: its header says the layout, and behind the records of its book, which are such, a gate is closed
pub record Opens (layout : Layout) (size : ℕ) (AreSuch : List (List ℕ) → Type 0) (image : List ℕ) : Type 0 where
  pub head : header_of (take 512 image) size ≡ Ok layout
  pub list : AreSuch (event_records layout image)
  pub closed : ends_closed (part 512 layout.book image)
