-- The disk of an open desk as its callers see it, and what is true of it until it fails.
use Rattle.std.specs.Prelude.{◌≡◌, ℕ, Bool, true, IsTrue, List, take, Option, None, Ok}
use Rattle.ckr_book.specs.Book.{OpenBook, StandsOn}
use Rattle.ckr_outside.specs.Disk.{Only}
use Rattle.ckr_volumes.specs.declared.layout.Layout.{Layout}
use Rattle.ckr_volumes.specs.Header.{header_of, IsHeader}
use Rattle.ckr_volumes.specs.Layouts.{is_laid_out}

-- the disk, its layout, its open book, and the disk's count of faults at the one that stopped the store
pub record StoreView (D : Type 0) : Type 0 where
  pub disk : D
  pub layout : Layout
  pub book : OpenBook
  pub fault : Option ℕ

-- The layout fits the disk and the book lies behind its header. Until a fault each image has this header, and the book
-- stands on the disk.
pub record IsSound {D : Type 0} (content : D → List ℕ) (may_leave : D → List ℕ → Type 0) (size : D → ℕ) (state : StoreView D) : Type 0 where
  pub header : IsHeader state.layout (size state.disk)
  pub laid : IsTrue (is_laid_out state.layout)
  pub start : state.book.start ≡ 512
  pub length : state.book.size ≡ state.layout.book
  pub stands : state.fault ≡ None → StandsOn content may_leave state.book state.disk
  pub heads : state.fault ≡ None → (image : List ℕ) → may_leave state.disk image → header_of (take 512 image) (size state.disk) ≡ Ok state.layout

-- and where nothing was written since the last sync, a stop leaves what a read gives
pub record IsStored {D : Type 0} (content : D → List ℕ) (may_leave : D → List ℕ → Type 0) (size : D → ℕ) (state : StoreView D) (synced : Bool) : Type 0 where
  pub sound : IsSound content may_leave size state
  pub settled : synced ≡ true → Only (content state.disk) (may_leave state.disk)
