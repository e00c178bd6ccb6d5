-- Why the disk of an open desk didn't do what was asked, and how it stands then.
use Rattle.std.specs.Prelude.{◌≡◌, ◌<◌, ℕ, Some}
use Rattle.ckr_outside.specs.Faults.{Rose}
use Rattle.ckr_book.specs.Book.{room_of}
use Rattle.ckr_desk_store.specs.State.{StoreView}
use Rattle.ckr_desk_store.specs.declared.error.StoreError.{StoreError}
use Rattle.ckr_desk_store.specs.declared.error.StoreError.TheVariants.{DiskFault, BookFull, Stopped}

module _ {D : Type 0} (faults : D → ℕ) where
  -- the disk's faults rose, and the store has stopped; its layout and its book are as before
  abbrev pub HasFailed : StoreView D → StoreView D → Type 0
  HasFailed old new = Rose (faults old.disk) (faults new.disk) × (new ≡ record old { disk = new.disk; fault = Some (faults new.disk) })

  -- of a call that reads or writes records, or syncs
  abbrev pub DiskCause : StoreView D → StoreView D → StoreError → Type 0
  DiskCause old new DiskFault = HasFailed old new
  DiskCause old new (BookFull need room) = ⊥
  DiskCause old new (Stopped fault) = (old.fault ≡ Some fault) × (new ≡ old)

  -- of an append that needs so many bytes of the book
  abbrev pub AppendCause : ℕ → StoreView D → StoreView D → StoreError → Type 0
  AppendCause needed old new DiskFault = HasFailed old new
  AppendCause needed old new (BookFull need room) = (need ≡ needed) × (room ≡ room_of old.book) × (room < need) × (new ≡ old)
  AppendCause needed old new (Stopped fault) = (old.fault ≡ Some fault) × (new ≡ old)
