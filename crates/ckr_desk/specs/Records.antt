-- Why the records of a data set weren't read.
use Rattle.std.specs.Prelude.{◌≡◌, ℕ}
use Rattle.ckr_desk_store.specs.Answers.{HasFailed}
use Rattle.ckr_desk_store.specs.State.{StoreView}
use Rattle.ckr_desk.specs.declared.error.DeskError.{DeskError}
use Rattle.ckr_desk.specs.declared.error.DeskError.TheVariants.{NoMemory, DiskFault, BookFull, Stopped}

-- no memory, and the disk only was read, or the disk's faults, and the store has stopped
abbrev pub ReadingCause : {D : Type 0} → (D → ℕ) → StoreView D → StoreView D → DeskError → Type 0
ReadingCause faults old new NoMemory = new ≡ record old { disk = new.disk }
ReadingCause faults old new DiskFault = HasFailed faults old new
ReadingCause faults old new (BookFull need room) = ⊥
ReadingCause faults old new (Stopped fault) = ⊥
