-- What the errors of the crates below are to the desk.
use Rattle.ckr_desk_refines.specs.DiskEntries.ReadError.{ReadError}
use Rattle.ckr_desk_refines.specs.DiskEntries.ReadError.TheVariants as OfEntry
use Rattle.ckr_desk_store.specs.declared.error.StoreError.{StoreError}
use Rattle.ckr_desk_store.specs.declared.error.StoreError.TheVariants as OfStore
use Rattle.ckr_desk.specs.declared.error.DeskError.{DeskError}
use Rattle.ckr_desk.specs.declared.error.DeskError.TheVariants.{NoMemory, DiskFault, BookFull, Stopped}
use Rattle.ckr_desk.specs.declared.error.OpenError.{OpenError}
use Rattle.ckr_desk.specs.declared.error.OpenError.TheVariants as OpenErrors

abbrev pub of_store : StoreError → DeskError
of_store OfStore.DiskFault = DiskFault
of_store (OfStore.BookFull need room) = BookFull need room
of_store (OfStore.Stopped fault) = Stopped fault

-- of an entry that a call reads
abbrev pub of_entry : ReadError → DeskError
of_entry OfEntry.NoMemory = NoMemory
of_entry OfEntry.Fault = DiskFault

-- of one that opening reads
abbrev pub opening_of_entry : ReadError → OpenError
opening_of_entry OfEntry.NoMemory = OpenErrors.NoMemory
opening_of_entry OfEntry.Fault = OpenErrors.Fault
