-- The records of data sets stand behind the book.
use Rattle.std.proofs.Common.{◌≡◌, ◌≤◌, ℕ, List, arith}
use Rattle.std.specs.Prelude.{IsTrue}
use Rattle.ckr_library.specs.declared.sets.DataSet.{DataSet}
use Rattle.ckr_outside.specs.Disk.{SameOutside}
use Rattle.ckr_outside.specs.Ranges.{part_behind}
use Rattle.ckr_volumes.specs.declared.layout.Layout.{Layout}
use Rattle.ckr_volumes.specs.Addresses.{address_behind}
use Rattle.ckr_volumes.specs.Lists.{same_records}
use Rattle.ckr_volumes.specs.Places.{address_of}
use Rattle.ckr_volumes.specs.Records.{records_on}
use Rattle.ckr_volumes.specs.Layouts.{StandsIn, is_laid_out}

-- what is written into the book leaves them
pub records-stay : (layout : Layout) → IsTrue (is_laid_out layout) → (old new : List ℕ) → SameOutside 512 layout.book old new → (set : DataSet) (n : ℕ) → StandsIn layout set → n ≤ set.space → records_on new layout set n ≡ records_on old layout set n
records-stay layout laid old new same set n stands within =
    same_records old new layout set n
    (λ place less.
    part_behind (address_of layout set place) set.lrecl 512 layout.book old new
    (omega (arith, address_behind layout laid set stands place (omega (arith, less, within)))) same)
