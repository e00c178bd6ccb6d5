-- The records that an entry takes in a data set for checkpoints, and what an image has of them.
use Rattle.std.specs.Prelude.{◌≡◌, ◌≤◌, ◌<◌, ◌⊎◌, ℕ, ◌+◌, ◌*◌, IsTrue, List, ◌++◌, length, take, drop, replicate, flat_map}
use Rattle.std.specs.List.{range_with_len}
use Rattle.ckr_outside.specs.Disk.{EachSince}
use Rattle.ckr_library.specs.declared.sets.DataSet.{DataSet}
use Rattle.ckr_library.specs.Catalog.{records_of}
use Rattle.ckr_volumes.specs.declared.layout.Layout.{Layout}
use Rattle.ckr_volumes.specs.Records.{record_at, records_on}
use Rattle.ckr_volumes.specs.Layouts.{StandsIn, front_of, lie_apart}

-- the first 256 bytes, with zeros behind fewer
unfoldable pub zero_filled : List ℕ → List ℕ
zero_filled bytes = take 256 (bytes ++ replicate 256 0)

-- the record of an entry at a place of it, counted from 0
abbrev pub entry_record : List ℕ → ℕ → List ℕ
entry_record entry place = zero_filled (drop (256 * place) entry)

-- the image has the records of an entry in a data set, from this place on
abbrev pub HasEntry : List ℕ → Layout → DataSet → ℕ → List ℕ → Type 0
HasEntry image layout set place entry =
    (n : ℕ) → n < records_of (length entry) → record_at image layout set (place + n) ≡ entry_record entry n

-- the bytes that an image has in a data set from the record of this place on, so many
unfoldable pub bytes_on : List ℕ → Layout → DataSet → ℕ → ℕ → List ℕ
bytes_on image layout set place count =
    take count (flat_map (λ n. record_at image layout set (place + n)) (range_with_len 0 (records_of count)))

-- ---- what stays

-- two images are the same but for so many records of a data set, from this place on: in its other records, in those of data sets that
-- lie apart, and before the volumes
pub record SameRecordsOutside (layout : Layout) (set : DataSet) (place count : ℕ) (old new : List ℕ) : Type 0 where
  pub records : (q : ℕ) → q < set.space → (q < place) ⊎ (place + count ≤ q) → record_at new layout set q ≡ record_at old layout set q
  pub others : (other : DataSet) (n : ℕ) → StandsIn layout other → IsTrue (lie_apart set other) → n ≤ other.space → records_on new layout other n ≡ records_on old layout other n
  pub front : take (front_of layout) new ≡ take (front_of layout) old

-- an image differs from one of these in those records alone
abbrev pub StemsFromRecords : Layout → DataSet → ℕ → ℕ → (List ℕ → Type 0) → List ℕ → Type 0
StemsFromRecords layout set place count images image = (from : List ℕ) × images from × SameRecordsOutside layout set place count from image

-- in those records alone the disk reads otherwise than before, and so does what a stop might have left
pub record ChangesRecords {D : Type 0} (told : Type 0) (content : D → List ℕ) (may_leave : D → List ℕ → Type 0) (moment : D → ℕ) (left_since : D → ℕ → List ℕ → Type 0) (layout : Layout) (set : DataSet) (place count : ℕ) (old new : D) : Type 0 where
  pub reads : told → SameRecordsOutside layout set place count (content old) (content new)
  pub since : EachSince moment left_since old new (StemsFromRecords layout set place count (may_leave old))
