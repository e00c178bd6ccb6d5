-- What the writes of a unit make of the library and of the disk, and what they leave as it was.
use Rattle.std.specs.Prelude.{◌≡◌, ◌≤◌, ℕ, ◌+◌, ◌-◌, Bool, true, false, nat_lt, if◌then◌else◌, List, [], ◌∷◌, length, filter, take, Option, None, Some, option_and_then, IsTrue}
use Rattle.std.specs.Option.{option_map_or, is_some}
use Rattle.ckr_base.specs.declared.code.Code.TheVariants.{System}
use Rattle.ckr_base.specs.declared.programs.Finish.{Finish}
use Rattle.ckr_base.specs.declared.programs.Finish.TheVariants as Finishes
use Rattle.ckr_base.specs.declared.programs.Output.{Output}
use Rattle.ckr_base.specs.declared.programs.Output.TheVariants.{Main, Rejects, InPlace}
use Rattle.ckr_base.specs.declared.programs.Write.{Write}
use Rattle.ckr_base.specs.Columns.{fitted}
use Rattle.ckr_outside.specs.Disk.{EachSince}
use Rattle.ckr_library.specs.declared.sets.Content.TheVariants.{Plain}
use Rattle.ckr_library.specs.declared.sets.DataSet.{DataSet}
use Rattle.ckr_library.specs.Catalog.{Holding, Catalog, set_of, with_length}
use Rattle.ckr_library.specs.NameMaps.{Name, Named, entry_at, same_name, with_changed}
use Rattle.ckr_volumes.specs.declared.layout.Layout.{Layout}
use Rattle.ckr_volumes.specs.Records.{records_on}
use Rattle.ckr_volumes.specs.Layouts.{StandsIn, front_of, lie_apart}
use Rattle.ckr_meaning.specs.LibrarySet.{LibrarySet, Library}
use Rattle.ckr_meaning.specs.EffectiveJob.{is_among}
use Rattle.ckr_meaning.specs.Program.{OutputRoom, room_after, fitting}
use Rattle.ckr_meaning.specs.StepRun.{extended, changed_in}
use Rattle.ckr_steps.specs.declared.files.Files.{Files}
use Rattle.ckr_steps.specs.declared.step_run.Worked.{Worked}
use Rattle.ckr_steps.specs.declared.step_run.Worked.TheVariants.{Went, Rewrite, Abend}
use Rattle.ckr_steps.specs.Files.{set_of_source}

-- the data set behind whose last record a write goes
abbrev pub end_set : Files → Output → Option Name
end_set files Main = files.main
end_set files Rejects = files.rejects
end_set files (InPlace place) = None

-- ---- the space that is left

abbrev pub room_of_set : DataSet → ℕ
room_of_set set = set.space - set.length

abbrev pub room_at : Catalog → Option Name → ℕ
room_at catalog name = option_map_or room_of_set (option_and_then (set_of catalog) name) 0

unfoldable pub room_of : Catalog → Files → OutputRoom
room_of catalog files = record { main = room_at catalog files.main; rejects = room_at catalog files.rejects }

-- ---- what is done of a unit's writes

abbrev pub rewrite_in : Option DataSet → Output → List ℕ → Option (ℕ × List ℕ)
rewrite_in (Some set) (InPlace place) image = if nat_lt place set.length then Some (place, fitted set.lrecl image) else None
rewrite_in set output image = None

abbrev pub rewrite_first : Option DataSet → List Write → Option (ℕ × List ℕ)
rewrite_first set [] = None
rewrite_first set (write ∷ writes) = rewrite_in set write.output write.image

-- the rewrite that a unit's writes begin with, if they do, in the data set that is updated; of a place beyond its records there is none
unfoldable pub rewrite_of : Catalog → Files → List Write → Option (ℕ × List ℕ)
rewrite_of catalog files writes = rewrite_first (option_and_then (set_of catalog) (set_of_source files.first)) writes

-- the writes that go behind a last record
abbrev pub is_behind : Write → Bool
is_behind write = is_end write.output
  where
    is_end : Output → Bool
    is_end Main = true
    is_end Rejects = true
    is_end (InPlace place) = false

-- the writes that are done: before a rewrite there is none, and else those before the first one that has no space
abbrev pub done_unless : Option (ℕ × List ℕ) → List Write → List Write
done_unless None writes = writes
done_unless (Some rewrite) writes = []

unfoldable pub done_of : Catalog → Files → List Write → List Write
done_of catalog files writes = done_unless (rewrite_of catalog files writes) (fitting writes (room_of catalog files))

-- how many writes count: those that are done, or the rewrite
abbrev pub count_unless : Option (ℕ × List ℕ) → List Write → ℕ
count_unless None done = length (filter is_behind done)
count_unless (Some rewrite) done = 1

unfoldable pub count_of : Catalog → Files → List Write → ℕ
count_of catalog files writes = count_unless (rewrite_of catalog files writes) (fitting writes (room_of catalog files))

-- what is answered to a unit behind which so many records are taken
abbrev pub worked_by : ℕ → Option (ℕ × List ℕ) → Bool → Option Finish → Worked
worked_by taken (Some rewrite) fits finish = Rewrite rewrite.0 rewrite.1 taken
worked_by taken None false finish = Abend (System 2871)
worked_by taken None true (Some (Finishes.Abend code)) = Abend code
worked_by taken None true _ = Went taken

unfoldable pub answer_of : Catalog → Files → List Write → ℕ → Option Finish → Worked
answer_of catalog files writes taken finish =
    worked_by taken (rewrite_of catalog files writes) (is_some (room_after writes (room_of catalog files))) finish

-- ---- the library behind the writes

abbrev pub longer : Holding → Holding
longer holding = with_length (holding.set.length + 1) holding

abbrev pub grown_in : Option Name → Named Holding → Named Holding
grown_in None sets = sets
grown_in (Some name) sets = with_changed name longer sets

-- the library with the lengths behind these writes
abbrev pub grown : Files → List Write → Named Holding → Named Holding
grown files [] sets = sets
grown files (write ∷ writes) sets = grown files writes (grown_in (end_set files write.output) sets)

-- the writes that go behind the last record of this data set
abbrev pub gains : Files → Name → Write → Bool
gains files name write = option_map_or (same_name name) (end_set files write.output) false

abbrev pub gained : Files → Name → List Write → ℕ
gained files name writes = length (filter (gains files name) writes)

-- ---- the records behind the writes

-- the data set is that of the library of records: it has its record length, its space and its length, and where told the image has its records
pub record ShowsSet (told : Type 0) (image : List ℕ) (layout : Layout) (model : LibrarySet) (set : DataSet) : Type 0 where
  pub lrecl : set.lrecl ≡ model.lrecl
  pub space : set.space ≡ model.space
  pub length : set.length ≡ length model.records
  pub records : told → records_on image layout set set.length ≡ model.records

pub record IsShown (told : Type 0) (image : List ℕ) (layout : Layout) (model : LibrarySet) (catalog : Catalog) (name : Name) : Type 0 where
  pub set : DataSet
  pub is : set_of catalog name ≡ Some set
  pub shows : ShowsSet told image layout model set

-- under these names library and image have the data sets of a library of records, those for checkpoint entries aside
abbrev pub Shows : Type 0 → List ℕ → Layout → List Name → Library → Catalog → Type 0
Shows told image layout names model catalog =
    (name : Name) (set : LibrarySet) → is_among names name ≡ true → entry_at model name ≡ Some set → set.content ≡ Plain → IsShown told image layout set catalog name

-- a library of records with the images of these writes behind the last records
abbrev pub put_one : Files → Write → Library → Library
put_one files write library = changed_in (end_set files write.output) (extended write.image) library

abbrev pub put_all : Files → List Write → Library → Library
put_all files [] library = library
put_all files (write ∷ writes) library = put_all files writes (put_one files write library)

-- ---- what stays

-- a data set that lies apart from those of the library
abbrev pub LiesClear : Catalog → DataSet → Type 0
LiesClear catalog other = (name : Name) (set : DataSet) → set_of catalog name ≡ Some set → IsTrue (lie_apart set other)

-- of each data set of the library the image has the records that the other image has, up to the length that the library has for it, and
-- so it is with all records of a data set that lies apart from them, and with what stands before the volumes
pub record Keeps (layout : Layout) (catalog : Catalog) (old new : List ℕ) : Type 0 where
  pub records : (name : Name) (set : DataSet) (n : ℕ) → set_of catalog name ≡ Some set → n ≤ set.length → records_on new layout set n ≡ records_on old layout set n
  pub others : (other : DataSet) (n : ℕ) → LiesClear catalog other → StandsIn layout other → n ≤ other.space → records_on new layout other n ≡ records_on old layout other n
  pub front : take (front_of layout) new ≡ take (front_of layout) old

-- an image stems from one of these, and keeps what that one had
abbrev pub StemsKeeping : Layout → Catalog → (List ℕ → Type 0) → List ℕ → Type 0
StemsKeeping layout catalog images image = (from : List ℕ) × images from × Keeps layout catalog from image

-- what the disk reads, and what a stop might have left of it since, keeps what was there
pub record ChangesKeeping {D : Type 0} (told : Type 0) (content : D → List ℕ) (may_leave : D → List ℕ → Type 0) (moment : D → ℕ) (left_since : D → ℕ → List ℕ → Type 0) (layout : Layout) (catalog : Catalog) (old new : D) : Type 0 where
  pub reads : told → Keeps layout catalog (content old) (content new)
  pub since : EachSince moment left_since old new (StemsKeeping layout catalog (may_leave old))
