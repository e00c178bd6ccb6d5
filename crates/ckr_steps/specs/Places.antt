-- A running step at a place of its job's step: so many records are taken, and the library and the disk have what was written so far.
use Rattle.std.specs.Prelude.{◌≡◌, ◌<◌, ◌≤◌, ℕ, ◌+◌, Bool, true, false, ◌&&◌, if◌then◌else◌, List, [], ◌∷◌, ◌++◌, length, slice_get, Option, None, Some}
use Rattle.ckr_base.specs.declared.code.Code.{Code}
use Rattle.ckr_base.specs.declared.programs.Finish.TheVariants as Finishes
use Rattle.ckr_base.specs.declared.programs.Heads.{Heads}
use Rattle.ckr_base.specs.declared.programs.NextDue.{NextDue}
use Rattle.ckr_base.specs.declared.programs.NextDue.TheVariants as Dues
use Rattle.ckr_base.specs.declared.programs.Output.TheVariants.{InPlace}
use Rattle.ckr_base.specs.declared.programs.Write.{Write}
use Rattle.ckr_base.specs.Columns.{fitted}
use Rattle.ckr_uses.specs.Uses.{are_distinct}
use Rattle.ckr_entry.specs.declared.point.State.{State}
use Rattle.ckr_entry.specs.declared.point.State.TheVariants.{Plain, Matched}
use Rattle.ckr_jcl.specs.declared.deck.Kind.{Kind}
use Rattle.ckr_jcl.specs.declared.deck.Kind.TheVariants.{Update}
use Rattle.ckr_library.specs.declared.sets.Content.TheVariants as Contents
use Rattle.ckr_library.specs.Catalog.{Catalog}
use Rattle.ckr_library.specs.NameMaps.{Name, entry_at}
use Rattle.ckr_programs.specs.Work.{read_by}
use Rattle.ckr_match.specs.Images.{has_transactions}
use Rattle.ckr_match.specs.State.{return_code}
use Rattle.ckr_volumes.specs.declared.layout.Layout.{Layout}
use Rattle.ckr_meaning.specs.EffectiveJob.{names_of}
use Rattle.ckr_meaning.specs.LibrarySet.{LibrarySet, Library}
use Rattle.ckr_meaning.specs.Program.{ProgramCase, OutputRoom, room_after, upto, work}
use Rattle.ckr_meaning.specs.States.{StandsFor, first_of, second_of}
use Rattle.ckr_meaning.specs.StepRun.{StepStart, case_at, made_at, room_at, within_at, work_at}
use Rattle.ckr_steps.specs.declared.files.Files.{Files}
use Rattle.ckr_steps.specs.declared.files.RecordSource.{RecordSource}
use Rattle.ckr_steps.specs.declared.files.RecordSource.TheVariants.{InDeck, InSet}
use Rattle.ckr_steps.specs.declared.step_run.StepRun.{StepRun}
use Rattle.ckr_steps.specs.declared.step_run.Worked.{Worked}
use Rattle.ckr_steps.specs.declared.step_run.Worked.TheVariants.{Went, Rewrite, Abend}
use Rattle.ckr_steps.specs.Files.{files_of, set_of_source}
use Rattle.ckr_steps.specs.Units.{AreServed, is_cancelled, is_checkpointed, is_closed}
use Rattle.ckr_steps.specs.Writes.{room_of, Shows}

-- the files of a step that starts
abbrev pub files_at : StepStart → Files
files_at start = files_of start.root start.owned.owner start.owned.step

-- the names of the step
abbrev pub names_at : StepStart → List Name
names_at start = names_of start.root start.owned

-- ---- a step that may start

abbrev pub IsPlain : Library → Option Name → Type 0
IsPlain library None = Unit {0}
IsPlain library (Some name) = (set : LibrarySet) × (entry_at library name ≡ Some set) × (set.content ≡ Contents.Plain)

abbrev pub HasSetFor : Kind → RecordSource → Type 0
HasSetFor Update source = (name : Name) × (source ≡ InSet name)
HasSetFor _ source = Unit {0}

-- The names of the step differ. The data sets of its program are there once they are made, and hold records of programs. What is updated
-- is a data set.
pub record MayStart (start : StepStart) : Type 0 where
  pub distinct : are_distinct (names_at start) ≡ true
  pub first : IsPlain (made_at start) (set_of_source (files_at start).first)
  pub second : IsPlain (made_at start) (set_of_source (files_at start).second)
  pub main : IsPlain (made_at start) (files_at start).main
  pub rejects : IsPlain (made_at start) (files_at start).rejects
  pub updates : HasSetFor start.owned.step.program (files_at start).first

-- ---- a place in it

-- the space of the outputs as the step starts; a program without rejects has none for them
abbrev pub first_room : StepStart → OutputRoom
first_room start = record {
  main = (room_at start).main;
  rejects = if has_transactions start.owned.step.program then (room_at start).rejects else 0;
}

-- the writes behind so many records taken, or all of them where the program is closed
abbrev pub writes_by : StepStart → ℕ → Bool → List Write
writes_by start taken false = upto (case_at start) taken
writes_by start taken true = (work (case_at start)).writes

-- the return code of a program in this state, once it is closed
abbrev pub return_of : State → ℕ
return_of (Plain state) = 0
return_of (Matched state) = return_code state.rejects

-- the step stands in its job behind so many records taken, or behind its closing unit: all writes so far had space, and are counted
pub record IsStepPlace (start : StepStart) (taken : ℕ) (closed : Bool) (step : StepRun) (library : Catalog) : Type 0 where
  pub may : MayStart start
  pub parm : step.parm ≡ start.owned.step.parm
  pub files : step.files ≡ files_at start
  pub state : StandsFor step.state (case_at start) taken
  pub open_or_closed : is_closed step.state ≡ closed
  pub writes : step.writes ≡ length (writes_by start taken closed)
  pub room : room_after (writes_by start taken closed) (first_room start) ≡ Some (room_of library step.files)
  pub finish : closed ≡ true → (work_at start).finish ≡ Finishes.Returned (return_of step.state)

-- under the names of the step, library and image have the data sets as the first writes of the step leave them
abbrev pub ShowsWithin : Type 0 → List ℕ → Layout → StepStart → ℕ → Catalog → Type 0
ShowsWithin told image layout start writes library = Shows told image layout (names_at start) (within_at start writes) library

-- the heads are the next records of the program's inputs
pub record AreNext (case : ProgramCase) (state : State) (heads : Heads) : Type 0 where
  pub first : heads.first ≡ slice_get (read_by case.program case.first) (first_of state)
  pub second : heads.second ≡ slice_get case.second (second_of state)

-- ---- a unit from there

-- a record more is taken, at whose count nothing is served yet, or the program is closed, at the same count
pub record GoesTo (told : Type 0) (image : List ℕ) (layout : Layout) (start : StepStart) (taken : ℕ) (old step : StepRun) (library : Catalog) : Type 0 where
  pub closed : Bool
  pub stands : IsStepPlace start taken closed step library
  pub served : AreServed (closed && is_checkpointed old.state) (closed && is_cancelled old.state) step.state
  pub shows : ShowsWithin told image layout start step.writes library

-- the writes for a record more are those for the records before and this rewrite, which isn't on the disk yet
pub record IsToRewrite (told : Type 0) (image : List ℕ) (layout : Layout) (start : StepStart) (before taken place : ℕ) (bytes : List ℕ) (old new : StepRun) (library : Catalog) : Type 0 where
  pub stands : IsStepPlace start taken false new library
  pub served : AreServed false false new.state
  pub program : start.owned.step.program ≡ Update
  pub rewritten : LibrarySet
  pub name : Name
  pub updates : (files_at start).first ≡ InSet name
  pub stood : entry_at (within_at start old.writes) name ≡ Some rewritten
  pub below : place < length rewritten.records
  pub write : Write
  pub goes : write.output ≡ InPlace place
  pub fits : bytes ≡ fitted rewritten.lrecl write.image
  pub more : upto (case_at start) taken ≡ upto (case_at start) before ++ write ∷ []
  pub counted : new.writes ≡ old.writes + 1
  pub shows : ShowsWithin told image layout start old.writes library

-- so ends the step, and its writes are done
pub record EndsSo (told : Type 0) (image : List ℕ) (layout : Layout) (start : StepStart) (code : Code) (step : StepRun) (library : Catalog) : Type 0 where
  pub finish : (work_at start).finish ≡ Finishes.Abend code
  pub writes : step.writes ≡ length (work_at start).writes
  pub shows : ShowsWithin told image layout start step.writes library

-- what an answer says of the step that stood behind so many records taken
abbrev pub GoesOn : Type 0 → List ℕ → Layout → StepStart → ℕ → StepRun → StepRun → Catalog → Worked → Type 0
GoesOn told image layout start before old new library (Went taken) = GoesTo told image layout start taken old new library
GoesOn told image layout start before old new library (Rewrite place bytes taken) = IsToRewrite told image layout start before taken place bytes old new library
GoesOn told image layout start before old new library (Abend code) = EndsSo told image layout start code new library

-- wherever the step stood in its job, it goes on from there as its work does
abbrev pub GoesOnAnywhere : Type 0 → List ℕ → List ℕ → Layout → StepRun → StepRun → Catalog → Catalog → Worked → Type 0
GoesOnAnywhere told before after layout old new library later worked =
    (start : StepStart) (taken : ℕ) → IsStepPlace start taken false old library → ShowsWithin told before layout start old.writes library
    → GoesOn told after layout start taken old new later worked

-- what is due of a step that stands somewhere: it has finished exactly where it is closed, with the return code of its work
abbrev pub DueAt : StepStart → Bool → NextDue → Type 0
DueAt start true (Dues.Finished rc) = (work_at start).finish ≡ Finishes.Returned rc
DueAt start true _ = ⊥
DueAt start false (Dues.Finished rc) = ⊥
DueAt start false _ = Unit {0}

-- ---- a step that starts

-- the records in the deck are few
abbrev pub HasFewCards : RecordSource → Type 0
HasFewCards (InDeck cards) = length cards ≤ 1000000
HasFewCards _ = Unit {0}

-- the library has the data sets of the step as they are made
abbrev pub HasMade : Layout → StepStart → Catalog → Type 0
HasMade layout start library = Shows ⊥ [] layout (names_at start) (made_at start) library

-- ---- a step that goes on from a point

-- the state and the writes at a point of the step's work: behind so many records taken, with the program open, and the writes are those for these records, which had space
pub record IsPointOf (start : StepStart) (taken : ℕ) (state : State) (writes : ℕ) : Type 0 where
  pub stands : StandsFor state (case_at start) taken
  pub open_yet : is_closed state ≡ false
  pub made : writes ≡ length (upto (case_at start) taken)
  pub had_space : writes ≤ length (work_at start).writes

-- the library has the data sets of the step as its first writes leave them
abbrev pub HasWithin : Layout → StepStart → ℕ → Catalog → Type 0
HasWithin layout start writes library = ShowsWithin ⊥ [] layout start writes library
