-- The entry at which a run goes on, as it was read: the run is denied by D3 where its bytes aren't the point that the tables keep, and by D7 where the state
-- isn't of the step's program (this project's profile of IBM GC28-6708).
use Rattle.std.specs.Prelude.{◌≡◌, ◌==◌, ℕ, Bool, true, false, if◌then◌else◌, List, Option, Result, Ok, Err}
use Rattle.std.specs.Option.{option_map_or}
use Rattle.ckr_entry.specs.Entry.{IsEntry, entry_in}
use Rattle.ckr_entry.specs.Parts.{Entry}
use Rattle.ckr_jcl.specs.declared.deck.Kind.{Kind}
use Rattle.ckr_library.specs.Catalog.{ends_within}
use Rattle.ckr_library.specs.declared.sets.DataSet.{DataSet}
use Rattle.ckr_points.specs.Rows.{KeptEntry}
use Rattle.ckr_points.specs.Statements.{kind_number}
use Rattle.ckr_points_tables.specs.Entries.{entry_in as entry_now}
use Rattle.ckr_rules.specs.declared.cases.Rule.{Rule}
use Rattle.ckr_rules.specs.declared.cases.Rule.TheVariants.{D3, D7}
use Rattle.ckr_steps.specs.EntryRecords.{bytes_on}
use Rattle.ckr_steps.specs.Units.{program_of}
use Rattle.ckr_volumes.specs.declared.layout.Layout.{Layout}
use Rattle.ckr_desk_store.specs.Answers.{HasFailed}
use Rattle.ckr_desk_store.specs.State.{StoreView}
use Rattle.ckr_desk_entries.specs.Entries.{state_in}
use Rattle.ckr_desk_entries.specs.KeptPoint.{is_as_kept}
use Rattle.ckr_desk_entries.specs.declared.continuation.KeptThere.{KeptThere}
use Rattle.ckr_desk_entries.specs.declared.error.ReadError.{ReadError}
use Rattle.ckr_desk_entries.specs.declared.error.ReadError.TheVariants.{NoMemory, Fault}
use Rattle.ckr_desk_entries.specs.declared.step_state.StepState.{StepState}

-- ---- the entry

-- an entry that a data set keeps
pub record EntryThere : Type 0 where
  pub set : DataSet
  pub entry : KeptEntry

-- as the code has it
abbrev pub there_of : KeptThere → EntryThere
there_of there = record { set = there.set.now; entry = entry_now there.entry }

abbrev pub is_of_program : Option Kind → Entry → Bool
is_of_program program entry = option_map_or (λ (kind : Kind). kind_number (program_of entry.state) == kind_number kind) program false

-- ---- what is judged

-- where the step stands at which a run goes on, or the rule that denies it, by an entry that was read
abbrev pub judged_entry : KeptEntry → Option Kind → Entry → Result StepState Rule
judged_entry kept program entry =
    if is_as_kept kept entry then if is_of_program program entry then Ok (state_in entry) else Err D7 else Err D3

abbrev pub judged_read : KeptEntry → Option Kind → Result Entry ℕ → Result StepState Rule
judged_read kept program (Ok entry) = judged_entry kept program entry
judged_read kept program (Err offset) = Err D3

-- by the bytes of an image, where the entry has its places
abbrev pub judged_there : Layout → List ℕ → Option Kind → EntryThere → Result StepState Rule
judged_there layout image program there =
    if ends_within there.set.space there.entry.kept
    then judged_read there.entry program (entry_in (bytes_on image layout there.set there.entry.kept.place there.entry.kept.bytes))
    else Err D3

-- ---- on any disk

-- where a step was found to stand, an entry has it, with a state of the step's program
pub record IsEntryState (program : Option Kind) (state : StepState) : Type 0 where
  pub entry : Entry
  pub form : IsEntry entry
  pub is : state ≡ state_in entry
  pub right : is_of_program program entry ≡ true

-- the rules that tell what is wrong with an entry
abbrev pub IsEntryRule : Rule → Type 0
IsEntryRule D3 = Unit {0}
IsEntryRule D7 = Unit {0}
IsEntryRule _ = ⊥

abbrev pub IsStateFound : Option Kind → Result StepState Rule → Type 0
IsStateFound program (Ok state) = IsEntryState program state
IsStateFound program (Err rule) = IsEntryRule rule

-- ---- why it wasn't read

-- no memory, and the disk only was read, or the disk's faults, and the store has stopped
abbrev pub StoreCause : {D : Type 0} → (D → ℕ) → StoreView D → StoreView D → ReadError → Type 0
StoreCause faults old new NoMemory = new ≡ record old { disk = new.disk }
StoreCause faults old new Fault = HasFailed faults old new
