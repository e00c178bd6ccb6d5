-- What opening refuses of the entries of checkpoints in effect: one without its places in its data set, or one that isn't read as a
-- point of the step that its run is in.
use Rattle.std.specs.Prelude.{◌≡◌, ℕ, Bool, true, if◌then◌else◌, IfOk, List, Option, None, Some, option_and_then, Result, Ok, Err}
use Rattle.std.specs.Option.{is_some, option_map_or}
use Rattle.ckr_entry.specs.Entry.{IsEntry, entry_in, told_offset}
use Rattle.ckr_entry.specs.Parts.{Entry}
use Rattle.ckr_entry.specs.declared.point.Mark.{Mark}
use Rattle.ckr_jcl.specs.declared.deck.Dd.{Dd}
use Rattle.ckr_library.specs.Catalog.{ends_within}
use Rattle.ckr_library.specs.NameMaps.{entry_at}
use Rattle.ckr_library.specs.declared.sets.Kept.{Kept}
use Rattle.ckr_meaning.specs.EffectiveJob.{OwnedStep, name_of}
use Rattle.ckr_points.specs.Marks.{present_at}
use Rattle.ckr_points.specs.Office.{is_holder}
use Rattle.ckr_points.specs.Rows.{EffectPoint, RunRow, TableSet, TablesModel, run_of}
use Rattle.ckr_steps.specs.EntryRecords.{bytes_on}
use Rattle.ckr_volumes.specs.declared.layout.Layout.{Layout}
use Rattle.ckr_desk_entries.specs.EntryRefusal.{effect_fault, first_fault, is_of_run}
use Rattle.ckr_desk_entries.specs.declared.error.ReadError.{ReadError}
use Rattle.ckr_desk_entries.specs.declared.error.ReadError.TheVariants.{NoMemory, Fault}
use Rattle.ckr_desk_entries.specs.declared.step_state.StepState.{StepState}

-- the records of an entry have their places in a data set
abbrev pub has_places : Kept → TableSet → Bool
has_places kept table = ends_within table.set.space kept

-- so it is with the entry of a checkpoint in effect, if the tables have its data set
abbrev pub is_placed : TablesModel → EffectPoint → Bool
is_placed tables effect = option_map_or (has_places effect.kept) (entry_at tables.sets effect.set) true

-- where the entry of a checkpoint in effect is refused; at 0 where it hasn't its places
abbrev pub effect_refusal : Layout → TablesModel → List ℕ → RunRow → EffectPoint → Option ℕ
effect_refusal layout tables image row effect = if is_placed tables effect then effect_fault layout tables image row effect else Some 0

-- of a run that runs, is held or released
abbrev pub run_refusal : Layout → TablesModel → List ℕ → RunRow → Option ℕ
run_refusal layout tables image row = if is_holder row.state then option_and_then (effect_refusal layout tables image row) row.in_effect else None

-- the least run whose entry is refused, and where
unfoldable pub bad_entry : Layout → TablesModel → List ℕ → Option (ℕ × ℕ)
bad_entry layout tables image = first_fault (run_refusal layout tables image) tables.runs

-- the data set of a DD of a step was there at a point, if the DD has one
abbrev pub is_dd_present : List Mark → ℕ → OwnedStep → Dd → Bool
is_dd_present marks root own dd = option_map_or (λ name. is_some (present_at marks name)) (name_of root own dd) true

-- each checkpoint in effect has its places
abbrev pub ArePlaced : TablesModel → Type 0
ArePlaced tables = (number : ℕ) (row : RunRow) (effect : EffectPoint) → run_of tables number ≡ Some row → row.in_effect ≡ Some effect → is_placed tables effect ≡ true

-- why an entry wasn't read
abbrev pub EntryCause : Type 0 → ReadError → Type 0
EntryCause rose NoMemory = Unit {0}
EntryCause rose Fault = rose

-- ---- where the steps of checkpoints in effect stand

-- where an entry has its step
abbrev pub state_in : Entry → StepState
state_in entry = record { state = entry.state; writes = entry.writes }

-- where an entry has its step, or where it is refused
abbrev pub state_read : (Entry → Bool) → Result Entry ℕ → Result StepState ℕ
state_read is_right (Ok entry) = if is_right entry then Ok (state_in entry) else Err 0
state_read is_right (Err offset) = Err (told_offset offset)

abbrev pub refused_at : Result StepState ℕ → Option ℕ
refused_at (Ok state) = None
refused_at (Err offset) = Some offset

-- What was found where an entry has its places: where its step stands, or where it is refused. It is what the disk reads there, if it tells that.
pub record IsFoundAt (told : Type 0) (is_right : Entry → Bool) (there : Result Entry ℕ) (found : Result StepState ℕ) : Type 0 where
  pub read : Result Entry ℕ
  pub is : found ≡ state_read is_right read
  pub form : IfOk read IsEntry
  pub same : told → read ≡ there

-- a step stands where an entry has the step that its run is in; that is the entry of the checkpoint in effect, if the disk tells what it holds
pub record IsStateRead (told : Type 0) (layout : Layout) (tables : TablesModel) (image : List ℕ) (row : RunRow) (effect : EffectPoint) (state : StepState) : Type 0 where
  pub entry : Entry
  pub form : IsEntry entry
  pub its : is_of_run row entry ≡ true
  pub is : state ≡ state_in entry
  pub read : told → (table : TableSet) → entry_at tables.sets effect.set ≡ Some table → entry_in (bytes_on image layout table.set effect.kept.place effect.kept.bytes) ≡ Ok entry

-- what was found of a run: none only where it has no checkpoint in effect, or doesn't hold its names
abbrev pub IsFoundOf : Type 0 → Layout → TablesModel → List ℕ → RunRow → Option (Result StepState ℕ) → Type 0
IsFoundOf told layout tables image row None = is_holder row.state ≡ true → row.in_effect ≡ None
IsFoundOf told layout tables image row (Some (Err offset)) = Unit {0}
IsFoundOf told layout tables image row (Some (Ok state)) = (effect : EffectPoint) × (row.in_effect ≡ Some effect) × IsStateRead told layout tables image row effect state
