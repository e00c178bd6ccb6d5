-- Entries as the types of their parts have them: they have a spelling where their numbers are in their ranges.
use Rattle.std.specs.Prelude.{◌≡◌, ◌≤◌, ◌<◌, ◌+◌, ◌^◌, ℕ, None}
use Rattle.ckr_entry.specs.declared.point.State.{State}
use Rattle.ckr_entry.specs.declared.point.State.TheVariants.{Plain, Matched}
use Rattle.ckr_entry.specs.Numbers.{given}
use Rattle.ckr_entry.specs.Parts.{Entry}
use Rattle.ckr_entry.specs.Sets.{marks, passed}
use Rattle.ckr_entry.specs.States.{key, matched_counts, matched_state, placed, plain_counts, plain_state}
use Rattle.ckr_fields.specs.Fields.{check_id, name8, record_bytes}
use Rattle.ckr_jcl.specs.declared.deck.Kind.{Kind}
use Rattle.ckr_jcl.specs.declared.deck.Kind.TheVariants.{Copy, Select, Merge, Master, Update, Print}
use Rattle.ckr_match.specs.declared.state.MatchState.{MatchState}
use Rattle.ckr_programs.specs.declared.state.ProgState.{ProgState}

-- a state at a checkpoint, with nothing that its program hasn't
abbrev pub IsPlainOf : ProgState → Kind → Type 0
IsPlainOf state Copy = state ≡ plain_state Copy (plain_counts state) 0
IsPlainOf state Select = state ≡ plain_state Select (plain_counts state) 0
IsPlainOf state Print = state ≡ plain_state Print (plain_counts state) state.sum
IsPlainOf state _ = ⊥

abbrev pub IsMatchedOf : MatchState → Kind → Type 0
IsMatchedOf state Merge = state ≡ matched_state Merge (matched_counts state) state.first_key state.second_key None None
IsMatchedOf state Master = state ≡ matched_state Master (matched_counts state) state.first_key state.second_key state.held None
IsMatchedOf state Update = state ≡ matched_state Update (matched_counts state) state.first_key state.second_key None state.last
IsMatchedOf state _ = ⊥

-- the records taken are those of the two inputs, and the entry is counted
pub record IsPlainForm (taken : ℕ) (state : ProgState) : Type 0 where
  pub form : IsPlainOf state state.kind
  pub all : state.first + state.second ≡ taken
  pub counted : 1 ≤ state.entries

pub record IsMatchedForm (taken : ℕ) (state : MatchState) : Type 0 where
  pub form : IsMatchedOf state state.kind
  pub all : state.first + state.second ≡ taken
  pub counted : 1 ≤ state.entries
  pub first_key : key.fits state.first_key
  pub second_key : key.fits state.second_key
  pub held : (given record_bytes).fits state.held
  pub last : (given (placed state.first)).fits state.last

abbrev pub IsStateForm : ℕ → State → Type 0
IsStateForm taken (Plain state) = IsPlainForm taken state
IsStateForm taken (Matched state) = IsMatchedForm taken state

-- names are in their grammar, numbers have their width, and the marks ascend
pub record IsEntryForm (entry : Entry) : Type 0 where
  pub id : check_id.fits entry.id
  pub job : name8.fits entry.job
  pub run : entry.run < 2 ^ 32
  pub owner : entry.owner < 2 ^ 32
  pub step : entry.step < 256
  pub step_name : name8.fits entry.step_name
  pub counted : 1 ≤ entry.count
  pub taken : entry.taken < 2 ^ 32
  pub stands : IsStateForm entry.taken entry.state
  pub marked : marks.fits entry.marks
  pub passed_on : passed.fits entry.passed
