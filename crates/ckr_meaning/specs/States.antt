-- Which state of which program stands for the records taken.
use Rattle.std.specs.Prelude.{◌≡◌, ℕ, true, false, drop}
use Rattle.ckr_entry.specs.declared.point.State.{State}
use Rattle.ckr_entry.specs.declared.point.State.TheVariants.{Plain, Matched}
use Rattle.ckr_programs.specs.declared.state.ProgState.{ProgState}
use Rattle.ckr_programs.specs.Units as plain_units
use Rattle.ckr_match.specs.declared.state.MatchState.{MatchState}
use Rattle.ckr_match.specs.State.{has_two_inputs}
use Rattle.ckr_match.specs.Units as matched_units
use Rattle.ckr_meaning.specs.Program.{ProgramCase, plain_case, match_case}

-- a program of at most one input, and its state
pub record PlainStands (state : ProgState) (case : ProgramCase) (taken : ℕ) : Type 0 where
  pub program : has_two_inputs case.program ≡ false
  pub stands : plain_units.StandsFor state (plain_case case) taken

-- a program of two inputs, and its state
pub record MatchStands (state : MatchState) (case : ProgramCase) (taken : ℕ) : Type 0 where
  pub program : has_two_inputs case.program ≡ true
  pub stands : matched_units.StandsFor state (match_case case) taken

-- the state is that of the program behind so many records taken
abbrev pub StandsFor : State → ProgramCase → ℕ → Type 0
StandsFor (Plain state) case taken = PlainStands state case taken
StandsFor (Matched state) case taken = MatchStands state case taken

-- how many records a state has of the first input, and of the second
abbrev pub first_of : State → ℕ
first_of (Plain state) = state.first
first_of (Matched state) = state.first

abbrev pub second_of : State → ℕ
second_of (Plain state) = state.second
second_of (Matched state) = state.second

-- two cases that stand alike, with the same records before them
pub record IsSameRemainder (first second : ProgramCase) (one other : ℕ) (state : State) : Type 0 where
  pub program : first.program ≡ second.program
  pub parm : first.parm ≡ second.parm
  pub stands_first : StandsFor state first one
  pub stands_second : StandsFor state second other
  pub left_first : drop (first_of state) first.first ≡ drop (first_of state) second.first
  pub left_second : drop (second_of state) first.second ≡ drop (second_of state) second.second
