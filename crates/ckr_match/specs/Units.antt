-- What one unit of a program does, and which state stands for the records taken.
use Rattle.std.specs.Prelude.{◌≡◌, ◌≤◌, ℕ, ◌+◌, ◌-◌, nat_lt, if◌then◌else◌, List, [], map, take, drop, length, slice_get, Option, None, Some}
use Rattle.std.specs.Option.{option_map, option_map_or}
use Rattle.std.specs.List.{last_or, range_with_len}
use Rattle.ckr_base.specs.declared.programs.Heads.{Heads}
use Rattle.ckr_base.specs.declared.programs.UnitDone.{UnitDone}
use Rattle.ckr_base.specs.declared.programs.Write.{Write}
use Rattle.ckr_jcl.specs.declared.deck.Kind.{Kind}
use Rattle.ckr_jcl.specs.declared.deck.Kind.TheVariants.{Master, Update}
use Rattle.ckr_jcl.specs.declared.deck.Parm.{Parm}
use Rattle.ckr_match.specs.declared.state.MatchState.{MatchState}
use Rattle.ckr_match.specs.InputOrder.{Taken, Keys, key_of, of_first, of_second}
use Rattle.ckr_match.specs.Master.{groups_of, balance_of}
use Rattle.ckr_match.specs.Work.{MatchCase, case_keys, taken_records, upto, rest, work, rejects_in}

-- the key of the last record, empty where there is none
abbrev pub last_key : Keys → List Taken → List ℕ
last_key keys taken = option_map_or (key_of keys) (last_or None taken) []

-- what MASTER holds: what the records of the last key leave
abbrev pub held_in : Kind → Keys → List Taken → Option (List ℕ)
held_in Master keys taken = option_map_or (λ group. (balance_of group).held) (last_or None (groups_of keys taken)) None
held_in _ keys taken = None

-- UPDATE's last master and its place
abbrev pub last_master : Kind → List Taken → Option (ℕ × List ℕ)
last_master Update taken = option_map (λ one. (length (of_first taken) - 1, one.bytes)) (last_or None (of_first taken))
last_master _ taken = None

-- the first records that are taken
abbrev pub first_taken : MatchCase → ℕ → List Taken
first_taken case taken = take taken (taken_records case)

-- the state is that of the program behind so many records taken
pub record StandsFor (state : MatchState) (case : MatchCase) (taken : ℕ) : Type 0 where
  pub program : state.kind ≡ case.program
  pub within : taken ≤ length (taken_records case)
  pub first : state.first ≡ length (of_first (first_taken case taken))
  pub second : state.second ≡ length (of_second (first_taken case taken))
  pub rejects : state.rejects ≡ rejects_in (upto case taken)
  pub first_key : state.first_key.items ≡ last_key (case_keys case) (of_first (first_taken case taken))
  pub second_key : state.second_key.items ≡ last_key (case_keys case) (of_second (first_taken case taken))
  pub held : state.held ≡ held_in case.program (case_keys case) (first_taken case taken)
  pub last : state.last ≡ last_master case.program (first_taken case taken)

-- a unit is to be done behind so many records taken: the heads are the next records of the inputs
pub record IsUnitAt (state : MatchState) (parm : Parm) (heads : Heads) (case : MatchCase) (taken : ℕ) : Type 0 where
  pub stands : StandsFor state case taken
  pub parm_of : parm ≡ case.parm
  pub first_of : heads.first ≡ slice_get case.first state.first
  pub second_of : heads.second ≡ slice_get case.second state.second

-- what lies between the writes for so many records taken and those for one more
abbrev pub between : MatchCase → ℕ → List Write
between case taken = drop (length (upto case taken)) (upto case (taken + 1))

-- the input of the next record taken, 1 or 2
abbrev pub next_input : MatchCase → ℕ → ℕ
next_input case taken =
    if nat_lt (length (of_second (first_taken case taken))) (length (of_second (first_taken case (taken + 1)))) then 2 else 1

-- the unit behind so many records taken: it takes the next one, or ends the program with what is left to write
unfoldable pub unit_done : MatchCase → ℕ → UnitDone
unit_done case taken =
    if nat_lt taken (length (taken_records case))
    then record { taken = next_input case taken; writes = record { items = between case taken }; finish = None }
    else record { taken = 0; writes = record { items = rest case taken }; finish = Some (work case).finish }

-- the records taken behind a unit
abbrev pub taken_behind : UnitDone → ℕ → ℕ
taken_behind unit taken = if nat_lt 0 unit.taken then taken + 1 else taken

-- the units from there on, up to the one that ends the program
abbrev pub units_from : MatchCase → ℕ → List UnitDone
units_from case taken = map (unit_done case) (range_with_len taken (length (taken_records case) - taken + 1))

-- two cases that stand alike, with the same records before them
pub record IsSameRemainder (first second : MatchCase) (one other : ℕ) (state : MatchState) : Type 0 where
  pub parm : first.parm ≡ second.parm
  pub stands_first : StandsFor state first one
  pub stands_second : StandsFor state second other
  pub left_first : drop state.first first.first ≡ drop state.first second.first
  pub left_second : drop state.second first.second ≡ drop state.second second.second
