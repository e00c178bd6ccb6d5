-- The work of any program: what it writes for the records taken, how it ends, and what its outputs have room for.
use Rattle.std.specs.Prelude.{ℕ, zero, suc, ◌+◌, ◌-◌, ◌==◌, Bool, true, false, if◌then◌else◌, List, [], ◌∷◌, map, drop, length, Option, None, Some, option_and_then}
use Rattle.std.specs.List.{range_with_len}
use Rattle.std.specs.Option.{option_map_or}
use Rattle.ckr_base.specs.declared.code.Code.TheVariants.{System}
use Rattle.ckr_base.specs.declared.programs.Finish.TheVariants.{Abend}
use Rattle.ckr_base.specs.declared.programs.Output.{Output}
use Rattle.ckr_base.specs.declared.programs.Output.TheVariants.{Main, Rejects, InPlace}
use Rattle.ckr_base.specs.declared.programs.UnitDone.{UnitDone}
use Rattle.ckr_base.specs.declared.programs.Write.{Write}
use Rattle.ckr_jcl.specs.declared.deck.Kind.{Kind}
use Rattle.ckr_jcl.specs.declared.deck.Parm.{Parm}
use Rattle.ckr_programs.specs.Work.{ProgCase, Work}
use Rattle.ckr_programs.specs.Work as plain
use Rattle.ckr_programs.specs.Units as plain_units
use Rattle.ckr_match.specs.State.{has_two_inputs}
use Rattle.ckr_match.specs.Work.{MatchCase}
use Rattle.ckr_match.specs.Work as matched
use Rattle.ckr_match.specs.Units as matched_units

-- a program with its PARM and its inputs; a program of one input reads no second one
pub record ProgramCase : Type 0 where
  pub program : Kind
  pub parm : Parm
  pub first : List (List ℕ)
  pub second : List (List ℕ)

abbrev pub plain_case : ProgramCase → ProgCase
plain_case case = record { program = case.program; parm = case.parm; input = case.first }

abbrev pub match_case : ProgramCase → MatchCase
match_case case = record { program = case.program; parm = case.parm; first = case.first; second = case.second }

abbrev pub work_by : Bool → ProgramCase → Work
work_by false case = plain.work (plain_case case)
work_by true case = matched.work (match_case case)

-- what a program writes, and how it ends
unfoldable pub work : ProgramCase → Work
work case = work_by (has_two_inputs case.program) case

abbrev pub taken_by : Bool → ProgramCase → ℕ
taken_by false case = length (plain.taken_records (plain_case case))
taken_by true case = length (matched.taken_records (match_case case))

-- how many records it takes
unfoldable pub records_taken : ProgramCase → ℕ
records_taken case = taken_by (has_two_inputs case.program) case

abbrev pub upto_by : Bool → ProgramCase → ℕ → List Write
upto_by false case count = plain.upto (plain_case case) count
upto_by true case count = matched.upto (match_case case) count

-- the writes for the first records taken
unfoldable pub upto : ProgramCase → ℕ → List Write
upto case count = upto_by (has_two_inputs case.program) case count

-- the work without the writes for the first records taken
abbrev pub rest : ProgramCase → ℕ → List Write
rest case count = drop (length (upto case count)) (work case).writes

abbrev pub unit_by : Bool → ProgramCase → ℕ → UnitDone
unit_by false case taken = plain_units.unit_done (plain_case case) taken
unit_by true case taken = matched_units.unit_done (match_case case) taken

-- the unit behind so many records taken
unfoldable pub unit_done : ProgramCase → ℕ → UnitDone
unit_done case taken = unit_by (has_two_inputs case.program) case taken

-- the units from there on, up to the one that ends the program
abbrev pub units_from : ProgramCase → ℕ → List UnitDone
units_from case taken = map (unit_done case) (range_with_len taken (records_taken case - taken + 1))

-- ---- the room of the outputs

-- how many more records each output has space for
pub record OutputRoom : Type 0 where
  pub main : ℕ
  pub rejects : ℕ

abbrev pub less_main : ℕ → ℕ → Option OutputRoom
less_main zero rejects = None
less_main (suc main) rejects = Some (record { main = main; rejects = rejects })

abbrev pub less_rejects : ℕ → ℕ → Option OutputRoom
less_rejects main zero = None
less_rejects main (suc rejects) = Some (record { main = main; rejects = rejects })

-- the room behind a write, if it fits; a rewrite in place always does
abbrev pub room_behind : Output → OutputRoom → Option OutputRoom
room_behind Main room = less_main room.main room.rejects
room_behind Rejects room = less_rejects room.main room.rejects
room_behind (InPlace place) room = Some room

-- the room behind all the writes, if they fit
abbrev pub room_after : List Write → OutputRoom → Option OutputRoom
room_after [] room = Some room
room_after (write ∷ writes) room = option_and_then (room_after writes) (room_behind write.output room)

-- the writes before the first one that doesn't fit
abbrev pub fitting : List Write → OutputRoom → List Write
fitting [] room = []
fitting (write ∷ writes) room = option_map_or (λ left. write ∷ fitting writes left) (room_behind write.output room) []

-- what fits of more writes, in the room behind the first ones if there is any
abbrev pub fitting_in : Option OutputRoom → List Write → List Write
fitting_in None writes = []
fitting_in (Some room) writes = fitting writes room

-- the work as far as the room goes: SB37 where a write doesn't fit
unfoldable pub work_within : OutputRoom → Work → Work
work_within room whole =
    let writes = fitting whole.writes room in
    record {
      writes = writes;
      finish = if length writes == length whole.writes then whole.finish else Abend (System 2871);
    }
