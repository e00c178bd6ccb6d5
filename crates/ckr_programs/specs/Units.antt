-- What one unit of a program does, and which state stands for the records taken.
use Rattle.std.specs.Prelude.{◌≡◌, ◌≤◌, ℕ, ◌+◌, ◌-◌, Bool, true, false, nat_lt, if◌then◌else◌, List, [], ◌∷◌, map, flat_map, take, drop, length, slice_get, option_and_then, Option, None, Some}
use Rattle.std.specs.List.{last_or, range_with_len}
use Rattle.ckr_base.specs.declared.programs.Finish.{Finish}
use Rattle.ckr_base.specs.declared.programs.Finish.TheVariants.{Returned}
use Rattle.ckr_base.specs.declared.programs.UnitDone.{UnitDone}
use Rattle.ckr_base.specs.declared.programs.Write.{Write}
use Rattle.ckr_jcl.specs.declared.deck.Kind.{Kind}
use Rattle.ckr_jcl.specs.declared.deck.Kind.TheVariants.{Copy, Select, Print}
use Rattle.ckr_jcl.specs.declared.deck.Parm.{Parm}
use Rattle.ckr_programs.specs.declared.state.ProgState.{ProgState}
use Rattle.ckr_programs.specs.Records.{is_selected}
use Rattle.ckr_programs.specs.Pages.{lines_of}
use Rattle.ckr_programs.specs.Work.{ProgCase, taken_records, input_of, sum_of, upto, rest, work}

-- the state is that of the program behind so many records taken
pub record StandsFor (state : ProgState) (case : ProgCase) (taken : ℕ) : Type 0 where
  pub program : state.kind ≡ case.program
  pub within : taken ≤ length (taken_records case)
  pub first : state.first ≡ taken
  pub second : state.second ≡ 0
  pub rejects : state.rejects ≡ 0
  pub sum : state.sum ≡ sum_of case.program case.parm (take taken (taken_records case))

-- a unit is to be done behind so many records taken: the head is the next record of the input
pub record IsUnitAt (state : ProgState) (parm : Parm) (head : Option (List ℕ)) (case : ProgCase) (taken : ℕ) : Type 0 where
  pub stands : StandsFor state case taken
  pub parm_of : parm ≡ case.parm
  pub head_of : head ≡ slice_get (input_of case) taken

-- what lies between the writes for so many records taken and those for one more
abbrev pub between : ProgCase → ℕ → List Write
between case taken = drop (length (upto case taken)) (upto case (taken + 1))

-- the unit behind so many records taken: it takes the next one, or ends the program with what is left to write
unfoldable pub unit_done : ProgCase → ℕ → UnitDone
unit_done case taken =
    if nat_lt taken (length (taken_records case))
    then record { taken = 1; writes = record { items = between case taken }; finish = None }
    else record { taken = 0; writes = record { items = rest case taken }; finish = Some (work case).finish }

-- the units from there on, up to the one that ends the program
abbrev pub units_from : ProgCase → ℕ → List UnitDone
units_from case taken = map (unit_done case) (range_with_len taken (length (taken_records case) - taken + 1))

abbrev pub written_by : List UnitDone → List Write
written_by units = flat_map (λ unit. unit.writes.items) units

-- how the last of some units ends the program
abbrev pub end_of : List UnitDone → Option Finish
end_of units = option_and_then (λ unit. unit.finish) (last_or None units)

-- two cases that stand alike, with the same records before them
pub record IsSameRemainder (first second : ProgCase) (one other : ℕ) (state : ProgState) : Type 0 where
  pub parm : first.parm ≡ second.parm
  pub stands_first : StandsFor state first one
  pub stands_second : StandsFor state second other
  pub left : drop one (input_of first) ≡ drop other (input_of second)

-- whether the program has ended with a return code
abbrev pub is_returned : Option Finish → Bool
is_returned (Some (Returned code)) = true
is_returned _ = false

-- what is written for one record at its place
abbrev pub images_at : Kind → Parm → ℕ → List ℕ → List (List ℕ)
images_at Copy parm place bytes = bytes ∷ []
images_at Select parm place bytes = if is_selected parm bytes then bytes ∷ [] else []
images_at Print parm place bytes = lines_of parm (place, bytes)
images_at _ parm place bytes = []
