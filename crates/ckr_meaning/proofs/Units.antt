-- The units of any program together.
use Rattle.std.proofs.Common.{◌≡◌, ◌≤◌, ℕ, ◌+◌, ◌-◌, Bool, true, false, List, map, drop, length, Some}
use Rattle.std.specs.List.{range_with_len}
use Rattle.ckr_base.specs.declared.programs.UnitDone.{UnitDone}
use Rattle.ckr_programs.specs.Units.{written_by, end_of}
use Rattle.ckr_programs.proofs.AllUnits as plain_units
use Rattle.ckr_match.specs.State.{has_two_inputs}
use Rattle.ckr_match.proofs.AllUnits as matched_units
use Rattle.ckr_meaning.specs.Program.{ProgramCase, plain_case, match_case, work_by, taken_by, upto_by, unit_by, work, records_taken, upto, rest, unit_done, units_from}

units_by : Bool → ProgramCase → ℕ → List UnitDone
units_by two case taken = map (unit_by two case) (range_with_len taken (taken_by two case - taken + 1))

units_write : (two : Bool) (case : ProgramCase) (taken : ℕ) → taken ≤ taken_by two case → written_by (units_by two case taken) ≡ drop (length (upto_by two case taken)) (work_by two case).writes
unfolding units_by
units_write false case taken within = plain_units.units_write_the_rest (plain_case case) taken within
units_write true case taken within = matched_units.units_write_the_rest (match_case case) taken within

units_write_all : (two : Bool) (case : ProgramCase) → written_by (units_by two case 0) ≡ (work_by two case).writes
unfolding units_by
units_write_all false case = plain_units.units_write_all (plain_case case)
units_write_all true case = matched_units.units_write_all (match_case case)

units_end : (two : Bool) (case : ProgramCase) (taken : ℕ) → taken ≤ taken_by two case → end_of (units_by two case taken) ≡ Some (work_by two case).finish
unfolding units_by
units_end false case taken within = plain_units.last_ends (plain_case case) taken within
units_end true case taken within = matched_units.last_ends (match_case case) taken within

pub write_the_rest : (case : ProgramCase) (taken : ℕ) → taken ≤ records_taken case → written_by (units_from case taken) ≡ rest case taken
unfolding work records_taken upto unit_done units_by
write_the_rest case taken within = units_write (has_two_inputs case.program) case taken within

pub write_all : (case : ProgramCase) → written_by (units_from case 0) ≡ (work case).writes
unfolding work records_taken unit_done units_by
write_all case = units_write_all (has_two_inputs case.program) case

pub end_as_the_work : (case : ProgramCase) (taken : ℕ) → taken ≤ records_taken case → end_of (units_from case taken) ≡ Some (work case).finish
unfolding work records_taken unit_done units_by
end_as_the_work case taken within = units_end (has_two_inputs case.program) case taken within
