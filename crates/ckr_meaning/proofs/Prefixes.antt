-- The work goes on from unit to unit: the writes for one record more are those for the records before and what the next unit writes.
use Rattle.std.proofs.Common.{◌≡◌, ◌≤◌, ◌<◌, ℕ, ◌+◌, ◌-◌, Bool, true, false, cond, List, ◌++◌, drop, length, None, Some, refl, ap, sym, ◌∙◌, arith, ltb}
use Rattle.std.proofs.lemmas.Bool.{lt-ltb, le-ltb}
use Rattle.std.proofs.Math.Seq.{drop-append_seam}
use Rattle.ckr_base.specs.declared.programs.Write.{Write}
use Rattle.ckr_programs.specs.Work.{ProgCase}
use Rattle.ckr_programs.specs.Work as plain
use Rattle.ckr_programs.specs.Units as plain_units
use Rattle.ckr_programs.proofs.UnitResults as plain_done
use Rattle.ckr_programs.proofs.AllUnits as plain_together
use Rattle.ckr_match.specs.State.{has_two_inputs}
use Rattle.ckr_match.specs.InputOrder.{of_second}
use Rattle.ckr_match.specs.Work.{MatchCase}
use Rattle.ckr_match.specs.Work as matched
use Rattle.ckr_match.specs.Units as matched_units
use Rattle.ckr_match.proofs.AllUnits as matched_together
use Rattle.ckr_meaning.specs.Program.{ProgramCase, plain_case, match_case, work_by, taken_by, upto_by, unit_by, work, records_taken, upto, rest, unit_done}

-- the next unit takes a record
pub record TakesOne (case : ProgramCase) (taken : ℕ) : Type 0 where
  pub more : upto case (taken + 1) ≡ upto case taken ++ (unit_done case taken).writes.items
  pub goes_on : (unit_done case taken).finish ≡ None
  pub counts : 0 < (unit_done case taken).taken

-- the next unit ends the program
pub record EndsWork (case : ProgramCase) (taken : ℕ) : Type 0 where
  pub all : (work case).writes ≡ upto case taken ++ (unit_done case taken).writes.items
  pub ends : (unit_done case taken).finish ≡ Some (work case).finish
  pub counts : (unit_done case taken).taken ≡ 0

begins : (front whole piece : List Write) → whole ≡ front ++ piece → whole ≡ front ++ drop (length front) whole
begins front whole piece is = is ∙ ap (λ p. front ++ p) (sym (ap (drop (length front)) is ∙ drop-append_seam front piece))

takes_by : (two : Bool) (case : ProgramCase) (taken : ℕ) → taken < taken_by two case
    → (upto_by two case (taken + 1) ≡ upto_by two case taken ++ (unit_by two case taken).writes.items) × ((unit_by two case taken).finish ≡ None) × (0 < (unit_by two case taken).taken)
unfolding plain_units.unit_done matched_units.unit_done
takes_by false case taken within =
    let one : ProgCase = plain_case case in
    rw (lt-ltb taken (length (plain.taken_records one)) within)
    (begins (plain.upto one taken) (plain.upto one (taken + 1)) _ (plain_together.upto_begins one taken (omega arith)), refl, positive)
  where
    positive : 0 < 1
    positive = omega arith
takes_by true case taken within =
    let both : MatchCase = match_case case in
    let piece = matched_together.grows both taken within in
    rw (lt-ltb taken (length (matched.taken_records both)) within)
    (begins (matched.upto both taken) (matched.upto both (taken + 1)) piece.0 piece.1, refl, counted (ltb (length (of_second (matched_units.first_taken both taken))) (length (of_second (matched_units.first_taken both (taken + 1))))))
  where
    counted : (b : Bool) → 0 < cond b 2 1
    counted true = omega arith
    counted false = omega arith

ends_by : (two : Bool) (case : ProgramCase) (taken : ℕ) → taken ≡ taken_by two case
    → ((work_by two case).writes ≡ upto_by two case taken ++ (unit_by two case taken).writes.items) × ((unit_by two case taken).finish ≡ Some (work_by two case).finish) × ((unit_by two case taken).taken ≡ 0)
unfolding plain_units.unit_done matched_units.unit_done
ends_by false case taken e =
    let one : ProgCase = plain_case case in
    rw (le-ltb taken (length (plain.taken_records one)) (omega arith))
    (begins (plain.upto one taken) (plain.work one).writes _ (plain_done.work_split one taken (omega arith)), refl, refl)
ends_by true case taken e =
    let both : MatchCase = match_case case in
    let more = matched_together.goes_behind both 0 taken (omega arith) in
    rw (le-ltb taken (length (matched.taken_records both)) (omega arith))
    (begins (matched.upto both taken) (matched.work_writes both) more.0 more.1, refl, refl)

work_by_parts : (two : Bool) (case : ProgramCase) (taken : ℕ) → taken ≤ taken_by two case → (work_by two case).writes ≡ upto_by two case taken ++ drop (length (upto_by two case taken)) (work_by two case).writes
work_by_parts false case taken within =
    let one : ProgCase = plain_case case in begins (plain.upto one taken) (plain.work one).writes _ (plain_done.work_split one taken within)
work_by_parts true case taken within =
    let both : MatchCase = match_case case in
    let more = matched_together.goes_behind both (length (matched.taken_records both) - taken) taken (omega arith) in
    begins (matched.upto both taken) (matched.work_writes both) more.0 more.1

pub takes_one : (case : ProgramCase) (taken : ℕ) → taken < records_taken case → TakesOne case taken
unfolding records_taken upto unit_done
takes_one case taken within = let parts = takes_by (has_two_inputs case.program) case taken within in record { more = parts.0; goes_on = parts.1; counts = parts.2 }

pub ends_work : (case : ProgramCase) (taken : ℕ) → taken ≡ records_taken case → EndsWork case taken
unfolding work records_taken upto unit_done
ends_work case taken e = let parts = ends_by (has_two_inputs case.program) case taken e in record { all = parts.0; ends = parts.1; counts = parts.2 }

-- the work is the writes for the first records and the rest
pub work_in_parts : (case : ProgramCase) (taken : ℕ) → taken ≤ records_taken case → (work case).writes ≡ upto case taken ++ rest case taken
unfolding work records_taken upto
work_in_parts case taken within = work_by_parts (has_two_inputs case.program) case taken within
