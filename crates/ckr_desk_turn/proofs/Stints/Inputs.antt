-- A program takes no more records than its inputs have, and so it is with all that lies ahead of a run.
use Rattle.std.proofs.Common.{◌≡◌, ◌≤◌, ◌+◌, ℕ, suc, Bool, true, false, cond, List, [], ◌∷◌, ◌++◌, length, map, refl, sym, subst, Option, Some, None, arith, length-append}
use Rattle.std.proofs.lemmas.List.{length-map}
use Rattle.std.specs.Prelude.{if◌then◌else◌}
use Rattle.std.specs.List.{sum_by, take_while}
use Rattle.std.specs.Option.{option_map_or}
use Rattle.std.proofs.lemmas.List.Sums.{sum_by-cons, take_while-cons}
use Rattle.ckr_jcl.specs.declared.deck.Kind.{Kind}
use Rattle.ckr_jcl.specs.declared.deck.Kind.TheVariants.{Br14}
use Rattle.ckr_match.specs.InputOrder.{Keys, Taken, inserted, may_follow, ordered_prefix, prefix_of, sorted_by_key, stands_below, taken_from, taken_of, up_to_fault}
use Rattle.ckr_match.specs.State.{has_two_inputs}
use Rattle.ckr_match.specs.Work.{case_keys}
use Rattle.ckr_meaning.specs.JobRun.{start_at}
use Rattle.ckr_meaning.specs.Program.{ProgramCase, match_case, plain_case, records_taken, taken_by}
use Rattle.ckr_meaning.specs.StepRun.{StepStart, case_at}
use Rattle.ckr_points.specs.Office.{Leg}
use Rattle.ckr_points.specs.Restart.{place_of, step_in}
use Rattle.ckr_points.specs.Rows.{RunRow}
use Rattle.ckr_programs.specs.Records.{can_take}
use Rattle.ckr_programs.specs.Work.{ProgCase, read_by, taken_records}
use Rattle.ckr_desk_turn.specs.Desk.{DeskModel}
use Rattle.ckr_desk_turn.specs.Stints.{inputs_ahead, inputs_behind, records_ahead, records_behind, steps_from, taken_in}

-- ---- a program of one input

while-most : {X : Type 0} (p : X → Bool) (xs : List X) → length (take_while p xs) ≤ length xs
while-most p [] = omega arith
while-most p (x ∷ xs) =
    let rest : length (take_while p xs) ≤ length xs = while-most p xs in
    subst (λ ys. length ys ≤ length (x ∷ xs)) (sym (take_while-cons p x xs)) (by (p x) rest)
  where
    by : (b : Bool) → length (take_while p xs) ≤ length xs → length (cond b (x ∷ take_while p xs) []) ≤ suc (length xs)
    by true rest = omega arith
    by false rest = omega arith

read-most : (program : Kind) (input : List (List ℕ)) → length (read_by program input) ≤ length input
read-most Br14 input = omega arith
read-most _ input = omega arith

plain-most : (case : ProgCase) → length (taken_records case) ≤ length case.input
unfolding taken_records
plain-most case =
    let read : length (read_by case.program case.input) ≤ length case.input = read-most case.program case.input in
    let taken : length (take_while (can_take case.program case.parm) (read_by case.program case.input)) ≤ length (read_by case.program case.input) = while-most (can_take case.program case.parm) (read_by case.program case.input) in
    omega (arith, read, taken)

-- ---- one of two

module _ (keys : Keys) where
  prefix-most : (input : List Taken) → length (ordered_prefix keys input) ≤ length input
  prefix-most [] = omega arith
  prefix-most (first ∷ []) = omega arith
  prefix-most (first ∷ next ∷ rest) = by (may_follow keys first next) (prefix-most (next ∷ rest))
    where
      by : (b : Bool) → length (ordered_prefix keys (next ∷ rest)) ≤ suc (length rest) → length (if b then first ∷ ordered_prefix keys (next ∷ rest) else record first { faulty = true } ∷ []) ≤ suc (suc (length rest))
      by true within = omega arith
      by false within = omega arith

  inserted-one : (one : Taken) (taken : List Taken) → length (inserted keys one taken) ≡ suc (length taken)
  inserted-one one [] = refl
  inserted-one one (first ∷ rest) = by (stands_below keys first one) (inserted-one one rest)
    where
      by : (b : Bool) → length (inserted keys one rest) ≡ suc (length rest) → length (if b then first ∷ inserted keys one rest else one ∷ first ∷ rest) ≡ suc (suc (length rest))
      by true same = omega arith
      by false same = omega arith

  sorted-all : (taken : List Taken) → length (sorted_by_key keys taken) ≡ length taken
  sorted-all [] = refl
  sorted-all (first ∷ rest) =
      let one : length (inserted keys first (sorted_by_key keys rest)) ≡ suc (length (sorted_by_key keys rest)) = inserted-one first (sorted_by_key keys rest) in
      let others : length (sorted_by_key keys rest) ≡ length rest = sorted-all rest in
      omega (arith, one, others)

  fault-most : (taken : List Taken) → length (up_to_fault taken) ≤ length taken
  fault-most [] = omega arith
  fault-most (first ∷ rest) = by first.faulty (fault-most rest)
    where
      by : (b : Bool) → length (up_to_fault rest) ≤ length rest → length (if b then first ∷ [] else first ∷ up_to_fault rest) ≤ suc (length rest)
      by true within = omega arith
      by false within = omega arith

  matched-most : (first second : List (List ℕ)) → length (taken_from keys first second) ≤ length first + length second
  unfolding taken_from
  matched-most first second =
      let all : List Taken = prefix_of keys false first ++ prefix_of keys true second in
      let one : length (prefix_of keys false first) ≤ length (map (taken_of false) first) = prefix-most (map (taken_of false) first) in
      let other : length (prefix_of keys true second) ≤ length (map (taken_of true) second) = prefix-most (map (taken_of true) second) in
      let first_all : length (map (taken_of false) first) ≡ length first = length-map first (taken_of false) in
      let second_all : length (map (taken_of true) second) ≡ length second = length-map second (taken_of true) in
      let both : length all ≡ length (prefix_of keys false first) + length (prefix_of keys true second) = length-append (prefix_of keys false first) (prefix_of keys true second) in
      let sorted : length (sorted_by_key keys all) ≡ length all = sorted-all all in
      let cut : length (up_to_fault (sorted_by_key keys all)) ≤ length (sorted_by_key keys all) = fault-most (sorted_by_key keys all) in
      omega (arith, one, other, first_all, second_all, both, sorted, cut)

-- ---- any program

records-most : (case : ProgramCase) → records_taken case ≤ length case.first + length case.second
unfolding records_taken
records-most case = by (has_two_inputs case.program)
  where
    by : (two : Bool) → taken_by two case ≤ length case.first + length case.second
    by false = let most : length (taken_records (plain_case case)) ≤ length case.first = plain-most (plain_case case) in omega (arith, most)
    by true = matched-most (case_keys (match_case case)) case.first case.second

behind-most : (taken : ℕ) (start : StepStart) → records_behind taken start ≤ inputs_behind taken start
behind-most taken start =
    let most : records_taken (case_at start) ≤ length (case_at start).first + length (case_at start).second = records-most (case_at start) in
    omega (arith, most)

sum-most : (steps : List StepStart) → sum_by (records_behind 0) steps ≤ sum_by (inputs_behind 0) steps
sum-most [] = omega arith
sum-most (start ∷ steps) =
    let rest : sum_by (records_behind 0) steps ≤ sum_by (inputs_behind 0) steps = sum-most steps in
    let here : records_behind 0 start ≤ inputs_behind 0 start = behind-most 0 start in
    let records : sum_by (records_behind 0) (start ∷ steps) ≡ records_behind 0 start + sum_by (records_behind 0) steps = sum_by-cons (records_behind 0) start steps in
    let inputs : sum_by (inputs_behind 0) (start ∷ steps) ≡ inputs_behind 0 start + sum_by (inputs_behind 0) steps = sum_by-cons (inputs_behind 0) start steps in
    omega (arith, rest, here, records, inputs)

pub records-inputs : (desk : DeskModel) (leg : Leg) (row : RunRow) → records_ahead desk leg row ≤ inputs_ahead desk leg row
records-inputs desk leg row =
    let later : sum_by (records_behind 0) (steps_from leg (suc (step_in (place_of row)))) ≤ sum_by (inputs_behind 0) (steps_from leg (suc (step_in (place_of row)))) = sum-most (steps_from leg (suc (step_in (place_of row)))) in
    let here : option_map_or (records_behind (taken_in desk row.number)) (start_at leg.job leg.start (step_in (place_of row))) 0 ≤ option_map_or (inputs_behind (taken_in desk row.number)) (start_at leg.job leg.start (step_in (place_of row))) 0 =
    by (start_at leg.job leg.start (step_in (place_of row))) in
    omega (arith, later, here)
  where
    by : (start : Option StepStart) → option_map_or (records_behind (taken_in desk row.number)) start 0 ≤ option_map_or (inputs_behind (taken_in desk row.number)) start 0
    by None = omega arith
    by (Some start) = behind-most (taken_in desk row.number) start
