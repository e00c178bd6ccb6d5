-- What holds of all units together.
use Rattle.std.proofs.Common.{◌≡◌, ◌≤◌, ◌<◌, ℕ, zero, suc, ◌+◌, ◌-◌, false, List, [], ◌∷◌, ◌++◌, map, length, take, drop, refl, sym, ap, ◌∙◌, arith, append-nil, add-one}
use Rattle.std.specs.List.{range_with_len, take_while, list_all}
use Rattle.std.proofs.lemmas.Bool.{lt-ltb}
use Rattle.std.proofs.lemmas.List.{length-take-le}
use Rattle.std.proofs.Common.{None, Some, Option}
use Rattle.std.specs.Option.{option_and_then}
use Rattle.std.specs.List.{last_or}
use Rattle.ckr_base.specs.declared.programs.UnitDone.{UnitDone}
use Rattle.ckr_base.proofs.Sequences.{drop-seam}
use Rattle.ckr_jcl.specs.declared.deck.Kind.{Kind}
use Rattle.ckr_jcl.specs.declared.deck.Kind.TheVariants.{Copy}
use Rattle.ckr_jcl.specs.declared.deck.Parm.{Parm}
use Rattle.ckr_programs.specs.declared.state.ProgState.{ProgState}
use Rattle.ckr_programs.specs.Records.{can_take}
use Rattle.ckr_programs.specs.Work.{ProgCase, input_of, taken_records, is_whole, sum_of, prog_writes, work, upto, rest}
use Rattle.ckr_programs.specs.Units.{StandsFor, IsSameRemainder, unit_done, between, units_from, written_by, end_of}
use Rattle.ckr_programs.proofs.InputRecords.{what_is_left}
use Rattle.ckr_programs.proofs.OutputRecords.{more_writes, writes-append}
use Rattle.ckr_programs.proofs.UnitResults.{work_split, rest_is, unit_at_end}

abbrev nothing : List (List ℕ)
nothing = []

take-nothing : (k : ℕ) → take k nothing ≡ nothing
take-nothing zero = refl
take-nothing (suc k) = refl

take-parts : (n m : ℕ) (xs : List (List ℕ)) → take (n + m) xs ≡ take n xs ++ take m (drop n xs)
take-parts zero m xs = ap (λ k. take k xs) (let e : 0 + m ≡ m = omega arith in e)
take-parts (suc n) m [] = take-nothing (suc n + m) ∙ sym (take-nothing m)
take-parts (suc n) m (x ∷ xs) =
    ap (λ k. take k (x ∷ xs)) (let e : suc n + m ≡ suc (n + m) = omega arith in e) ∙ ap (λ zs. x ∷ zs) (take-parts n m xs)

-- the writes for one record more begin with those for the records before
pub upto_begins : (case : ProgCase) (taken : ℕ) → taken ≤ length (taken_records case) → upto case (taken + 1) ≡ upto case taken ++ more_writes case.program case.parm taken (sum_of case.program case.parm (take taken (taken_records case))) (take 1 (drop taken (taken_records case))) false
upto_begins case taken within =
    ap (λ all. prog_writes case.program case.parm all false) (take-parts taken 1 (taken_records case))
    ∙ writes-append case.program case.parm (take taken (taken_records case)) (take 1 (drop taken (taken_records case))) false
    ∙ ap (λ place. upto case taken ++ more_writes case.program case.parm place (sum_of case.program case.parm (take taken (taken_records case))) (take 1 (drop taken (taken_records case))) false) (length-take-le taken (taken_records case) within)

one_more : (case : ProgCase) (taken : ℕ) → taken < length (taken_records case) → between case taken ++ rest case (taken + 1) ≡ rest case taken
one_more case taken within =
    drop-seam (upto case taken) _ (upto case (taken + 1)) _ (work case).writes
    (upto_begins case taken (omega arith))
    (work_split case (taken + 1) (omega arith))

ordinary : (case : ProgCase) (taken : ℕ) → taken < length (taken_records case) → unit_done case taken ≡ record { taken = 1; writes = record { items = between case taken }; finish = None }
unfolding unit_done
ordinary case taken within = rw (lt-ltb taken (length (taken_records case)) within) refl

-- the units from there on, of which so many take a record
rest_of_units : (case : ProgCase) (left taken : ℕ) → taken + left ≡ length (taken_records case) → written_by (map (unit_done case) (range_with_len taken (suc left))) ≡ rest case taken
rest_of_units case zero taken e =
    ap (λ unit. unit.writes.items ++ []) (unit_at_end case taken (omega arith)) ∙ append-nil (rest case taken)
rest_of_units case (suc left) taken e =
    ap (λ unit. unit.writes.items ++ written_by (map (unit_done case) (range_with_len (taken + 1) (suc left)))) (ordinary case taken (omega arith))
    ∙ ap (λ writes. between case taken ++ writes) (rest_of_units case left (taken + 1) (omega arith))
    ∙ one_more case taken (omega arith)

pub units_write_the_rest : (case : ProgCase) (taken : ℕ) → taken ≤ length (taken_records case) → written_by (units_from case taken) ≡ rest case taken
units_write_the_rest case taken within =
    ap (λ n. written_by (map (unit_done case) (range_with_len taken n))) (add-one (length (taken_records case) - taken))
    ∙ rest_of_units case (length (taken_records case) - taken) taken (omega arith)

no_writes : (program : Kind) (parm : Parm) → prog_writes program parm [] false ≡ []
unfolding prog_writes
no_writes Copy parm = refl
no_writes _ parm = refl

pub units_write_all : (case : ProgCase) → written_by (units_from case 0) ≡ (work case).writes
units_write_all case = units_write_the_rest case 0 (omega arith) ∙ ap (λ n. drop n (work case).writes) (nothing_yet case)
  where
    nothing_yet : (some : ProgCase) → length (upto some 0) ≡ 0
    nothing_yet some = ap length (no_writes some.program some.parm)

-- what is left to be taken, and whether all of it can be
left_is : (case : ProgCase) (taken : ℕ) → taken ≤ length (taken_records case) → (drop taken (taken_records case) ≡ take_while (can_take case.program case.parm) (drop taken (input_of case))) × (is_whole case ≡ list_all (can_take case.program case.parm) (drop taken (input_of case)))
unfolding taken_records is_whole
left_is case taken within = let part = what_is_left (can_take case.program case.parm) (input_of case) taken within in (part.taken, part.whole)

-- the rest by what is left
rest_by : (case : ProgCase) (taken : ℕ) (state : ProgState) → StandsFor state case taken → rest case taken ≡ more_writes state.kind case.parm state.first state.sum (take_while (can_take state.kind case.parm) (drop taken (input_of case))) (list_all (can_take state.kind case.parm) (drop taken (input_of case)))
rest_by case taken state stands =
    let left = left_is case taken stands.within in
    rest_is case taken stands.within
    ∙ ap (λ more. more_writes case.program case.parm taken (sum_of case.program case.parm (take taken (taken_records case))) more (is_whole case)) left.0
    ∙ ap (more_writes case.program case.parm taken (sum_of case.program case.parm (take taken (taken_records case))) (take_while (can_take case.program case.parm) (drop taken (input_of case)))) left.1
    ∙ ap (λ sum. more_writes case.program case.parm taken sum (take_while (can_take case.program case.parm) (drop taken (input_of case))) (list_all (can_take case.program case.parm) (drop taken (input_of case)))) (sym stands.sum)
    ∙ ap (λ place. more_writes case.program case.parm place state.sum (take_while (can_take case.program case.parm) (drop taken (input_of case))) (list_all (can_take case.program case.parm) (drop taken (input_of case)))) (sym stands.first)
    ∙ ap (λ kind. more_writes kind case.parm state.first state.sum (take_while (can_take kind case.parm) (drop taken (input_of case))) (list_all (can_take kind case.parm) (drop taken (input_of case)))) (sym stands.program)

pub same_rest : (first second : ProgCase) (one other : ℕ) (state : ProgState) → IsSameRemainder first second one other state → rest first one ≡ rest second other
same_rest first second one other state same =
    rest_by first one state same.stands_first
    ∙ ap (λ left. more_writes state.kind first.parm state.first state.sum (take_while (can_take state.kind first.parm) left) (list_all (can_take state.kind first.parm) left)) same.left
    ∙ ap (λ parm. more_writes state.kind parm state.first state.sum (take_while (can_take state.kind parm) (drop other (input_of second))) (list_all (can_take state.kind parm) (drop other (input_of second)))) same.parm
    ∙ sym (rest_by second other state same.stands_second)

-- ---- the last unit

last-range : (case : ProgCase) (left taken : ℕ) (before : Option UnitDone) → taken + left ≡ length (taken_records case) → option_and_then (λ unit. unit.finish) (last_or before (map (unit_done case) (range_with_len taken (suc left)))) ≡ Some (work case).finish
last-range case zero taken before e = ap (λ unit. unit.finish) (unit_at_end case taken (omega arith))
last-range case (suc left) taken before e = last-range case left (taken + 1) (Some (unit_done case taken)) (omega arith)

pub last_ends : (case : ProgCase) (taken : ℕ) → taken ≤ length (taken_records case) → end_of (units_from case taken) ≡ Some (work case).finish
last_ends case taken within =
    ap (λ n. end_of (map (unit_done case) (range_with_len taken n))) (add-one (length (taken_records case) - taken))
    ∙ last-range case (length (taken_records case) - taken) taken None (omega arith)

pub others_go_on : (case : ProgCase) (taken : ℕ) → taken < length (taken_records case) → (unit_done case taken).finish ≡ None
others_go_on case taken within = ap (λ unit. unit.finish) (ordinary case taken within)
