-- UPDATE rewrites places of masters that it took, and it takes no more masters than its first input has.
use Rattle.std.proofs.Common.{◌≡◌, ◌≤◌, ◌<◌, ◌+◌, ℕ, zero, suc, Bool, true, false, cond, not, if◌then◌else◌, List, [], ◌∷◌, ◌++◌, map, take, length, refl, ap, sym, ◌∙◌, Option, Some, None, arith, length-append}
use Rattle.std.specs.Prelude.{◌==◌, nat_lt}
use Rattle.std.specs.List.{list_all, position_from}
use Rattle.std.specs.Option.{option_map_or}
use Rattle.std.proofs.lemmas.Bool.{and_from, lt-ltb}
use Rattle.std.proofs.lemmas.List.Elements.{filter-append}
use Rattle.std.proofs.lemmas.Option.{same_Some}
use Rattle.ckr_base.specs.declared.programs.Write.{Write}
use Rattle.ckr_base.proofs.Options.{some-not-none}
use Rattle.ckr_jcl.specs.declared.deck.Kind.TheVariants.{Update}
use Rattle.ckr_jcl.specs.declared.deck.Parm.{Parm}
use Rattle.ckr_match.specs.Images.{code_of, same_key}
use Rattle.ckr_match.specs.InputOrder.{Keys, Taken, inserted, may_follow, of_first, of_second, ordered_prefix, prefix_of, sorted_by_key, stands_below, taken_from, taken_of, up_to_fault}
use Rattle.ckr_match.specs.Work.{case_keys, match_writes, update_write, write_at}
use Rattle.ckr_meaning.specs.Program.{ProgramCase, match_case, upto}
use Rattle.ckr_points.specs.Follows.{is_update}
use Rattle.ckr_points.specs.Soundness.{rewrite_of}
use Rattle.ckr_desk_turn.proofs.Rewrite.UnitWrites.{by_update}

-- ---- how many records of the first input are among those taken

abbrev firsts : List Taken → ℕ
firsts taken = length (of_first taken)

abbrev mark : Taken → ℕ
mark one = cond one.second 0 1

firsts-next : (one : Taken) (rest : List Taken) → firsts (one ∷ rest) ≡ mark one + firsts rest
firsts-next one rest = by one.second
  where
    by : (second : Bool) → length (cond (not second) (one ∷ of_first rest) (of_first rest)) ≡ cond second 0 1 + length (of_first rest)
    by true = omega arith
    by false = omega arith

firsts-front : (count : ℕ) (taken : List Taken) → firsts (take count taken) ≤ firsts taken
firsts-front zero taken = omega arith
firsts-front (suc count) [] = omega arith
firsts-front (suc count) (one ∷ rest) =
    let front : firsts (one ∷ take count rest) ≡ mark one + firsts (take count rest) = firsts-next one (take count rest) in
    let whole : firsts (one ∷ rest) ≡ mark one + firsts rest = firsts-next one rest in
    let fewer : firsts (take count rest) ≤ firsts rest = firsts-front count rest in
    omega (arith, front, whole, fewer)

firsts-unfaulty : (taken : List Taken) → firsts (up_to_fault taken) ≤ firsts taken
firsts-unfaulty [] = omega arith
firsts-unfaulty (one ∷ rest) = by one.faulty (firsts-unfaulty rest)
  where
    by : (faulty : Bool) → firsts (up_to_fault rest) ≤ firsts rest → firsts (cond faulty (one ∷ []) (one ∷ up_to_fault rest)) ≤ firsts (one ∷ rest)
    by true fewer =
        let alone : firsts (one ∷ []) ≡ mark one + 0 = firsts-next one [] in
        let whole : firsts (one ∷ rest) ≡ mark one + firsts rest = firsts-next one rest in
        omega (arith, alone, whole)
    by false fewer =
        let front : firsts (one ∷ up_to_fault rest) ≡ mark one + firsts (up_to_fault rest) = firsts-next one (up_to_fault rest) in
        let whole : firsts (one ∷ rest) ≡ mark one + firsts rest = firsts-next one rest in
        omega (arith, front, whole, fewer)

firsts-inserted : (keys : Keys) (one : Taken) (taken : List Taken) → firsts (inserted keys one taken) ≡ mark one + firsts taken
firsts-inserted keys one [] = firsts-next one []
firsts-inserted keys one (first ∷ rest) = by (stands_below keys first one) (firsts-inserted keys one rest)
  where
    by : (below : Bool) → firsts (inserted keys one rest) ≡ mark one + firsts rest → firsts (cond below (first ∷ inserted keys one rest) (one ∷ first ∷ rest)) ≡ mark one + firsts (first ∷ rest)
    by true behind =
        let front : firsts (first ∷ inserted keys one rest) ≡ mark first + firsts (inserted keys one rest) = firsts-next first (inserted keys one rest) in
        let whole : firsts (first ∷ rest) ≡ mark first + firsts rest = firsts-next first rest in
        omega (arith, front, whole, behind)
    by false behind = firsts-next one (first ∷ rest)

firsts-sorted : (keys : Keys) (taken : List Taken) → firsts (sorted_by_key keys taken) ≡ firsts taken
firsts-sorted keys [] = refl
firsts-sorted keys (one ∷ rest) =
    firsts-inserted keys one (sorted_by_key keys rest) ∙ ap (λ n. mark one + n) (firsts-sorted keys rest) ∙ sym (firsts-next one rest)

firsts-ordered : (keys : Keys) (taken : List Taken) → firsts (ordered_prefix keys taken) ≤ firsts taken
firsts-ordered keys [] = omega arith
firsts-ordered keys (one ∷ []) = omega arith
firsts-ordered keys (one ∷ next ∷ rest) = by (may_follow keys one next) (firsts-ordered keys (next ∷ rest))
  where
    by : (follows : Bool) → firsts (ordered_prefix keys (next ∷ rest)) ≤ firsts (next ∷ rest) → firsts (cond follows (one ∷ ordered_prefix keys (next ∷ rest)) (record one { faulty = true } ∷ [])) ≤ firsts (one ∷ next ∷ rest)
    by true fewer =
        let front : firsts (one ∷ ordered_prefix keys (next ∷ rest)) ≡ mark one + firsts (ordered_prefix keys (next ∷ rest)) = firsts-next one (ordered_prefix keys (next ∷ rest)) in
        let whole : firsts (one ∷ next ∷ rest) ≡ mark one + firsts (next ∷ rest) = firsts-next one (next ∷ rest) in
        omega (arith, front, whole, fewer)
    by false fewer =
        let alone : firsts (record one { faulty = true } ∷ []) ≡ mark one + 0 = firsts-next (record one { faulty = true }) [] in
        let whole : firsts (one ∷ next ∷ rest) ≡ mark one + firsts (next ∷ rest) = firsts-next one (next ∷ rest) in
        omega (arith, alone, whole)

firsts-of_first : (input : List (List ℕ)) → firsts (map (taken_of false) input) ≡ length input
firsts-of_first [] = refl
firsts-of_first (bytes ∷ input) = ap suc (firsts-of_first input)

firsts-of_second : (input : List (List ℕ)) → firsts (map (taken_of true) input) ≡ 0
firsts-of_second [] = refl
firsts-of_second (bytes ∷ input) = firsts-of_second input

firsts-taken : (keys : Keys) (first second : List (List ℕ)) → firsts (taken_from keys first second) ≤ length first
unfolding taken_from
firsts-taken keys first second =
    let both_in : List Taken = prefix_of keys false first ++ prefix_of keys true second in
    let unfaulty : firsts (up_to_fault (sorted_by_key keys (prefix_of keys false first ++ prefix_of keys true second))) ≤ firsts (sorted_by_key keys (prefix_of keys false first ++ prefix_of keys true second)) = firsts-unfaulty (sorted_by_key keys both_in) in
    let sorted : firsts (sorted_by_key keys (prefix_of keys false first ++ prefix_of keys true second)) ≡ firsts (prefix_of keys false first ++ prefix_of keys true second) = firsts-sorted keys both_in in
    let parts : firsts (prefix_of keys false first ++ prefix_of keys true second) ≡ firsts (prefix_of keys false first) + firsts (prefix_of keys true second) =
    ap length (filter-append (λ (one : Taken). not one.second) (prefix_of keys false first) (prefix_of keys true second)) ∙ length-append (of_first (prefix_of keys false first)) (of_first (prefix_of keys true second)) in
    let here : firsts (prefix_of keys false first) ≤ firsts (map (taken_of false) first) = firsts-ordered keys (map (taken_of false) first) in
    let there : firsts (prefix_of keys true second) ≤ firsts (map (taken_of true) second) = firsts-ordered keys (map (taken_of true) second) in
    let most : firsts (map (taken_of false) first) ≡ length first = firsts-of_first first in
    let none : firsts (map (taken_of true) second) ≡ 0 = firsts-of_second second in
    omega (arith, unfaulty, sorted, parts, here, there, most, none)

-- ---- places

-- a write that rewrites no place from there on
abbrev pub rewrites_below : ℕ → Write → Bool
rewrites_below most write = option_map_or (λ at. nat_lt at.0 most) (rewrite_of write.output write.image) true

position-below : (test : Taken → Bool) (from : ℕ) (records : List Taken) (place : ℕ) → position_from test from records ≡ Some place → place < from + length records
position-below test from [] place is = absurd (some-not-none place (sym is))
position-below test from (first ∷ rest) place is = by (test first) is (position-below test (from + 1) rest place)
  where
    by : (b : Bool) → cond b (Some from) (position_from test (from + 1) rest) ≡ Some place → (position_from test (from + 1) rest ≡ Some place → place < from + 1 + length rest) → place < from + length (first ∷ rest)
    by true e later = let same : from ≡ place = same_Some from place e in omega arith
    by false e later = let less : place < from + 1 + length rest = later e in omega arith

module _ (keys : Keys) (masters : List Taken) (most : ℕ) (fewer : length masters ≤ most) where
  one_below : (taken : Taken) → rewrites_below most (update_write keys masters taken) ≡ true
  one_below taken = by (code_of taken.bytes == 67) (position_from (same_key keys taken) 0 masters) (λ place is. position-below (same_key keys taken) 0 masters place is)
    where
      by : (b : Bool) (at : Option ℕ) → ((place : ℕ) → at ≡ Some place → place < 0 + length masters) → rewrites_below most (write_at (if b then at else None) taken.bytes) ≡ true
      by false at below = refl
      by true None below = refl
      by true (Some place) below = let less : place < 0 + length masters = below place refl in lt-ltb place most (omega (arith, less, fewer))

  all_below : (taken : List Taken) → list_all (rewrites_below most) (map (update_write keys masters) taken) ≡ true
  all_below [] = refl
  all_below (one ∷ taken) = and_from (rewrites_below most (update_write keys masters one)) _ (one_below one) (all_below taken)

update_below : (keys : Keys) (first second : List (List ℕ)) (count : ℕ) → list_all (rewrites_below (length first)) (match_writes Update keys (take count (taken_from keys first second)) false) ≡ true
unfolding match_writes
update_below keys first second count =
    let front : firsts (take count (taken_from keys first second)) ≤ firsts (taken_from keys first second) = firsts-front count (taken_from keys first second) in
    let all : firsts (taken_from keys first second) ≤ length first = firsts-taken keys first second in
    all_below keys (of_first (take count (taken_from keys first second))) (length first) (omega (arith, front, all)) (of_second (take count (taken_from keys first second)))

upto_below : (parm : Parm) (first second : List (List ℕ)) (count : ℕ) → (let case : ProgramCase = record { program = Update; parm = parm; first = first; second = second } in list_all (rewrites_below (length first)) (upto case count) ≡ true)
unfolding upto
upto_below parm first second count =
    let case : ProgramCase = record { program = Update; parm = parm; first = first; second = second } in
    update_below (case_keys (match_case case)) first second count

-- the writes for the first records rewrite places below the length of the first input
pub upto-below : (case : ProgramCase) (count : ℕ) → is_update case.program ≡ true → list_all (rewrites_below (length case.first)) (upto case count) ≡ true
upto-below case count updates =
    by_update (λ program. let its : ProgramCase = record case { program = program } in list_all (rewrites_below (length case.first)) (upto its count) ≡ true) case.program updates (upto_below case.parm case.first case.second count)
