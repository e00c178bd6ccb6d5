-- What holds of all units together.
use Rattle.std.proofs.Common.{◌≡◌, ◌≤◌, ◌<◌, ℕ, zero, suc, ◌+◌, ◌-◌, Bool, true, false, cond, if◌then◌else◌, List, [], ◌∷◌, ◌++◌, map, length, take, drop, Option, Some, None, refl, sym, ap, ◌∙◌, subst, arith, append-nil, add-one, append_assoc, ltb}
use Rattle.std.specs.Option.{option_and_then}
use Rattle.std.specs.List.{last_or, range_with_len, slice_get}
use Rattle.std.proofs.lemmas.Bool.{lt-ltb, ltb-true, ltb-false}
use Rattle.std.proofs.lemmas.List.{take_all, drop-drop}
use Rattle.ckr_base.specs.declared.programs.Heads.{Heads}
use Rattle.ckr_base.specs.declared.programs.UnitDone.{UnitDone}
use Rattle.ckr_base.specs.declared.programs.Write.{Write}
use Rattle.ckr_base.proofs.Sequences.{drop-seam}
use Rattle.ckr_jcl.specs.declared.deck.Kind.{Kind}
use Rattle.ckr_jcl.specs.declared.deck.Kind.TheVariants.{Copy}
use Rattle.ckr_jcl.specs.declared.deck.Parm.{Parm}
use Rattle.ckr_match.specs.declared.state.MatchState.{MatchState}
use Rattle.ckr_match.specs.InputOrder.{Taken, Keys, of_first, of_second, chosen}
use Rattle.ckr_match.specs.Images.{keys_of}
use Rattle.ckr_match.specs.State.{first_state}
use Rattle.ckr_match.specs.Work.{MatchCase, case_keys, taken_records, is_whole, match_writes, rejects_in, work_writes, work, upto, rest}
use Rattle.ckr_match.specs.Units.{held_in, last_master, first_taken, StandsFor, IsSameRemainder, between, next_input, unit_done, taken_behind, units_from}
use Rattle.ckr_programs.specs.Units.{written_by, end_of}
use Rattle.ckr_match.specs.Master.{write_held}
use Rattle.ckr_match.specs.Steps.{step_of, is_next, key_at, counted, is_master, unit_for, state_behind}
use Rattle.ckr_match.proofs.Walk.{Reached, goes_on, ended, stuck, reached}
use Rattle.ckr_match.proofs.NextRecords.{IsBehind, pushes, closes, ordered_taken}
use Rattle.ckr_match.proofs.UnitResults.{is_done, unit_at_end}

-- ---- the first state

no_writes : (program : Kind) (keys : Keys) → match_writes program keys [] false ≡ []
unfolding match_writes
no_writes Copy keys = refl
no_writes _ keys = refl

nothing_held : (program : Kind) (keys : Keys) → None ≡ held_in program keys []
nothing_held Copy keys = refl
nothing_held _ keys = refl

no_master : (program : Kind) → None ≡ last_master program []
no_master Copy = refl
no_master _ = refl

pub first_stands : (case : MatchCase) → StandsFor (first_state case.program) case 0
first_stands case = record {
  program = refl;
  within = omega arith;
  first = refl;
  second = refl;
  rejects = sym (ap rejects_in (no_writes case.program (case_keys case)));
  first_key = refl;
  second_key = refl;
  held = nothing_held case.program (case_keys case);
  last = no_master case.program;
}

-- ---- prefixes of the work

-- a state of the program behind so many records
abbrev model : MatchCase → ℕ → MatchState
model case taken = record (first_state case.program) {
  first = length (of_first (first_taken case taken));
  held = held_in case.program (case_keys case) (first_taken case taken);
  last = last_master case.program (first_taken case taken);
}

behind_model : (case : MatchCase) (taken : ℕ) → IsBehind case.program case.parm (model case taken) (first_taken case taken)
behind_model case taken = record { first = refl; held = refl; last = refl }

-- a record more
pub grows : (case : MatchCase) (taken : ℕ) → taken < length (taken_records case) → (piece : List Write) × (upto case (taken + 1) ≡ upto case taken ++ piece)
grows case taken within = by (reached (case_keys case) case.first case.second taken (omega arith))
  where
    by : Reached (case_keys case) case.first case.second None None (taken_records case) taken → (piece : List Write) × (upto case (taken + 1) ≡ upto case taken ++ piece)
    by (goes_on next mark a b lt more all h) =
        let p = pushes case.program case.parm (model case taken) (first_taken case taken) next.second next.bytes mark (behind_model case taken) (ordered_taken (case_keys case) case.first case.second taken (omega (arith, within))) all in (
          (step_of case.program case.parm (model case taken) next.second next.bytes).writes.items,
          ap (λ n. match_writes case.program (case_keys case) (take n (taken_records case)) false) (add-one taken)
              ∙ ap (λ all. match_writes case.program (case_keys case) all false) more
              ∙ p.writes,
        )
    by (ended a e c) = absurd (omega (arith, e, within))
    by (stuck next a b e d) = absurd (omega (arith, e, within))

-- the work goes on behind the writes for the first records
pub goes_behind : (case : MatchCase) (left taken : ℕ) → taken + left ≡ length (taken_records case) → (more : List Write) × (work_writes case ≡ upto case taken ++ more)
goes_behind case zero taken e = by (is_whole case) refl
  where
    all : take taken (taken_records case) ≡ taken_records case
    all = take_all taken (taken_records case) (omega arith)

    by : (b : Bool) → is_whole case ≡ b → (more : List Write) × (work_writes case ≡ upto case taken ++ more)
    by true f = (
      (if is_master case.program then write_held (model case taken).held else []),
      ap (match_writes case.program (case_keys case) (taken_records case)) f
          ∙ ap (λ records. match_writes case.program (case_keys case) records true) (sym all)
          ∙ closes case.program case.parm (model case taken) (first_taken case taken) (behind_model case taken),
    )
    by false f = (
      [],
      ap (match_writes case.program (case_keys case) (taken_records case)) f
          ∙ ap (λ records. match_writes case.program (case_keys case) records false) (sym all)
          ∙ sym (append-nil (upto case taken)),
    )
goes_behind case (suc left) taken e =
    let piece = grows case taken (omega arith) in
    let more = goes_behind case left (taken + 1) (omega arith) in
    (piece.0 ++ more.0, more.1 ∙ ap (λ front. front ++ more.0) piece.1 ∙ append_assoc (upto case taken) piece.0 more.0)

one_more : (case : MatchCase) (taken : ℕ) → taken < length (taken_records case) → between case taken ++ rest case (taken + 1) ≡ rest case taken
one_more case taken within =
    let piece = grows case taken within in
    let more = goes_behind case (length (taken_records case) - (taken + 1)) (taken + 1) (omega arith) in
    drop-seam (upto case taken) piece.0 (upto case (taken + 1)) more.0 (work_writes case) piece.1 more.1

-- ---- units

ordinary : (case : MatchCase) (taken : ℕ) → taken < length (taken_records case) → unit_done case taken ≡ record { taken = next_input case taken; writes = record { items = between case taken }; finish = None }
unfolding unit_done
ordinary case taken within = rw (lt-ltb taken (length (taken_records case)) within) refl

-- the units from there on, of which so many take a record
rest_of_units : (case : MatchCase) (left taken : ℕ) → taken + left ≡ length (taken_records case) → written_by (map (unit_done case) (range_with_len taken (suc left))) ≡ rest case taken
rest_of_units case zero taken e =
    ap (λ unit. unit.writes.items ++ []) (unit_at_end case taken (omega arith)) ∙ append-nil (rest case taken)
rest_of_units case (suc left) taken e =
    ap (λ unit. unit.writes.items ++ written_by (map (unit_done case) (range_with_len (taken + 1) (suc left)))) (ordinary case taken (omega arith))
    ∙ ap (λ writes. between case taken ++ writes) (rest_of_units case left (taken + 1) (omega arith))
    ∙ one_more case taken (omega arith)

pub units_write_the_rest : (case : MatchCase) (taken : ℕ) → taken ≤ length (taken_records case) → written_by (units_from case taken) ≡ rest case taken
units_write_the_rest case taken within =
    ap (λ n. written_by (map (unit_done case) (range_with_len taken n))) (add-one (length (taken_records case) - taken))
    ∙ rest_of_units case (length (taken_records case) - taken) taken (omega arith)

pub units_write_all : (case : MatchCase) → written_by (units_from case 0) ≡ (work case).writes
units_write_all case = units_write_the_rest case 0 (omega arith) ∙ ap (λ writes. drop (length writes) (work_writes case)) (no_writes case.program (case_keys case))

-- ---- two cases with the same state

get-drop : (n : ℕ) (xs : List (List ℕ)) → slice_get xs n ≡ slice_get (drop n xs) 0
get-drop zero [] = refl
get-drop zero (x ∷ xs) = refl
get-drop (suc n) [] = refl
get-drop (suc n) (x ∷ xs) = get-drop n xs

same_get : (n : ℕ) (xs ys : List (List ℕ)) → drop n xs ≡ drop n ys → slice_get xs n ≡ slice_get ys n
same_get n xs ys e = get-drop n xs ∙ ap (λ left. slice_get left 0) e ∙ sym (get-drop n ys)

same_behind : (n : ℕ) (xs ys : List (List ℕ)) → drop n xs ≡ drop n ys → drop (n + 1) xs ≡ drop (n + 1) ys
same_behind n xs ys e = sym (drop-drop 1 n xs) ∙ ap (drop 1) e ∙ drop-drop 1 n ys

-- a count stays, or grows by one
first_behind : (P : ℕ → Type 0) (parm : Parm) (state : MatchState) (next : Option Taken) → P state.first → P (state.first + 1) → P (state_behind parm state next).first
first_behind P parm state None same more = same
first_behind P parm state (Some next) same more = by (is_next state next.second (key_at parm state next.second next.bytes)) next.second
  where
    by : (b second : Bool) → P (cond b (counted second (key_at parm state next.second next.bytes) (step_of state.kind parm state next.second next.bytes) state) state).first
    by true true = same
    by true false = more
    by false second = same

second_behind : (P : ℕ → Type 0) (parm : Parm) (state : MatchState) (next : Option Taken) → P state.second → P (state.second + 1) → P (state_behind parm state next).second
second_behind P parm state None same more = same
second_behind P parm state (Some next) same more = by (is_next state next.second (key_at parm state next.second next.bytes)) next.second
  where
    by : (b second : Bool) → P (cond b (counted second (key_at parm state next.second next.bytes) (step_of state.kind parm state next.second next.bytes) state) state).second
    by true true = more
    by true false = same
    by false second = same

takes_one : (case : MatchCase) (taken : ℕ) → 0 < next_input case taken
takes_one case taken = by (ltb (length (of_second (first_taken case taken))) (length (of_second (first_taken case (taken + 1)))))
  where
    by : (b : Bool) → 0 < cond b 2 1
    by true = omega arith
    by false = omega arith

-- what a unit says of how many records are left
goes_on_if : (case : MatchCase) (taken : ℕ) → taken ≤ length (taken_records case) → (unit_done case taken).finish ≡ None → taken < length (taken_records case)
goes_on_if case taken within e = by (ltb taken (length (taken_records case))) refl
  where
    by : (b : Bool) → ltb taken (length (taken_records case)) ≡ b → taken < length (taken_records case)
    by true f = ltb-true taken (length (taken_records case)) f
    by false f =
        let end : taken ≡ length (taken_records case) = omega (arith, ltb-false taken (length (taken_records case)) f) in
        absurd (let g : None ≡ Some (work case).finish = sym e ∙ ap (λ unit. unit.finish) (unit_at_end case taken end) in cc)

ends_if : (case : MatchCase) (taken : ℕ) → taken ≤ length (taken_records case) → (unit_done case taken).taken ≡ 0 → taken ≡ length (taken_records case)
ends_if case taken within e = by (ltb taken (length (taken_records case))) refl
  where
    by : (b : Bool) → ltb taken (length (taken_records case)) ≡ b → taken ≡ length (taken_records case)
    by true f =
        let g : next_input case taken ≡ 0 = sym (ap (λ unit. unit.taken) (ordinary case taken (ltb-true taken (length (taken_records case)) f))) ∙ e in
        absurd (omega (arith, takes_one case taken, g))
    by false f = omega (arith, ltb-false taken (length (taken_records case)) f)

stands_behind : (state : MatchState) (case : MatchCase) (taken : ℕ) (unit : UnitDone) → unit ≡ unit_done case taken → taken < length (taken_records case) → StandsFor state case (taken_behind unit taken) → StandsFor state case (taken + 1)
stands_behind state case taken unit e within stands =
    subst (StandsFor state case)
    (ap (λ done. taken_behind done taken) (e ∙ ordinary case taken within)
    ∙ ap (λ b. cond b (taken + 1) taken) (lt-ltb 0 (next_input case taken) (takes_one case taken)))
    stands

-- both cases do the same unit
pub record SameUnit (first second : MatchCase) (one other : ℕ) (state : MatchState) : Type 0 where
  pub unit : UnitDone
  pub behind : MatchState
  pub done_first : unit ≡ unit_done first one
  pub done_second : unit ≡ unit_done second other
  pub stands_first : StandsFor behind first (taken_behind unit one)
  pub stands_second : StandsFor behind second (taken_behind unit other)
  pub left_first : drop behind.first first.first ≡ drop behind.first second.first
  pub left_second : drop behind.second first.second ≡ drop behind.second second.second

same_unit : (first second : MatchCase) (one other : ℕ) (state : MatchState) → IsSameRemainder first second one other state → SameUnit first second one other state
same_unit first second one other state same =
    let heads : Heads = record { first = slice_get first.first state.first; second = slice_get first.second state.second } in
    let next : Option Taken = chosen (keys_of state.kind first.parm) heads.first heads.second in
    let here = is_done state first.parm heads first one (record { stands = same.stands_first; parm_of = refl; first_of = refl; second_of = refl }) in
    let there = is_done state first.parm heads second other (record {
      stands = same.stands_second;
      parm_of = same.parm;
      first_of = same_get state.first first.first second.first same.left_first;
      second_of = same_get state.second first.second second.second same.left_second;
    }) in
    record {
      unit = unit_for first.parm state next;
      behind = state_behind first.parm state next;
      done_first = here.done;
      done_second = there.done;
      stands_first = here.stands;
      stands_second = there.stands;
      left_first = first_behind (λ n. drop n first.first ≡ drop n second.first) first.parm state next same.left_first (same_behind state.first first.first second.first same.left_first);
      left_second = second_behind (λ n. drop n first.second ≡ drop n second.second) first.parm state next same.left_second (same_behind state.second first.second second.second same.left_second);
    }

same_units : (left : ℕ) (first second : MatchCase) (one other : ℕ) (state : MatchState) → one + left ≡ length (taken_records first) → IsSameRemainder first second one other state → rest first one ≡ rest second other
same_units zero first second one other state e same =
    let u = same_unit first second one other state same in
    let end : one ≡ length (taken_records first) = omega arith in
    let here : u.unit ≡ record { taken = 0; writes = record { items = rest first one }; finish = Some (work first).finish } = u.done_first ∙ unit_at_end first one end in
    let end_second : other ≡ length (taken_records second) = ends_if second other same.stands_second.within (ap (λ unit. unit.taken) (sym u.done_second ∙ here)) in
    let there : u.unit ≡ record { taken = 0; writes = record { items = rest second other }; finish = Some (work second).finish } = u.done_second ∙ unit_at_end second other end_second in
    ap (λ unit. unit.writes.items) (sym here ∙ there)
same_units (suc left) first second one other state e same =
    let u = same_unit first second one other state same in
    let within : one < length (taken_records first) = omega arith in
    let here : u.unit ≡ record { taken = next_input first one; writes = record { items = between first one }; finish = None } = u.done_first ∙ ordinary first one within in
    let within_second : other < length (taken_records second) = goes_on_if second other same.stands_second.within (ap (λ unit. unit.finish) (sym u.done_second ∙ here)) in
    let there : u.unit ≡ record { taken = next_input second other; writes = record { items = between second other }; finish = None } = u.done_second ∙ ordinary second other within_second in
    let piece : between first one ≡ between second other = ap (λ unit. unit.writes.items) (sym here ∙ there) in
    let more : rest first (one + 1) ≡ rest second (other + 1) = same_units left first second (one + 1) (other + 1) u.behind (omega arith) (record {
      parm = same.parm;
      stands_first = stands_behind u.behind first one u.unit u.done_first within u.stands_first;
      stands_second = stands_behind u.behind second other u.unit u.done_second within_second u.stands_second;
      left_first = u.left_first;
      left_second = u.left_second;
    }) in
    sym (one_more first one within)
    ∙ ap (λ writes. writes ++ rest first (one + 1)) piece
    ∙ ap (λ writes. between second other ++ writes) more
    ∙ one_more second other within_second

pub same_rest : (first second : MatchCase) (one other : ℕ) (state : MatchState) → IsSameRemainder first second one other state → rest first one ≡ rest second other
same_rest first second one other state same =
    same_units (length (taken_records first) - one) first second one other state (let within = same.stands_first.within in omega arith) same

-- ---- the last unit

last-range : (case : MatchCase) (left taken : ℕ) (before : Option UnitDone) → taken + left ≡ length (taken_records case) → option_and_then (λ unit. unit.finish) (last_or before (map (unit_done case) (range_with_len taken (suc left)))) ≡ Some (work case).finish
last-range case zero taken before e = ap (λ unit. unit.finish) (unit_at_end case taken (omega arith))
last-range case (suc left) taken before e = last-range case left (taken + 1) (Some (unit_done case taken)) (omega arith)

pub last_ends : (case : MatchCase) (taken : ℕ) → taken ≤ length (taken_records case) → end_of (units_from case taken) ≡ Some (work case).finish
last_ends case taken within =
    ap (λ n. end_of (map (unit_done case) (range_with_len taken n))) (add-one (length (taken_records case) - taken))
    ∙ last-range case (length (taken_records case) - taken) taken None (omega arith)

pub others_go_on : (case : MatchCase) (taken : ℕ) → taken < length (taken_records case) → (unit_done case taken).finish ≡ None
others_go_on case taken within = ap (λ unit. unit.finish) (ordinary case taken within)
