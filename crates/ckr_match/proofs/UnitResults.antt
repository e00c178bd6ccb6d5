-- What a unit does is what is next of the work.
use Rattle.std.proofs.Common.{◌≡◌, ◌<◌, ℕ, ◌+◌, Bool, true, false, not, cond, if◌then◌else◌, ◌&&◌, ltb, List, [], ◌∷◌, ◌++◌, filter, length, take, drop, Option, Some, None, refl, sym, ap, ◌∙◌, subst, arith, add-one}
use Rattle.std.specs.List.{last_or, slice_get}
use Rattle.std.specs.Option.{option_map_or}
use Rattle.std.proofs.lemmas.Bool.{lt-ltb, le-ltb}
use Rattle.std.proofs.Math.Dec.{eqb-suc-zero}
use Rattle.std.proofs.lemmas.List.{length-append, take_all}
use Rattle.std.proofs.lemmas.List.Elements.{filter-append}
use Rattle.std.proofs.Math.Seq.{drop-append_seam, drop-length}
use Rattle.ckr_base.specs.declared.code.Code.TheVariants.{User}
use Rattle.ckr_base.specs.declared.programs.Finish.TheVariants.{Returned, Abend}
use Rattle.ckr_base.specs.declared.programs.Heads.{Heads}
use Rattle.ckr_base.specs.declared.programs.UnitDone.{UnitDone}
use Rattle.ckr_base.specs.declared.programs.Write.{Write}
use Rattle.ckr_base.proofs.Sequences.{last-append}
use Rattle.ckr_jcl.specs.declared.deck.Kind.{Kind}
use Rattle.ckr_jcl.specs.declared.deck.Parm.{Parm}
use Rattle.ckr_match.specs.declared.state.MatchState.{MatchState}
use Rattle.ckr_match.specs.declared.steps.RecordStep.{RecordStep}
use Rattle.ckr_match.specs.InputOrder.{Taken, Keys, key_of, is_below, is_cut, of_first, of_second, chosen, next_of}
use Rattle.ckr_match.specs.Images.{has_transactions, keys_of}
use Rattle.ckr_match.specs.Master.{write_held}
use Rattle.ckr_match.specs.Work.{MatchCase, case_keys, taken_records, is_whole, match_writes, rejects_in, is_reject, match_finish, work_writes, work, upto, rest}
use Rattle.ckr_match.specs.State.{return_code}
use Rattle.ckr_match.specs.Units.{last_key, held_in, last_master, first_taken, StandsFor, IsUnitAt, between, next_input, unit_done, taken_behind}
use Rattle.ckr_match.specs.Steps.{step_of, may_come, is_next, counted, key_at, input_number, closing_writes, is_master, unit_for, state_behind}
use Rattle.ckr_match.proofs.NextRecords.{IsBehind, Pushes, pushes, closes, ordered_taken, first-master, first-transaction, second-master, second-transaction}
use Rattle.ckr_match.proofs.Walk.{last_in, follows_last, Reached, goes_on, ended, stuck, reached}

-- ---- the order of an input

-- the code's test of the last key is the test of the last record
order_test : (keys : Keys) (taken : List Taken) (second : Bool) (bytes : List ℕ) (mark : Bool) → may_come (not second && keys.strict) (length taken) (last_key keys taken) (keys.key second bytes) ≡ follows_last keys (last_or None taken) (record { second = second; bytes = bytes; faulty = mark })
order_test keys [] second bytes mark = refl
order_test keys (x ∷ xs) second bytes mark =
    ap (λ none. cond none true (cond (not second && keys.strict) (is_below (last_key keys (x ∷ xs)) (keys.key second bytes)) (not (is_below (keys.key second bytes) (last_key keys (x ∷ xs)))))) (eqb-suc-zero (length xs))
    ∙ by (last_or (Some x) xs) (some xs x)
  where
    some : (ys : List Taken) (y : Taken) → (z : Taken) × (last_or (Some y) ys ≡ Some z)
    some [] y = (y, refl)
    some (w ∷ ws) y = some ws w

    by : (z : Option Taken) → (last : Taken) × (z ≡ Some last) → cond (not second && keys.strict) (is_below (option_map_or (key_of keys) z []) (keys.key second bytes)) (not (is_below (keys.key second bytes) (option_map_or (key_of keys) z []))) ≡ follows_last keys z (record { second = second; bytes = bytes; faulty = mark })
    by None e = absurd (let h = e.1 in cc)
    by (Some z) e = refl

next_test : (state : MatchState) (parm : Parm) (taken : List Taken) (second : Bool) (bytes : List ℕ) (mark : Bool) → state.first ≡ length (of_first taken) → state.second ≡ length (of_second taken) → state.first_key.items ≡ last_key (keys_of state.kind parm) (of_first taken) → state.second_key.items ≡ last_key (keys_of state.kind parm) (of_second taken) → is_next state second (key_at parm state second bytes) ≡ follows_last (keys_of state.kind parm) (last_in None None taken second) (record { second = second; bytes = bytes; faulty = mark })
next_test state parm taken false bytes mark a b c d =
    ap (λ n. may_come (has_transactions state.kind) n state.first_key.items (key_at parm state false bytes)) a
    ∙ ap (λ last. may_come (has_transactions state.kind) (length (of_first taken)) last (key_at parm state false bytes)) c
    ∙ order_test (keys_of state.kind parm) (of_first taken) false bytes mark
next_test state parm taken true bytes mark a b c d =
    ap (λ n. may_come false n state.second_key.items (key_at parm state true bytes)) b
    ∙ ap (λ last. may_come false (length (of_second taken)) last (key_at parm state true bytes)) d
    ∙ order_test (keys_of state.kind parm) (of_second taken) true bytes mark

-- ---- a unit

rejects_in-append : (first second : List Write) → rejects_in (first ++ second) ≡ rejects_in first + rejects_in second
rejects_in-append first second = ap length (filter-append (λ write. is_reject write.output) first second) ∙ length-append (filter (λ write. is_reject write.output) first) (filter (λ write. is_reject write.output) second)

-- the unit and the state behind it
pub record IsDone (state : MatchState) (parm : Parm) (next : Option Taken) (case : MatchCase) (taken : ℕ) : Type 0 where
  pub done : unit_for parm state next ≡ unit_done case taken
  pub stands : StandsFor (state_behind parm state next) case (taken_behind (unit_for parm state next) taken)

unit_of_record : (case : MatchCase) (taken : ℕ) (input : ℕ) (writes : List Write) → taken < length (taken_records case) → next_input case taken ≡ input → upto case (taken + 1) ≡ upto case taken ++ writes → unit_done case taken ≡ record { taken = input; writes = record { items = writes }; finish = None }
unfolding unit_done
unit_of_record case taken input writes within number more =
    let piece : between case taken ≡ writes = ap (drop (length (upto case taken))) more ∙ drop-append_seam (upto case taken) writes in
    rw (lt-ltb taken (length (taken_records case)) within)
    (ap (λ n. record { taken = n; writes = record { items = between case taken }; finish = None }) number
    ∙ ap (λ items. record { taken = input; writes = record { items = items }; finish = None }) piece)

pub unit_at_end : (case : MatchCase) (taken : ℕ) → taken ≡ length (taken_records case) → unit_done case taken ≡ record { taken = 0; writes = record { items = rest case taken }; finish = Some (work case).finish }
unfolding unit_done
unit_at_end case taken e = rw (le-ltb taken (length (taken_records case)) (omega (arith, e))) refl

-- the case of a state's own program
abbrev own_case : MatchState → Parm → List (List ℕ) → List (List ℕ) → MatchCase
own_case state parm first second = record { program = state.kind; parm = parm; first = first; second = second }

is_behind : (state : MatchState) (parm : Parm) (first second : List (List ℕ)) (taken : ℕ) → StandsFor state (own_case state parm first second) taken → IsBehind state.kind parm state (first_taken (own_case state parm first second) taken)
is_behind state parm first second taken stands = record { first = stands.first; held = stands.held; last = stands.last }

-- a record is taken
record_is_done : (state : MatchState) (parm : Parm) (first second : List (List ℕ)) (taken : ℕ) (two : Bool) (bytes : List ℕ) (mark faulty : Bool) → StandsFor state (own_case state parm first second) taken → is_next state two (key_at parm state two bytes) ≡ true → taken < length (taken_records (own_case state parm first second)) → take (taken + 1) (taken_records (own_case state parm first second)) ≡ first_taken (own_case state parm first second) taken ++ record { second = two; bytes = bytes; faulty = mark } ∷ [] → Pushes state.kind parm state (first_taken (own_case state parm first second) taken) (record { second = two; bytes = bytes; faulty = mark }) → IsDone state parm (Some (record { second = two; bytes = bytes; faulty = faulty })) (own_case state parm first second) taken
record_is_done state parm first second taken false bytes mark faulty stands test within more p =
    let case : MatchCase = own_case state parm first second in
    let keys : Keys = keys_of state.kind parm in
    let before : List Taken = first_taken case taken in
    let made : RecordStep = step_of state.kind parm state false bytes in
    let adds : upto case (taken + 1) ≡ upto case taken ++ made.writes.items = ap (λ all. match_writes state.kind keys all false) more ∙ p.writes in
    let firsts : of_first (first_taken case (taken + 1)) ≡ of_first before ++ record { second = false; bytes = bytes; faulty = mark } ∷ [] = ap of_first more ∙ first-master before bytes mark in
    let seconds : of_second (first_taken case (taken + 1)) ≡ of_second before = ap of_second more ∙ second-master before bytes mark in
    let number : next_input case taken ≡ 1 =
    ap (λ n. cond (ltb (length (of_second before)) n) 2 1) (ap length seconds)
    ∙ ap (λ b. cond b 2 1) (le-ltb (length (of_second before)) (length (of_second before)) (omega arith)) in
    record {
      done = ap (λ b. cond {A = UnitDone} b (record { taken = 1; writes = made.writes; finish = None }) (record { taken = 0; writes = record { items = [] }; finish = Some (Abend (User 101)) })) test
          ∙ sym (unit_of_record case taken 1 made.writes.items within number adds);
      stands =
          subst (λ b. StandsFor (cond b (counted false (key_at parm state false bytes) made state) state) case (taken_behind (cond {A = UnitDone} b (record { taken = 1; writes = made.writes; finish = None }) (record { taken = 0; writes = record { items = [] }; finish = Some (Abend (User 101)) })) taken)) (sym test)
          (record {
            program = refl;
            within = omega (arith, within);
            first = ap (λ n. n + 1) stands.first ∙ sym (ap length firsts ∙ length-append (of_first before) (record { second = false; bytes = bytes; faulty = mark } ∷ []));
            second = stands.second ∙ sym (ap length seconds);
            rejects = ap (λ n. n + rejects_in made.writes.items) stands.rejects ∙ sym (ap rejects_in adds ∙ rejects_in-append (upto case taken) made.writes.items);
            first_key = sym (ap (last_key keys) firsts ∙ ap (λ z. option_map_or (key_of keys) z []) (last-append None (of_first before) (record { second = false; bytes = bytes; faulty = mark })));
            second_key = stands.second_key ∙ sym (ap (last_key keys) seconds);
            held = p.held ∙ sym (ap (held_in state.kind keys) more);
            last = p.last ∙ sym (ap (last_master state.kind) more);
          });
    }
record_is_done state parm first second taken true bytes mark faulty stands test within more p =
    let case : MatchCase = own_case state parm first second in
    let keys : Keys = keys_of state.kind parm in
    let before : List Taken = first_taken case taken in
    let made : RecordStep = step_of state.kind parm state true bytes in
    let adds : upto case (taken + 1) ≡ upto case taken ++ made.writes.items = ap (λ all. match_writes state.kind keys all false) more ∙ p.writes in
    let firsts : of_first (first_taken case (taken + 1)) ≡ of_first before = ap of_first more ∙ first-transaction before bytes mark in
    let seconds : of_second (first_taken case (taken + 1)) ≡ of_second before ++ record { second = true; bytes = bytes; faulty = mark } ∷ [] = ap of_second more ∙ second-transaction before bytes mark in
    let longer : length (of_second (first_taken case (taken + 1))) ≡ length (of_second before) + 1 = ap length seconds ∙ length-append (of_second before) (record { second = true; bytes = bytes; faulty = mark } ∷ []) in
    let number : next_input case taken ≡ 2 = ap (λ b. cond b 2 1) (lt-ltb (length (of_second before)) (length (of_second (first_taken case (taken + 1)))) (omega (arith, longer))) in
    record {
      done = ap (λ b. cond {A = UnitDone} b (record { taken = 2; writes = made.writes; finish = None }) (record { taken = 0; writes = record { items = [] }; finish = Some (Abend (User 101)) })) test
          ∙ sym (unit_of_record case taken 2 made.writes.items within number adds);
      stands =
          subst (λ b. StandsFor (cond b (counted true (key_at parm state true bytes) made state) state) case (taken_behind (cond {A = UnitDone} b (record { taken = 2; writes = made.writes; finish = None }) (record { taken = 0; writes = record { items = [] }; finish = Some (Abend (User 101)) })) taken)) (sym test)
          (record {
            program = refl;
            within = omega (arith, within);
            first = stands.first ∙ sym (ap length firsts);
            second = ap (λ n. n + 1) stands.second ∙ sym longer;
            rejects = ap (λ n. n + rejects_in made.writes.items) stands.rejects ∙ sym (ap rejects_in adds ∙ rejects_in-append (upto case taken) made.writes.items);
            first_key = stands.first_key ∙ sym (ap (last_key keys) firsts);
            second_key = sym (ap (last_key keys) seconds ∙ ap (λ z. option_map_or (key_of keys) z []) (last-append None (of_second before) (record { second = true; bytes = bytes; faulty = mark })));
            held = p.held ∙ sym (ap (held_in state.kind keys) more);
            last = p.last ∙ sym (ap (last_master state.kind) more);
          });
    }

-- what is written where the end is reached
writes_at_end : (case : MatchCase) (taken : ℕ) (whole : Bool) → taken ≡ length (taken_records case) → is_whole case ≡ whole → work_writes case ≡ match_writes case.program (case_keys case) (first_taken case taken) whole
writes_at_end case taken whole e w =
    ap (match_writes case.program (case_keys case) (taken_records case)) w
    ∙ ap (λ all. match_writes case.program (case_keys case) all whole) (sym (take_all taken (taken_records case) (omega (arith, e))))

held_is_no_reject : (held : Option (List ℕ)) (b : Bool) → rejects_in (if b then write_held held else []) ≡ 0
held_is_no_reject None true = refl
held_is_no_reject (Some image) true = refl
held_is_no_reject None false = refl
held_is_no_reject (Some image) false = refl

-- the end is reached
end_is_done : (state : MatchState) (parm : Parm) (first second : List (List ℕ)) (taken : ℕ) → StandsFor state (own_case state parm first second) taken → taken ≡ length (taken_records (own_case state parm first second)) → is_cut (taken_records (own_case state parm first second)) ≡ false → IsDone state parm None (own_case state parm first second) taken
end_is_done state parm first second taken stands e cut =
    let case : MatchCase = own_case state parm first second in
    let whole : is_whole case ≡ true = ap not cut in
    let all : work_writes case ≡ upto case taken ++ closing_writes state = writes_at_end case taken true e whole ∙ closes state.kind parm state (first_taken case taken) (is_behind state parm first second taken stands) in
    let left : rest case taken ≡ closing_writes state = ap (drop (length (upto case taken))) all ∙ drop-append_seam (upto case taken) (closing_writes state) in
    let rejects : rejects_in (work_writes case) ≡ state.rejects =
    ap rejects_in all ∙ rejects_in-append (upto case taken) (closing_writes state)
    ∙ ap (λ n. rejects_in (upto case taken) + n) (held_is_no_reject state.held (is_master state.kind))
    ∙ (let f : rejects_in (upto case taken) + 0 ≡ rejects_in (upto case taken) = omega arith in f) ∙ sym stands.rejects in
    record {
      done = sym (unit_at_end case taken e
          ∙ ap (λ items. record { taken = 0; writes = record { items = items }; finish = Some (work case).finish }) left
          ∙ ap (λ b. record { taken = 0; writes = record { items = closing_writes state }; finish = Some (match_finish b (rejects_in (work_writes case))) }) whole
          ∙ ap (λ n. record { taken = 0; writes = record { items = closing_writes state }; finish = Some (Returned (return_code n)) }) rejects);
      stands = record {
        program = stands.program;
        within = stands.within;
        first = stands.first;
        second = stands.second;
        rejects = stands.rejects;
        first_key = stands.first_key;
        second_key = stands.second_key;
        held = stands.held;
        last = stands.last;
      };
    }

-- a record is out of order
stuck_is_done : (state : MatchState) (parm : Parm) (first second : List (List ℕ)) (taken : ℕ) (next : Taken) → StandsFor state (own_case state parm first second) taken → is_next state next.second (key_at parm state next.second next.bytes) ≡ false → taken ≡ length (taken_records (own_case state parm first second)) → is_cut (taken_records (own_case state parm first second)) ≡ true → IsDone state parm (Some next) (own_case state parm first second) taken
stuck_is_done state parm first second taken next stands test e cut =
    let case : MatchCase = own_case state parm first second in
    let key : List ℕ = key_at parm state next.second next.bytes in
    let made : RecordStep = step_of state.kind parm state next.second next.bytes in
    let whole : is_whole case ≡ false = ap not cut in
    let left : rest case taken ≡ [] = ap (drop (length (upto case taken))) (writes_at_end case taken false e whole) ∙ drop-length (upto case taken) in
    record {
      done =
          ap (λ b. cond {A = UnitDone} b (record { taken = input_number next.second; writes = made.writes; finish = None }) (record { taken = 0; writes = record { items = [] }; finish = Some (Abend (User 101)) })) test
          ∙ sym (unit_at_end case taken e
          ∙ ap (λ items. record { taken = 0; writes = record { items = items }; finish = Some (work case).finish }) left
          ∙ ap (λ b. record { taken = 0; writes = record { items = [] }; finish = Some (match_finish b (rejects_in (work_writes case))) }) whole);
      stands = subst (λ b. StandsFor (cond b (counted next.second key made state) state) case (taken_behind (cond {A = UnitDone} b (record { taken = input_number next.second; writes = made.writes; finish = None }) (record { taken = 0; writes = record { items = [] }; finish = Some (Abend (User 101)) })) taken)) (sym test) stands;
    }

own_is_done : (state : MatchState) (parm : Parm) (heads : Heads) (first second : List (List ℕ)) (taken : ℕ) → IsUnitAt state parm heads (own_case state parm first second) taken → IsDone state parm (chosen (keys_of state.kind parm) heads.first heads.second) (own_case state parm first second) taken
own_is_done state parm heads first second taken at = by (reached (keys_of state.kind parm) first second taken at.stands.within)
  where
    choice : chosen (keys_of state.kind parm) heads.first heads.second ≡ next_of (keys_of state.kind parm) first second (first_taken (own_case state parm first second) taken)
    choice =
        ap (λ head. chosen (keys_of state.kind parm) head heads.second) (at.first_of ∙ ap (slice_get first) at.stands.first)
        ∙ ap (λ head. chosen (keys_of state.kind parm) (slice_get first (length (of_first (first_taken (own_case state parm first second) taken)))) head) (at.second_of ∙ ap (slice_get second) at.stands.second)

    by : Reached (keys_of state.kind parm) first second None None (taken_records (own_case state parm first second)) taken → IsDone state parm (chosen (keys_of state.kind parm) heads.first heads.second) (own_case state parm first second) taken
    by (goes_on next mark a b lt more all h) =
        let stands = at.stands in
        subst (λ c. IsDone state parm c (own_case state parm first second) taken) (sym (choice ∙ a))
        (record_is_done state parm first second taken next.second next.bytes mark next.faulty stands
        (next_test state parm (first_taken (own_case state parm first second) taken) next.second next.bytes next.faulty stands.first stands.second stands.first_key stands.second_key ∙ b)
        lt
        (ap (λ n. take n (taken_records (own_case state parm first second))) (add-one taken) ∙ more)
        (pushes state.kind parm state (first_taken (own_case state parm first second) taken) next.second next.bytes mark (is_behind state parm first second taken stands) (ordered_taken (keys_of state.kind parm) first second taken stands.within) all))
    by (ended a e cut) =
        subst (λ c. IsDone state parm c (own_case state parm first second) taken) (sym (choice ∙ a))
        (end_is_done state parm first second taken at.stands e cut)
    by (stuck next a b e cut) =
        let stands = at.stands in
        subst (λ c. IsDone state parm c (own_case state parm first second) taken) (sym (choice ∙ a))
        (stuck_is_done state parm first second taken next stands
        (next_test state parm (first_taken (own_case state parm first second) taken) next.second next.bytes next.faulty stands.first stands.second stands.first_key stands.second_key ∙ b)
        e cut)

-- the unit is what is next of the work, and the state behind it stands for it
pub is_done : (state : MatchState) (parm : Parm) (heads : Heads) (case : MatchCase) (taken : ℕ) → IsUnitAt state parm heads case taken → IsDone state parm (chosen (keys_of state.kind parm) heads.first heads.second) case taken
is_done state parm heads case taken at =
    let P : Kind → Parm → Type 0 = λ k p. IsUnitAt state parm heads (record { program = k; parm = p; first = case.first; second = case.second }) taken → IsDone state parm (chosen (keys_of state.kind parm) heads.first heads.second) (record { program = k; parm = p; first = case.first; second = case.second }) taken in
    subst (λ p. P case.program p) at.parm_of (subst (λ k. P k parm) at.stands.program (own_is_done state parm heads case.first case.second taken)) at
