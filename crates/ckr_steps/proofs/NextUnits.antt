-- What the next unit of a program is, whichever program it is, and what the state behind it stands for.
use Rattle.std.proofs.Common.{◌≡◌, ◌<◌, ◌≤◌, ℕ, ◌+◌, Bool, true, false, cond, not, List, [], length, Option, Some, None, slice_get, refl, ap, sym, ◌∙◌, subst, arith}
use Rattle.std.specs.Prelude.{if◌then◌else◌, nat_lt}
use Rattle.std.proofs.lemmas.Bool.{false≢true, lt-ltb}
use Rattle.std.proofs.lemmas.List.{length-take-le}
use Rattle.std.proofs.lemmas.List.Filters.{length-filter_both}
use Rattle.ckr_base.specs.declared.code.Code.{Code}
use Rattle.ckr_base.specs.declared.code.Code.TheVariants.{System, User}
use Rattle.ckr_base.specs.declared.programs.Finish.{Finish}
use Rattle.ckr_base.specs.declared.programs.Finish.TheVariants as Finishes
use Rattle.ckr_base.specs.declared.programs.Heads.{Heads}
use Rattle.ckr_base.specs.declared.programs.UnitDone.{UnitDone}
use Rattle.ckr_jcl.specs.declared.deck.Kind.{Kind}
use Rattle.ckr_jcl.specs.declared.deck.Kind.TheVariants.{Br14}
use Rattle.ckr_jcl.specs.declared.deck.Parm.{Parm}
use Rattle.ckr_entry.specs.declared.point.State.{State}
use Rattle.ckr_entry.specs.declared.point.State.TheVariants.{Plain, Matched}
use Rattle.ckr_programs.specs.declared.state.ProgState.{ProgState}
use Rattle.ckr_programs.specs.Records.{can_take}
use Rattle.ckr_programs.specs.Work.{ProgCase, read_by}
use Rattle.ckr_programs.specs.Work as plain
use Rattle.ckr_programs.specs.Units.{is_returned}
use Rattle.ckr_programs.specs.Units as plain_units
use Rattle.ckr_programs.specs.Steps as plain_steps
use Rattle.ckr_programs.proofs.UnitResults as plain_done
use Rattle.ckr_match.specs.declared.state.MatchState.{MatchState}
use Rattle.ckr_match.specs.Images.{keys_of}
use Rattle.ckr_match.specs.State.{has_two_inputs, return_code}
use Rattle.ckr_match.specs.declared.steps.RecordStep.{RecordStep}
use Rattle.ckr_match.specs.InputOrder.{Taken, chosen, of_first, of_second}
use Rattle.ckr_match.specs.Work as matched
use Rattle.ckr_match.specs.Units as matched_units
use Rattle.ckr_match.specs.Steps as matched_steps
use Rattle.ckr_match.proofs.UnitResults as matched_done
use Rattle.ckr_meaning.specs.Program.{ProgramCase, plain_case, match_case, unit_by, taken_by, records_taken, unit_done}
use Rattle.ckr_meaning.specs.States.{StandsFor}
use Rattle.ckr_meaning.proofs.Prefixes.{takes_one, ends_work}
use Rattle.ckr_steps.specs.Units.{unit_of, state_of, taken_of, is_closed}
use Rattle.ckr_steps.specs.Places.{AreNext, return_of}

-- a program of two inputs reads both
read_two : (program : Kind) (input : List (List ℕ)) → has_two_inputs program ≡ true → read_by program input ≡ input
read_two Br14 input two = absurd (false≢true two)
read_two _ input two = refl

module _ (parm : Parm) (state : ProgState) (case : ProgCase) (taken : ℕ) where
  plain_is : (head : Option (List ℕ)) → plain_units.IsUnitAt state parm head case taken → plain_steps.unit_of parm state head ≡ plain_units.unit_done case taken
  unfolding plain_steps.unit_of
  plain_is None at = plain_done.closing_done state parm case taken at
  plain_is (Some bytes) at = plain_done.record_done state parm case taken bytes at

  plain_behind : (head : Option (List ℕ)) → plain_units.IsUnitAt state parm head case taken → plain_units.StandsFor (plain_steps.state_of parm state head) case (taken + (plain_steps.unit_of parm state head).taken)
  unfolding plain_steps.unit_of plain_steps.state_of
  plain_behind None at = plain_done.closing_stands state parm case taken at
  plain_behind (Some bytes) at = plain_done.record_stands state parm case taken bytes at

  plain_takes : taken < length (plain.taken_records case) → (plain_units.unit_done case taken).taken ≡ 1
  unfolding plain_units.unit_done
  plain_takes within = rw (lt-ltb taken (length (plain.taken_records case)) within) refl

module _ (parm : Parm) (heads : Heads) (case : ProgramCase) (taken : ℕ) (parm_is : parm ≡ case.parm) where
  unit_for : (two : Bool) → has_two_inputs case.program ≡ two → unit_by two case taken ≡ unit_done case taken
  unfolding unit_done
  unit_for two e = ap (λ b. unit_by b case taken) (sym e)

  records_for : (two : Bool) → has_two_inputs case.program ≡ two → taken_by two case ≡ records_taken case
  unfolding records_taken
  records_for two e = ap (λ b. taken_by b case) (sym e)

  module _ (state : ProgState) (program : has_two_inputs case.program ≡ false) (stands : plain_units.StandsFor state (plain_case case) taken) (next : AreNext case (Plain state) heads) where
    plain_at : plain_units.IsUnitAt state parm heads.first (plain_case case) taken
    plain_at = record {
      stands = stands;
      parm_of = parm_is;
      head_of = next.first ∙ ap (slice_get (read_by case.program case.first)) stands.first;
    }

    plain_unit : plain_steps.unit_of parm state heads.first ≡ plain_units.unit_done (plain_case case) taken
    plain_unit = plain_is parm state (plain_case case) taken heads.first plain_at

    plain_stands : (other : ℕ) → taken + (plain_units.unit_done (plain_case case) taken).taken ≡ other → plain_units.StandsFor (plain_steps.state_of parm state heads.first) (plain_case case) other
    plain_stands other e =
        subst (λ n. plain_units.StandsFor (plain_steps.state_of parm state heads.first) (plain_case case) n) (ap (λ (u : UnitDone). taken + u.taken) plain_unit ∙ e) (plain_behind parm state (plain_case case) taken heads.first plain_at)

    plain_same : (unit_done case taken).taken ≡ 0 → taken + (plain_units.unit_done (plain_case case) taken).taken ≡ taken
    plain_same none = let e : (plain_units.unit_done (plain_case case) taken).taken ≡ 0 = ap (λ (u : UnitDone). u.taken) (unit_for false program) ∙ none in omega arith

  module _ (state : MatchState) (program : has_two_inputs case.program ≡ true) (stands : matched_units.StandsFor state (match_case case) taken) (next : AreNext case (Matched state) heads) where
    matched_at : matched_units.IsUnitAt state parm heads (match_case case) taken
    matched_at = record {
      stands = stands;
      parm_of = parm_is;
      first_of = next.first ∙ ap (λ input. slice_get input state.first) (read_two case.program case.first program);
      second_of = next.second;
    }

    matched_is : matched_done.IsDone state parm (chosen (keys_of state.kind parm) heads.first heads.second) (match_case case) taken
    matched_is = matched_done.is_done state parm heads (match_case case) taken matched_at

    matched_unit : matched_steps.unit_of parm state heads ≡ matched_units.unit_done (match_case case) taken
    unfolding matched_steps.unit_of
    matched_unit = matched_is.done

    matched_stands : (other : ℕ) → matched_units.taken_behind (unit_done case taken) taken ≡ other → matched_units.StandsFor (matched_steps.state_of parm state heads) (match_case case) other
    unfolding matched_steps.state_of
    matched_stands other e =
        subst (λ n. matched_units.StandsFor (matched_steps.state_behind parm state (chosen (keys_of state.kind parm) heads.first heads.second)) (match_case case) n)
        (ap (λ (u : UnitDone). matched_units.taken_behind u taken) (matched_is.done ∙ unit_for true program) ∙ e) matched_is.stands

  -- the unit for the next heads is the next unit
  pub done_is : (state : State) → StandsFor state case taken → AreNext case state heads → unit_of parm state heads ≡ unit_done case taken
  unfolding unit_of
  done_is (Plain state) stands next = plain_unit state stands.program stands.stands next ∙ unit_for false stands.program
  done_is (Matched state) stands next = matched_unit state stands.program stands.stands next ∙ unit_for true stands.program

  -- the state behind a record stands for one more
  pub stands_more : (state : State) → StandsFor state case taken → AreNext case state heads → taken < records_taken case → StandsFor (state_of parm state heads) case (taken + 1)
  unfolding state_of
  stands_more (Plain state) stands next within = record {
    program = stands.program;
    stands = plain_stands state stands.program stands.stands next (taken + 1)
        (ap (λ n. taken + n) (plain_takes parm state (plain_case case) taken (omega (arith, within, records_for false stands.program))));
  }
  stands_more (Matched state) stands next within = record {
    program = stands.program;
    stands = matched_stands state stands.program stands.stands next (taken + 1)
        (ap (λ b. if b then taken + 1 else taken) (lt-ltb 0 (unit_done case taken).taken (takes_one case taken within).counts));
  }

  -- the one behind the closing unit stands for as many
  pub stands_same : (state : State) → StandsFor state case taken → AreNext case state heads → taken ≡ records_taken case → StandsFor (state_of parm state heads) case taken
  unfolding state_of
  stands_same (Plain state) stands next all = record {
    program = stands.program;
    stands = plain_stands state stands.program stands.stands next taken (plain_same state stands.program stands.stands next (ends_work case taken all).counts);
  }
  stands_same (Matched state) stands next all = record {
    program = stands.program;
    stands = matched_stands state stands.program stands.stands next taken
        (ap (λ n. if nat_lt 0 n then taken + 1 else taken) (ends_work case taken all).counts);
  }

-- a state has taken as many records as it stands for
twice_not : (b : Bool) → b ≡ not (not b)
twice_not true = refl
twice_not false = refl

pub taken_is : (state : State) (case : ProgramCase) (taken : ℕ) → StandsFor state case taken → taken_of state ≡ taken
taken_is (Plain state) case taken stands = let first = stands.stands.first in let second = stands.stands.second in omega arith
taken_is (Matched state) case taken stands =
    let records : List Taken = matched_units.first_taken (match_case case) taken in
    let parts : length (of_first records) + length (of_second records) ≡ length records = length-filter_both (λ (one : Taken). not one.second) (λ (one : Taken). one.second) (λ one. twice_not one.second) records in
    let all : length records ≡ taken = length-take-le taken (matched.taken_records (match_case case)) stands.stands.within in
    omega (arith, stands.stands.first, stands.stands.second)

pub within_records : (state : State) (case : ProgramCase) (taken : ℕ) → StandsFor state case taken → taken ≤ records_taken case
unfolding records_taken
within_records (Plain state) case taken stands = subst (λ b. taken ≤ taken_by b case) (sym stands.program) stands.stands.within
within_records (Matched state) case taken stands = subst (λ b. taken ≤ taken_by b case) (sym stands.program) stands.stands.within

-- ---- the closing unit

abbrev returns : Option Finish → Bool
returns finish = is_returned finish

-- a program is closed by the unit that returns
pub closed_is : (parm : Parm) (state : State) (heads : Heads) → is_closed state ≡ false → is_closed (state_of parm state heads) ≡ is_returned (unit_of parm state heads).finish
unfolding state_of unit_of plain_steps.unit_of plain_steps.state_of matched_steps.unit_of matched_steps.state_of
closed_is parm (Plain state) heads open_yet = by heads.first
  where
    by_take : (can : Bool) (taking stuck : UnitDone) (n : ProgState) → n.closed ≡ state.closed → is_returned taking.finish ≡ false → is_returned stuck.finish ≡ false → (cond can n state).closed ≡ is_returned (cond can taking stuck).finish
    by_take true taking stuck n same one other = same ∙ open_yet ∙ sym one
    by_take false taking stuck n same one other = open_yet ∙ sym other

    by : (head : Option (List ℕ)) → (plain_steps.state_of parm state head).closed ≡ is_returned (plain_steps.unit_of parm state head).finish
    by None = refl
    by (Some bytes) = by_take (can_take state.kind parm bytes) _ _ _ refl refl refl
closed_is parm (Matched state) heads open_yet = by (chosen (keys_of state.kind parm) heads.first heads.second)
  where
    by_next : (is second : Bool) (key : List ℕ) (step : RecordStep) (number : ℕ) → (cond is (matched_steps.counted second key step state) state).closed ≡ is_returned (cond {A = UnitDone} is (record { taken = number; writes = step.writes; finish = None }) (record { taken = 0; writes = record { items = [] }; finish = Some (Finishes.Abend (User 101)) })).finish
    by_next true true key step number = open_yet
    by_next true false key step number = open_yet
    by_next false second key step number = open_yet

    by : (next : Option Taken) → (matched_steps.state_behind parm state next).closed ≡ is_returned (matched_steps.unit_for parm state next).finish
    by None = refl
    by (Some next) = by_next (matched_steps.is_next state next.second (matched_steps.key_at parm state next.second next.bytes)) next.second (matched_steps.key_at parm state next.second next.bytes) (matched_steps.step_of state.kind parm state next.second next.bytes) (matched_steps.input_number next.second)

same_code : (one other : ℕ) → Some (Finishes.Returned one) ≡ Some (Finishes.Returned other) → one ≡ other
same_code one other e = cc

pub not_returned : (code : Code) (rc : ℕ) → Some (Finishes.Abend code) ≡ Some (Finishes.Returned rc) → ⊥
not_returned code rc e = cc

none_returned : (rc : ℕ) → None ≡ Some (Finishes.Returned rc) → ⊥
none_returned rc e = cc

-- with the state's return code
pub returns_as : (parm : Parm) (state : State) (heads : Heads) (rc : ℕ) → (unit_of parm state heads).finish ≡ Some (Finishes.Returned rc) → return_of (state_of parm state heads) ≡ rc
unfolding state_of unit_of plain_steps.unit_of plain_steps.state_of matched_steps.unit_of matched_steps.state_of
returns_as parm (Plain state) heads rc is = by heads.first is
  where
    by_take : (can : Bool) (taking stuck : UnitDone) → taking.finish ≡ None → stuck.finish ≡ Some (Finishes.Abend (System 199)) → (cond can taking stuck).finish ≡ Some (Finishes.Returned rc) → 0 ≡ rc
    by_take true taking stuck one other e = absurd (none_returned rc (sym one ∙ e))
    by_take false taking stuck one other e = absurd (not_returned (System 199) rc (sym other ∙ e))

    by : (head : Option (List ℕ)) → (plain_steps.unit_of parm state head).finish ≡ Some (Finishes.Returned rc) → 0 ≡ rc
    by None e = same_code 0 rc e
    by (Some bytes) e = by_take (can_take state.kind parm bytes) _ _ refl refl e
returns_as parm (Matched state) heads rc is = by (chosen (keys_of state.kind parm) heads.first heads.second) is
  where
    by_next : (is : Bool) (taking stuck : UnitDone) (n : MatchState) → taking.finish ≡ None → stuck.finish ≡ Some (Finishes.Abend (User 101)) → (cond is taking stuck).finish ≡ Some (Finishes.Returned rc) → return_code (cond is n state).rejects ≡ rc
    by_next true taking stuck n one other e = absurd (none_returned rc (sym one ∙ e))
    by_next false taking stuck n one other e = absurd (not_returned (User 101) rc (sym other ∙ e))

    by : (next : Option Taken) → (matched_steps.unit_for parm state next).finish ≡ Some (Finishes.Returned rc) → return_code (matched_steps.state_behind parm state next).rejects ≡ rc
    by None e = same_code (return_code state.rejects) rc e
    by (Some next) e = by_next (matched_steps.is_next state next.second (matched_steps.key_at parm state next.second next.bytes)) _ _ _ refl refl e
