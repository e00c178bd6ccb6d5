-- What is left of the work of any program depends on its state and on the records left.
use Rattle.std.proofs.Common.{◌≡◌, ℕ, Bool, true, false, List, drop, length, refl, ap, sym, ◌∙◌}
use Rattle.ckr_base.specs.declared.programs.Write.{Write}
use Rattle.ckr_jcl.specs.declared.deck.Kind.{Kind}
use Rattle.ckr_jcl.specs.declared.deck.Kind.TheVariants.{Br14}
use Rattle.ckr_entry.specs.declared.point.State.{State}
use Rattle.ckr_entry.specs.declared.point.State.TheVariants.{Plain, Matched}
use Rattle.ckr_programs.specs.declared.state.ProgState.{ProgState}
use Rattle.ckr_programs.specs.Work.{read_by}
use Rattle.ckr_programs.proofs.AllUnits as plain_units
use Rattle.ckr_match.specs.declared.state.MatchState.{MatchState}
use Rattle.ckr_match.specs.State.{has_two_inputs}
use Rattle.ckr_match.proofs.AllUnits as matched_units
use Rattle.ckr_meaning.specs.Program.{ProgramCase, plain_case, match_case, work_by, upto_by, work, upto, rest}
use Rattle.ckr_meaning.specs.States.{IsSameRemainder}

-- by whether the program has two inputs
rest_of : Bool → ProgramCase → ℕ → List Write
rest_of two case count = drop (length (upto_by two case count)) (work_by two case).writes

rest-is : (case : ProgramCase) (two : Bool) (count : ℕ) → has_two_inputs case.program ≡ two → rest case count ≡ rest_of two case count
unfolding work upto rest_of
rest-is case two count e = ap (λ by. drop (length (upto_by by case count)) (work_by by case).writes) e

-- what a program reads, from a record on
read_by-drop : (program : Kind) (count : ℕ) (first second : List (List ℕ)) → drop count first ≡ drop count second → drop count (read_by program first) ≡ drop count (read_by program second)
read_by-drop Br14 count first second same = refl
read_by-drop _ count first second same = same

plain_rest : (first second : ProgramCase) (one other : ℕ) (state : ProgState) → IsSameRemainder first second one other (Plain state) → rest first one ≡ rest second other
unfolding rest_of
plain_rest first second one other state same =
    rest-is first false one same.stands_first.program
    ∙ plain_units.same_rest (plain_case first) (plain_case second) one other state (record {
      parm = same.parm;
      stands_first = same.stands_first.stands;
      stands_second = same.stands_second.stands;
      left =
          ap (λ count. drop count (read_by first.program first.first)) (sym same.stands_first.stands.first)
          ∙ read_by-drop first.program state.first first.first second.first same.left_first
          ∙ ap (λ program. drop state.first (read_by program second.first)) same.program
          ∙ ap (λ count. drop count (read_by second.program second.first)) same.stands_second.stands.first;
    })
    ∙ sym (rest-is second false other same.stands_second.program)

match_rest : (first second : ProgramCase) (one other : ℕ) (state : MatchState) → IsSameRemainder first second one other (Matched state) → rest first one ≡ rest second other
unfolding rest_of
match_rest first second one other state same =
    rest-is first true one same.stands_first.program
    ∙ matched_units.same_rest (match_case first) (match_case second) one other state (record {
      parm = same.parm;
      stands_first = same.stands_first.stands;
      stands_second = same.stands_second.stands;
      left_first = same.left_first;
      left_second = same.left_second;
    })
    ∙ sym (rest-is second true other same.stands_second.program)

pub same_rest : (first second : ProgramCase) (one other : ℕ) (state : State) → IsSameRemainder first second one other state → rest first one ≡ rest second other
same_rest first second one other (Plain state) same = plain_rest first second one other state same
same_rest first second one other (Matched state) same = match_rest first second one other state same
