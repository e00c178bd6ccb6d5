-- A statement without a fault is well named.
use Rattle.std.proofs.Common.{◌≡◌, ℕ, Bool, true, false, Option, Some, None, refl, ap, sym, ◌∙◌, ◌&&◌, ◌||◌, not}
use Rattle.std.specs.Prelude.{IsTrue}
use mathlib.Core.Bool.{false≢true}
use Rattle.ckr_base.specs.Grammar.{is_name8}
use Rattle.ckr_base.proofs.Options.{some-not-none}
use Rattle.ckr_cards.specs.declared.kind.StatementKind.{StatementKind}
use Rattle.ckr_cards.specs.declared.statement.Statement.{Statement}
use Rattle.ckr_cards.specs.Statement.{is_named, is_job, name_in, number_in}
use Rattle.ckr_jcl_faults.specs.declared.faults.Fault.{Fault}
use Rattle.ckr_jcl_faults.specs.declared.faults.MetFaults.{MetFaults}
use Rattle.ckr_jcl_faults.specs.Faults.{faults_of, least_fault, fault_at, name_fault, kind_fault, is_no_statement, is_in_place}
use Rattle.ckr_jcl.specs.Text.{if_holds}

-- where the table has no fault, no row has one
pub none_at : (number : ℕ) (card : Option ℕ) (later : Option Fault) → fault_at number card later ≡ None → (card ≡ None) × (later ≡ None)
none_at number None later none = (refl, none)
none_at number (Some card) later none = absurd (some-not-none _ none)

pub unnamed : (named good : Bool) (card : ℕ) → if_holds (named && not good) card ≡ None → IsTrue named → IsTrue good
unnamed true true card none holds = refl
unnamed true false card none holds = absurd (some-not-none _ none)
unnamed false good card none holds = absurd (false≢true holds)

pub well_named : (seen : MetFaults) (s : Statement) → least_fault (faults_of seen s) ≡ None → IsTrue (is_named s.kind) → IsTrue (is_name8 (name_in s))
unfolding faults_of name_fault
well_named seen s none = unnamed (is_named s.kind) (is_name8 (name_in s)) (number_in s) (none_at 3 (name_fault s) _ (none_at 2 _ _ (none_at 1 _ _ none).1).1).0

pub not_placed : (wrong placed : Bool) (card : ℕ) → if_holds (wrong || not placed) card ≡ None → placed ≡ true
not_placed true placed card none = absurd (some-not-none _ none)
not_placed false true card none = refl
not_placed false false card none = absurd (some-not-none _ none)

pub named_if_job : (kind : StatementKind) → IsTrue (is_job kind) → IsTrue (is_named kind)
named_if_job kind holds = rw holds refl

pub in_place-first : (kind : StatementKind) (number : ℕ) → number ≡ 1 → is_in_place kind number ≡ is_job kind
in_place-first kind number first = ap (λ n. is_in_place kind n) first

-- card 1 without a fault is a JOB statement
pub first_named : (seen : MetFaults) (s : Statement) → number_in s ≡ 1 → least_fault (faults_of seen s) ≡ None → IsTrue (is_name8 (name_in s))
unfolding faults_of kind_fault
first_named seen s first none =
    well_named seen s none (named_if_job s.kind (sym (in_place-first s.kind (number_in s) first)
    ∙ not_placed (is_no_statement s.kind) (is_in_place s.kind (number_in s)) (number_in s) (none_at 4 (kind_fault s) _ (none_at 3 _ _ (none_at 2 _ _ (none_at 1 _ _ none).1).1).1).0))
