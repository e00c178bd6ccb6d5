-- The least fault of a table, and the first fault of a deck, are what the relations say.
use Rattle.std.proofs.Common.{◌≡◌, ℕ, ◌<◌, ◌≤◌, Bool, true, false, List, [], ◌∷◌, Option, Some, None, refl, ◌∙◌, subst, arith, inl, inr, if◌then◌else◌}
use Rattle.std.specs.Prelude.{nat_lt, nat_le, ◌⊎◌}
use Rattle.std.specs.Option.{option_or}
use Rattle.std.proofs.lemmas.Bool.Decides.{nat_tests}
use Rattle.std.proofs.lemmas.Option.{none-some, same_Some}
use Rattle.ckr_base.proofs.Bools.{and-first, and-second}
use Rattle.ckr_base.proofs.Options.{some-not-none}
use Rattle.ckr_cards.specs.declared.statement.Statement.{Statement}
use Rattle.ckr_jcl_faults.specs.declared.faults.Fault.{Fault}
use Rattle.ckr_jcl_faults.specs.declared.faults.MetFaults.{MetFaults}
use Rattle.ckr_jcl_faults.specs.Faults.{faults_of, faults_of_field, faults_of_operands, least_fault, fault_at, first_fault, seen_behind, statement_fault, nothing_seen}
use Rattle.ckr_jcl_decks.specs.Least.{IsFaultAt, HasNone, ComesFirst, IsLeast, ascends, IsFirstFault, AreSound}
use Rattle.ckr_jcl_decks.specs.Least.IsFaultAt.{here, there}
use Rattle.ckr_jcl_decks.specs.Least.IsFirstFault.{at_first, behind}
use Rattle.ckr_jcl_decks.specs.Least.AreSound.{none as no_statement, sound}

-- ---- tables

-- a row of a table has a greater number than those before the table
pub stands-above : (least number card : ℕ) (rows : List (ℕ × Option ℕ)) → ascends least rows ≡ true → IsFaultAt number card rows → least < number
stands-above least number card [] order stands = elim stands [ ]
stands-above least number card (row ∷ rest) order (here _) = grind (arith, nat_tests, and-first (nat_lt least number) (ascends number rest) order)
stands-above least number card (row ∷ rest) order (there _ _ stands) =
    grind (arith, nat_tests, and-first (nat_lt least row.0) (ascends row.0 rest) order, stands-above row.0 number card rest (and-second (nat_lt least row.0) (ascends row.0 rest) order) stands)

pub le-split : (a b : ℕ) (low : Bool) → nat_lt a b ≡ low → a ≤ b → (a < b) ⊎ (a ≡ b)
le-split a b true test le = inl (grind (arith, nat_tests))
le-split a b false test le = inr (grind (arith, nat_tests))

pub comes_within : (fault : Fault) (number card : ℕ) → fault.card ≤ card → fault.number ≤ number → ComesFirst fault number card
comes_within fault number card low smaller = choose (le-split fault.card card (nat_lt fault.card card) refl low)
  where
    choose : (fault.card < card) ⊎ (fault.card ≡ card) → ComesFirst fault number card
    choose (inl less) = inl less
    choose (inr same) = inr (same, smaller)

pub comes_card : (fault : Fault) (number card : ℕ) → ComesFirst fault number card → fault.card ≤ card
comes_card fault number card (inl less) = omega arith
comes_card fault number card (inr same) = omega (arith, same.0)

-- a table without a fault has none in its first row, and none behind it
pub own_none : (number : ℕ) (own : Option ℕ) (rows : List (ℕ × Option ℕ)) → HasNone ((number, own) ∷ rows) → own ≡ None
own_none number None rows none = refl
own_none number (Some card) rows none = absurd (none number card (here rows))

pub rows_none : (row : ℕ × Option ℕ) (rows : List (ℕ × Option ℕ)) → HasNone (row ∷ rows) → HasNone rows
rows_none row rows none number card stands = none number card (there row rows stands)

-- where a table has no least fault it has none
pub has_none : (rows : List (ℕ × Option ℕ)) → least_fault rows ≡ None → HasNone rows
has_none [] none number card stands = elim stands [ ]
has_none ((n, None) ∷ rest) none number card (there _ _ stands) = has_none rest none number card stands
has_none ((n, Some c) ∷ rest) none number card stands = absurd (some-not-none _ none)

abbrev pub at_row : ℕ → ℕ → Fault
at_row number card = record { number = number; card = card }

pub alone_least : (n c : ℕ) (rest : List (ℕ × Option ℕ)) → least_fault rest ≡ None → IsLeast ((n, Some c) ∷ rest) (at_row n c)
alone_least n c rest none = record { stands = here rest; first = comes }
  where
    comes : (number card : ℕ) → IsFaultAt number card ((n, Some c) ∷ rest) → ComesFirst (at_row n c) number card
    comes number card (here _) = comes_within (at_row n c) n c (omega arith) (omega arith)
    comes number card (there _ _ stands) = absurd (has_none rest none number card stands)

pub earlier_least : (n c : ℕ) (rest : List (ℕ × Option ℕ)) (later : Fault) → ascends n rest ≡ true → IsLeast rest later → c ≤ later.card → IsLeast ((n, Some c) ∷ rest) (at_row n c)
earlier_least n c rest later order least low = record { stands = here rest; first = comes }
  where
    comes : (number card : ℕ) → IsFaultAt number card ((n, Some c) ∷ rest) → ComesFirst (at_row n c) number card
    comes number card (here _) = comes_within (at_row n c) n c (omega arith) (omega arith)
    comes number card (there _ _ stands) =
        let later_card : later.card ≤ card = comes_card later number card (least.first number card stands) in
        let above : n < number = stands-above n number card rest order stands in
        comes_within (at_row n c) number card (omega arith) (omega arith)

pub later_least : (n c : ℕ) (rest : List (ℕ × Option ℕ)) (later : Fault) → IsLeast rest later → later.card < c → IsLeast ((n, Some c) ∷ rest) later
later_least n c rest later least less = record { stands = there _ rest least.stands; first = comes }
  where
    comes : (number card : ℕ) → IsFaultAt number card ((n, Some c) ∷ rest) → ComesFirst later number card
    comes number card (here _) = inl less
    comes number card (there _ _ stands) = least.first number card stands

pub skipped_least : (n : ℕ) (rest : List (ℕ × Option ℕ)) (fault : Fault) → IsLeast rest fault → IsLeast ((n, None) ∷ rest) fault
skipped_least n rest fault least = record { stands = there _ rest least.stands; first = comes }
  where
    comes : (number card : ℕ) → IsFaultAt number card ((n, None) ∷ rest) → ComesFirst fault number card
    comes number card (there _ _ stands) = least.first number card stands

pub chosen_least : (n c : ℕ) (rest : List (ℕ × Option ℕ)) (later fault : Fault) (low : Bool) → nat_le c later.card ≡ low → ascends n rest ≡ true → IsLeast rest later → (if low then at_row n c else later) ≡ fault → IsLeast ((n, Some c) ∷ rest) fault
chosen_least n c rest later fault true test order least same = subst (λ f. IsLeast ((n, Some c) ∷ rest) f) same (earlier_least n c rest later order least (grind (arith, nat_tests)))
chosen_least n c rest later fault false test order least same = subst (λ f. IsLeast ((n, Some c) ∷ rest) f) same (later_least n c rest later least (grind (arith, nat_tests)))

pub some_least : (n c : ℕ) (rest : List (ℕ × Option ℕ)) (o : Option Fault) (fault : Fault) → least_fault rest ≡ o → ascends n rest ≡ true → ((later : Fault) → least_fault rest ≡ Some later → IsLeast rest later) → fault_at n (Some c) o ≡ Some fault → IsLeast ((n, Some c) ∷ rest) fault
some_least n c rest None fault none order least same = subst (λ f. IsLeast ((n, Some c) ∷ rest) f) (same_Some _ _ same) (alone_least n c rest none)
some_least n c rest (Some later) fault found order least same = chosen_least n c rest later fault (nat_le c later.card) refl order (least later found) (same_Some _ _ same)

-- the least fault of a table is what the relation says
pub is_least : (least : ℕ) (rows : List (ℕ × Option ℕ)) (fault : Fault) → ascends least rows ≡ true → least_fault rows ≡ Some fault → IsLeast rows fault
is_least least [] fault order found = absurd (none-some _ found)
is_least least ((n, None) ∷ rest) fault order found = skipped_least n rest fault (is_least n rest fault (and-second (nat_lt least n) (ascends n rest) order) found)
is_least least ((n, Some c) ∷ rest) fault order found =
    some_least n c rest (least_fault rest) fault refl (and-second (nat_lt least n) (ascends n rest) order)
    (λ later same. is_least n rest later (and-second (nat_lt least n) (ascends n rest) order) same) found

-- ---- statements

pub faults_ascend : (seen : MetFaults) (s : Statement) → ascends 0 (faults_of seen s) ≡ true
unfolding faults_of faults_of_field faults_of_operands
faults_ascend seen s = refl

pub chosen_first : (seen : MetFaults) (s : Statement) (rest : List Statement) (fault : Fault) (o : Option Fault) → least_fault (faults_of seen s) ≡ o → (first_fault (seen_behind seen s) rest ≡ Some fault → IsFirstFault (seen_behind seen s) rest fault) → option_or o (first_fault (seen_behind seen s) rest) ≡ Some fault → IsFirstFault seen (s ∷ rest) fault
chosen_first seen s rest fault None none more found = behind seen s rest fault (has_none (faults_of seen s) none) (more found)
chosen_first seen s rest fault (Some own) has more found =
    at_first seen s rest fault (is_least 0 (faults_of seen s) fault (faults_ascend seen s) (has ∙ found))

pub is_first_fault : (seen : MetFaults) (statements : List Statement) (fault : Fault) → first_fault seen statements ≡ Some fault → IsFirstFault seen statements fault
is_first_fault seen [] fault found = absurd (none-some _ found)
is_first_fault seen (s ∷ rest) fault found = chosen_first seen s rest fault (least_fault (faults_of seen s)) refl (is_first_fault (seen_behind seen s) rest fault) found

pub chosen_sound : (seen : MetFaults) (s : Statement) (rest : List Statement) (o : Option Fault) → least_fault (faults_of seen s) ≡ o → (first_fault (seen_behind seen s) rest ≡ None → AreSound (seen_behind seen s) rest) → option_or o (first_fault (seen_behind seen s) rest) ≡ None → AreSound seen (s ∷ rest)
chosen_sound seen s rest None none more found = sound seen s rest (has_none (faults_of seen s) none) (more found)
chosen_sound seen s rest (Some own) has more found = absurd (some-not-none _ found)

pub are_sound : (seen : MetFaults) (statements : List Statement) → first_fault seen statements ≡ None → AreSound seen statements
are_sound seen [] found = no_statement seen
are_sound seen (s ∷ rest) found = chosen_sound seen s rest (least_fault (faults_of seen s)) refl (are_sound (seen_behind seen s) rest) found

-- ---- the laws

pub first_fault_law : (statements : List Statement) (fault : Fault) → statement_fault statements ≡ Some fault → IsFirstFault nothing_seen statements fault
unfolding statement_fault
first_fault_law statements fault found = is_first_fault nothing_seen statements fault found

pub sound_law : (statements : List Statement) → statement_fault statements ≡ None → AreSound nothing_seen statements
unfolding statement_fault
sound_law statements found = are_sound nothing_seen statements found
