-- What holds of each queue: the states behind a call, and which run is selected.
use Rattle.std.proofs.Common.{◌≡◌, ◌↔◌, ℕ, Bool, true, false, not, ◌&&◌, ◌||◌, IsTrue, List, [], ◌∷◌, refl, ap, sym, ◌∙◌, subst, arith, cond, Option, None, Some, nat_lt, ◌==◌}
use Rattle.std.specs.List.{list_all, list_any, find}
use Rattle.std.specs.Option.{option_map, is_some}
use Rattle.std.proofs.lemmas.Bool.Decides.{nat_tests}
use Rattle.std.proofs.lemmas.Bool.{and_from, false≢true}
use Rattle.std.proofs.lemmas.Option.{none-some, same_Some}
use Rattle.ckr_base.proofs.Numbers.{equal-itself, nat_lt-itself}
use Rattle.ckr_base.proofs.Bools.{and-first, and-second}
use Rattle.ckr_queue.specs.declared.entry.QueueEntry.{QueueEntry}
use Rattle.ckr_queue.specs.declared.entry.QueueState.{QueueState}
use Rattle.ckr_queue.specs.declared.entry.Selection.{Selection}
use Rattle.ckr_queue.specs.declared.entry.Selection.TheVariants.{Job, Idle}
use Rattle.ckr_queue.specs.Queue.{is_of, is_above, is_below, rises, state_of, with_entry, with_state, without, may_start, starts, may_take, selection_with, selection_of, IsLowest, MayTake}
use Rattle.ckr_queue.proofs.Places.{in_state}
use Rattle.ckr_queue.proofs.Order.{absent_first}

abbrev state_in : Option QueueEntry → Option QueueState
state_in found = option_map (λ (entry : QueueEntry). entry.state) found

another : (number other : ℕ) (entry : QueueEntry) → (number == other) ≡ false → is_of number entry ≡ true → is_of other entry ≡ false
another number other entry differ same = grind (arith, nat_tests)

-- ---- states

pub state_of-with_state : (number : ℕ) (state : QueueState) (entries : List QueueEntry) → is_some (state_of number entries) ≡ true → state_of number (with_state number state entries) ≡ Some state
state_of-with_state number state [] there = cc
state_of-with_state number state (entry ∷ entries) there =
    elim (is_of number entry) as (λ b. is_of number entry ≡ b → is_some (state_in (cond b (Some entry) (find (is_of number) entries))) ≡ true → state_of number (cond b (in_state state entry ∷ entries) (entry ∷ with_state number state entries)) ≡ Some state) [
      | true ↦ λ e h. ap (λ b. state_in (cond b (Some (in_state state entry)) (find (is_of number) entries))) e
      | false ↦ λ e h. ap (λ b. state_in (cond b (Some entry) (find (is_of number) (with_state number state entries)))) e ∙ state_of-with_state number state entries h
    ] refl there

behind : (other : ℕ) (entry : QueueEntry) (one two : List QueueEntry) → state_of other one ≡ state_of other two → state_of other (entry ∷ one) ≡ state_of other (entry ∷ two)
behind other entry one two e =
    elim (is_of other entry) as (λ b. state_in (cond b (Some entry) (find (is_of other) one)) ≡ state_in (cond b (Some entry) (find (is_of other) two))) [ true ↦ refl | false ↦ e ]

past : (other : ℕ) (entry : QueueEntry) (entries : List QueueEntry) → is_of other entry ≡ false → state_of other (entry ∷ entries) ≡ state_of other entries
past other entry entries e = ap (λ b. state_in (cond b (Some entry) (find (is_of other) entries))) e

pub state_of-with_state_other : (number other : ℕ) (state : QueueState) (entries : List QueueEntry) → (number == other) ≡ false → state_of other (with_state number state entries) ≡ state_of other entries
state_of-with_state_other number other state [] differ = refl
state_of-with_state_other number other state (entry ∷ entries) differ =
    elim (is_of number entry) as (λ b. is_of number entry ≡ b → state_of other (cond b (in_state state entry ∷ entries) (entry ∷ with_state number state entries)) ≡ state_of other (entry ∷ entries)) [
      | true ↦ λ e. past other (in_state state entry) entries (another number other entry differ e) ∙ sym (past other entry entries (another number other entry differ e))
      | false ↦ λ e. behind other entry (with_state number state entries) entries (state_of-with_state_other number other state entries differ)
    ] refl

pub state_of-without_other : (number other : ℕ) (entries : List QueueEntry) → (number == other) ≡ false → state_of other (without number entries) ≡ state_of other entries
state_of-without_other number other [] differ = refl
state_of-without_other number other (entry ∷ entries) differ =
    elim (is_of number entry) as (λ b. is_of number entry ≡ b → state_of other (cond b entries (entry ∷ without number entries)) ≡ state_of other (entry ∷ entries)) [
      | true ↦ λ e. sym (past other entry entries (another number other entry differ e))
      | false ↦ λ e. behind other entry (without number entries) entries (state_of-without_other number other entries differ)
    ] refl

pub state_of-with_entry : (new : QueueEntry) (entries : List QueueEntry) → find (is_of new.number) entries ≡ None → state_of new.number (with_entry new entries) ≡ Some new.state
state_of-with_entry new [] none = ap (λ b. state_in (cond b (Some new) None)) (equal-itself new.number)
state_of-with_entry new (entry ∷ entries) none =
    let gone = absent_first new.number entry entries none in
    elim (is_below new.number entry) as (λ b. state_of new.number (cond b (entry ∷ with_entry new entries) (new ∷ entry ∷ entries)) ≡ Some new.state) [
      | true ↦ past new.number entry (with_entry new entries) gone.0 ∙ state_of-with_entry new entries gone.1
      | false ↦ ap (λ b. state_in (cond b (Some new) (find (is_of new.number) (entry ∷ entries)))) (equal-itself new.number)
    ]

pub state_of-with_entry_other : (new : QueueEntry) (other : ℕ) (entries : List QueueEntry) → (new.number == other) ≡ false → state_of other (with_entry new entries) ≡ state_of other entries
state_of-with_entry_other new other [] differ = ap (λ b. state_in (cond b (Some new) None)) differ
state_of-with_entry_other new other (entry ∷ entries) differ =
    elim (is_below new.number entry) as (λ b. state_of other (cond b (entry ∷ with_entry new entries) (new ∷ entry ∷ entries)) ≡ state_of other (entry ∷ entries)) [
      | true ↦ behind other entry (with_entry new entries) entries (state_of-with_entry_other new other entries differ)
      | false ↦ past other new (entry ∷ entries) differ
    ]

-- ---- selection

there : (entries : List QueueEntry) (found : Option QueueEntry) → IsTrue (starts entries found) → is_some (state_in found) ≡ true
there entries None false_one = absurd (false≢true false_one)
there entries (Some entry) starts_so = refl

-- a run that may be taken is there
pub taken : (number : ℕ) (state : QueueState) (entries : List QueueEntry) → IsTrue (may_take number entries) → state_of number (with_state number state entries) ≡ Some state
taken number state entries may = state_of-with_state number state entries (there entries (find (is_of number) entries) may)

pub ruleset states = (taken, state_of-with_state_other, state_of-without_other, state_of-with_entry, state_of-with_entry_other)

find-all : (test P : QueueEntry → Bool) (entries : List QueueEntry) (found : QueueEntry) → find test entries ≡ Some found → IsTrue (list_all P entries) → IsTrue (P found)
find-all test P [] found e all = absurd (none-some found e)
find-all test P (entry ∷ entries) found e all =
    elim (test entry) as (λ b. cond b (Some entry) (find test entries) ≡ Some found → IsTrue (P found)) [
      | true ↦ λ same. subst (λ x. IsTrue (P x)) (same_Some entry found same) (and-first _ _ all)
      | false ↦ λ later. find-all test P entries found later (and-second _ _ all)
    ] e

abbrev no_lower : (QueueEntry → Bool) → ℕ → QueueEntry → Bool
no_lower test number entry = not (nat_lt entry.number number && test entry)

above-no_lower : (test : QueueEntry → Bool) (number : ℕ) (entries : List QueueEntry) → IsTrue (list_all (is_above number) entries) → IsTrue (list_all (no_lower test number) entries)
above-no_lower test number [] all = refl
above-no_lower test number (entry ∷ entries) all = and_from _ _ (higher entry (and-first _ _ all)) (above-no_lower test number entries (and-second _ _ all))
  where
    higher : (entry : QueueEntry) → IsTrue (is_above number entry) → IsTrue (no_lower test number entry)
    higher entry above = ap (λ b. not (b && test entry)) (not_below entry.number above)
      where
        not_below : (n : ℕ) → nat_lt number n ≡ true → nat_lt n number ≡ false
        not_below n lt = grind (arith, nat_tests)

-- what stands first among those that pass a test
pub record Stands (test : QueueEntry → Bool) (entries : List QueueEntry) (found : QueueEntry) : Type 0 where
  pub passes : IsTrue (test found)
  pub place : find (is_of found.number) entries ≡ Some found
  pub lowest : IsTrue (list_all (no_lower test found.number) entries)

itself : (test : QueueEntry → Bool) (entry : QueueEntry) (entries : List QueueEntry) → test entry ≡ true → IsTrue (list_all (is_above entry.number) entries) → Stands test (entry ∷ entries) entry
itself test entry entries e above = record {
  passes = e;
  place = ap (λ b. cond b (Some entry) (find (is_of entry.number) entries)) (equal-itself entry.number);
  lowest = and_from _ _ (ap (λ b. not (b && test entry)) (nat_lt-itself entry.number)) (above-no_lower test entry.number entries above);
}

later : (test : QueueEntry → Bool) (entry : QueueEntry) (entries : List QueueEntry) (found : QueueEntry) → test entry ≡ false → IsTrue (is_above entry.number found) → Stands test entries found → Stands test (entry ∷ entries) found
later test entry entries found e above stands = record {
  passes = stands.passes;
  place = ap (λ b. cond b (Some entry) (find (is_of found.number) entries)) (unlike found.number entry above) ∙ stands.place;
  lowest = and_from _ _ (none (nat_lt entry.number found.number) (test entry) e) stands.lowest;
}
  where
    unlike : (n : ℕ) (entry : QueueEntry) → nat_lt entry.number n ≡ true → is_of n entry ≡ false
    unlike n entry lt = grind (arith, nat_tests)

    none : (a b : Bool) → b ≡ false → not (a && b) ≡ true
    none true b e = ap not e
    none false b e = refl

find-stands : (test : QueueEntry → Bool) (entries : List QueueEntry) (found : QueueEntry) → IsTrue (rises entries) → find test entries ≡ Some found → Stands test entries found
find-stands test [] found rise e = absurd (none-some found e)
find-stands test (entry ∷ entries) found rise e =
    elim (test entry) as (λ b. test entry ≡ b → cond b (Some entry) (find test entries) ≡ Some found → Stands test (entry ∷ entries) found) [
      | true ↦ λ is same. subst (Stands test (entry ∷ entries)) (same_Some entry found same) (itself test entry entries is (and-first _ _ rise))
      | false ↦ λ is rest. later test entry entries found is (find-all test (is_above entry.number) entries found rest (and-first _ _ rise)) (find-stands test entries found (and-second _ _ rise) rest)
    ] refl e

may-stands : (entries : List QueueEntry) (found : QueueEntry) → Stands (may_start entries) entries found → IsTrue (may_take found.number entries)
may-stands entries found stands = ap (starts entries) stands.place ∙ stands.passes

lowest_with : (entries : List QueueEntry) (found : Option QueueEntry) (number : ℕ) → ((entry : QueueEntry) → found ≡ Some entry → Stands (may_start entries) entries entry) → selection_with found ≡ Job number → IsLowest entries number
lowest_with entries None number stands e = absurd (not_job number e)
  where
    not_job : (n : ℕ) → Idle ≡ Job n → ⊥
    not_job n e = cc
lowest_with entries (Some entry) number stands e =
    subst (IsLowest entries) (same entry.number number e) (record { may = may-stands entries entry (stands entry refl); lowest = (stands entry refl).lowest })
  where
    same : (a b : ℕ) → Job a ≡ Job b → a ≡ b
    same a b e = cc

-- the selected run is the lowest
pub selection-lowest : (entries : List QueueEntry) (number : ℕ) → IsTrue (rises entries) → selection_of entries ≡ Job number → IsLowest entries number
unfolding selection_of
selection-lowest entries number rise e = lowest_with entries (find (may_start entries) entries) number (λ entry at. find-stands (may_start entries) entries entry rise at) e

-- the first run that may start may be taken
pub first-may : (entries : List QueueEntry) (found : QueueEntry) → IsTrue (rises entries) → Some found ≡ find (may_start entries) entries → IsTrue (may_take found.number entries)
first-may entries found rise e = may-stands entries found (find-stands (may_start entries) entries found rise (sym e))

-- ---- none

none_passes : (test : QueueEntry → Bool) (entries : List QueueEntry) → find test entries ≡ None → list_any test entries ≡ false
none_passes test [] e = refl
none_passes test (entry ∷ entries) e =
    elim (test entry) as (λ b. cond b (Some entry) (find test entries) ≡ None → (b || list_any test entries) ≡ false) [
      | true ↦ λ none. absurd (none-some entry (sym none))
      | false ↦ λ rest. none_passes test entries rest
    ] e

none_found : (test : QueueEntry → Bool) (entries : List QueueEntry) → list_any test entries ≡ false → find test entries ≡ None
none_found test [] e = refl
none_found test (entry ∷ entries) e =
    elim (test entry) as (λ b. (b || list_any test entries) ≡ false → cond b (Some entry) (find test entries) ≡ None) [
      | true ↦ λ none. absurd (false≢true (sym none))
      | false ↦ λ rest. none_found test entries rest
    ] e

idle_with : (found : Option QueueEntry) → selection_with found ≡ Idle → found ≡ None
idle_with None e = refl
idle_with (Some entry) e = absurd (not_idle entry.number e)
  where
    not_idle : (n : ℕ) → Job n ≡ Idle → ⊥
    not_idle n e = cc

-- Idle exactly where none may start
pub selection-idle : (entries : List QueueEntry) → (selection_of entries ≡ Idle) ↔ (list_any (may_start entries) entries ≡ false)
unfolding selection_of
selection-idle entries = (λ e. none_passes (may_start entries) entries (idle_with _ e), λ e. ap selection_with (none_found (may_start entries) entries e))

pub ruleset idle = (selection-idle)

-- the run that is next may be taken
pub next-may : (entries : List QueueEntry) (next : Selection) → IsTrue (rises entries) → next ≡ selection_of entries → MayTake entries next
unfolding selection_of
next-may entries next rise is = subst (MayTake entries) (sym is) (by (find (may_start entries) entries) refl)
  where
    by : (found : Option QueueEntry) → find (may_start entries) entries ≡ found → MayTake entries (selection_with found)
    by None none = tt
    by (Some entry) some = first-may entries entry rise (sym some)

pub ruleset next_may_be_taken = (next-may)
