-- The numbers ascend, whatever a call does.
use Rattle.std.proofs.Common.{◌≡◌, ◌<◌, ℕ, true, false, ◌&&◌, IsTrue, List, [], ◌∷◌, refl, ap, ◌∙◌, arith, cond, Option, None, Some}
use Rattle.std.specs.List.{list_all, find}
use Rattle.std.specs.Option.{option_map}
use Rattle.std.proofs.lemmas.Bool.Decides.{nat_tests}
use Rattle.std.proofs.lemmas.Bool.{and_from}
use Rattle.ckr_base.proofs.Options.{some-not-none}
use Rattle.ckr_base.proofs.Bools.{and-first, and-second}
use Rattle.ckr_queue.specs.declared.entry.QueueEntry.{QueueEntry}
use Rattle.ckr_queue.specs.declared.entry.QueueState.{QueueState}
use Rattle.ckr_queue.specs.Queue.{is_of, is_above, is_below, rises, state_of, with_entry, with_state, without}

above-with_state : (low number : ℕ) (state : QueueState) (entries : List QueueEntry) → list_all (is_above low) (with_state number state entries) ≡ list_all (is_above low) entries
above-with_state low number state [] = refl
above-with_state low number state (entry ∷ entries) =
    elim (is_of number entry) as (λ b. list_all (is_above low) (cond b (record entry { state = state } ∷ entries) (entry ∷ with_state number state entries)) ≡ is_above low entry && list_all (is_above low) entries) [
      | true ↦ refl
      | false ↦ ap (λ b. is_above low entry && b) (above-with_state low number state entries)
    ]

pub rises-with_state : (number : ℕ) (state : QueueState) (entries : List QueueEntry) → rises (with_state number state entries) ≡ rises entries
rises-with_state number state [] = refl
rises-with_state number state (entry ∷ entries) =
    elim (is_of number entry) as (λ b. rises (cond b (record entry { state = state } ∷ entries) (entry ∷ with_state number state entries)) ≡ list_all (is_above entry.number) entries && rises entries) [
      | true ↦ refl
      | false ↦ ap (λ b. b && rises (with_state number state entries)) (above-with_state entry.number number state entries) ∙ ap (λ b. list_all (is_above entry.number) entries && b) (rises-with_state number state entries)
    ]

above-without : (low number : ℕ) (entries : List QueueEntry) → IsTrue (list_all (is_above low) entries) → IsTrue (list_all (is_above low) (without number entries))
above-without low number [] all = refl
above-without low number (entry ∷ entries) all =
    elim (is_of number entry) as (λ b. IsTrue (list_all (is_above low) (cond b entries (entry ∷ without number entries)))) [
      | true ↦ and-second _ _ all
      | false ↦ and_from _ _ (and-first _ _ all) (above-without low number entries (and-second _ _ all))
    ]

pub rises-without : (number : ℕ) (entries : List QueueEntry) → IsTrue (rises entries) → IsTrue (rises (without number entries))
rises-without number [] rise = refl
rises-without number (entry ∷ entries) rise =
    elim (is_of number entry) as (λ b. IsTrue (rises (cond b entries (entry ∷ without number entries)))) [
      | true ↦ and-second _ _ rise
      | false ↦ and_from _ _ (above-without entry.number number entries (and-first _ _ rise)) (rises-without number entries (and-second _ _ rise))
    ]

above-with_entry : (low : ℕ) (new : QueueEntry) (entries : List QueueEntry) → IsTrue (is_above low new) → IsTrue (list_all (is_above low) entries) → IsTrue (list_all (is_above low) (with_entry new entries))
above-with_entry low new [] one all = and_from _ _ one refl
above-with_entry low new (entry ∷ entries) one all =
    elim (is_below new.number entry) as (λ b. IsTrue (list_all (is_above low) (cond b (entry ∷ with_entry new entries) (new ∷ entry ∷ entries)))) [
      | true ↦ and_from _ _ (and-first _ _ all) (above-with_entry low new entries one (and-second _ _ all))
      | false ↦ and_from _ _ one all
    ]

higher : (low high : ℕ) (entry : QueueEntry) → low < high → IsTrue (is_above high entry) → IsTrue (is_above low entry)
higher low high entry h above = grind (arith, nat_tests)

all_higher : (low high : ℕ) (entries : List QueueEntry) → low < high → IsTrue (list_all (is_above high) entries) → IsTrue (list_all (is_above low) entries)
all_higher low high [] h all = refl
all_higher low high (entry ∷ entries) h all = and_from _ _ (higher low high entry h (and-first _ _ all)) (all_higher low high entries h (and-second _ _ all))

below : (number : ℕ) (entry : QueueEntry) → is_above number entry ≡ true → number < entry.number
below number entry e = grind (arith, nat_tests)

upper : (number : ℕ) (entry : QueueEntry) → is_below number entry ≡ false → is_of number entry ≡ false → is_above number entry ≡ true
upper number entry e f = grind (arith, nat_tests)

pub absent_first : (number : ℕ) (entry : QueueEntry) (entries : List QueueEntry) → find (is_of number) (entry ∷ entries) ≡ None → (is_of number entry ≡ false) × (find (is_of number) entries ≡ None)
absent_first number entry entries none =
    elim (is_of number entry) as (λ b. cond b (Some entry) (find (is_of number) entries) ≡ None → (b ≡ false) × (find (is_of number) entries ≡ None)) [
      | true ↦ λ no. absurd (some-not-none entry no)
      | false ↦ λ no. (refl, no)
    ] none

rises-absent : (new : QueueEntry) (entries : List QueueEntry) → find (is_of new.number) entries ≡ None → IsTrue (rises entries) → IsTrue (rises (with_entry new entries))
rises-absent new [] none rise = refl
rises-absent new (entry ∷ entries) none rise =
    let gone = absent_first new.number entry entries none in
    elim (is_below new.number entry) as (λ b. is_below new.number entry ≡ b → IsTrue (rises (cond b (entry ∷ with_entry new entries) (new ∷ entry ∷ entries)))) [
      | true ↦ λ lower. and_from _ _ (above-with_entry entry.number new entries lower (and-first _ _ rise)) (rises-absent new entries gone.1 (and-second _ _ rise))
      | false ↦ λ not_lower.
          let above = upper new.number entry not_lower gone.0 in
          and_from _ _ (and_from _ _ above (all_higher new.number entry.number entries (below new.number entry above) (and-first _ _ rise))) rise
    ] refl

pub no_entry : (found : Option QueueEntry) → option_map (λ (entry : QueueEntry). entry.state) found ≡ None → found ≡ None
no_entry None e = refl
no_entry (Some entry) e = absurd (some-not-none _ e)

pub rises-with_entry : (new : QueueEntry) (entries : List QueueEntry) → state_of new.number entries ≡ None → IsTrue (rises entries) → IsTrue (rises (with_entry new entries))
rises-with_entry new entries none rise = rises-absent new entries (no_entry (find (is_of new.number) entries) none) rise
