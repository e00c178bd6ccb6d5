-- The earlier run by which a deferred restart is judged: the latest one of its job name, and the number of the step that it executed itself.
use Rattle.std.proofs.Common.{◌≡◌, ◌≤◌, ◌<◌, ◌+◌, ℕ, zero, suc, pred, Bool, true, ◌&&◌, not, cond, List, [], ◌∷◌, filter, drop, length, slice_get, refl, ap, sym, ◌∙◌, subst, Option, Some, None, arith}
use Rattle.std.specs.Prelude.{position}
use Rattle.std.specs.List.{position_or_len}
use Rattle.std.specs.Option.{option_map_or}
use Rattle.ckr_base.proofs.Bools.{and-first, and-second, bool-cases}
use Rattle.ckr_base.proofs.Options.{some-not-none}
use Rattle.ckr_base.proofs.Sequences.{each-by_place, each-passes, last-holds, position-some}
use Rattle.ckr_library.specs.NameMaps.{Name, same_name}
use Rattle.ckr_meaning.specs.EffectiveJob.{OwnedStep, step_at}
use Rattle.ckr_volumes.specs.declared.layout.Layout.{Layout}
use Rattle.ckr_points.specs.Office.{Office}
use Rattle.ckr_points.specs.RuleCases.{latest_run, number_named, was_selected}
use Rattle.ckr_points.specs.Rows.{RunRow, run_of}
use Rattle.ckr_points_invariant.specs.KeptEvents.{AreKept}
use Rattle.ckr_desk_turn.specs.Invariant.{IsAdmitted}
use Rattle.ckr_desk_turn.proofs.Deferred.StepNames.{deck-apart, same-place}

-- ---- lists

-- what stands at the first place that passes
place-passes : {X : Type 0} (test : X → Bool) (xs : List X) (place : ℕ) → place ≡ position_or_len test xs → place < length xs → (x : X) × (slice_get xs place ≡ Some x) × (test x ≡ true)
place-passes test [] place is inside = absurd (omega (arith, inside))
place-passes {X} test (x ∷ xs) place is inside =
    bool-cases (test x)
    (λ does. subst (λ n. (y : X) × (slice_get (x ∷ xs) n ≡ Some y) × (test y ≡ true)) (sym (is ∙ ap (λ b. cond (not b) (1 + position_or_len test xs) 0) does)) (x, refl, does))
    (λ isnt. later place (place-passes test xs) (is ∙ ap (λ b. cond (not b) (1 + position_or_len test xs) 0) isnt) inside)
  where
    later : (place : ℕ) → ((place : ℕ) → place ≡ position_or_len test xs → place < length xs → (y : X) × (slice_get xs place ≡ Some y) × (test y ≡ true)) → place ≡ 1 + position_or_len test xs → place < suc (length xs)
        → (y : X) × (slice_get (x ∷ xs) place ≡ Some y) × (test y ≡ true)
    later zero rest is inside = absurd (omega (arith, is))
    later (suc place) rest is inside = rest place (omega (arith, is)) (omega (arith, inside))

drop-get : {X : Type 0} (count place : ℕ) (xs : List X) → slice_get (drop count xs) place ≡ slice_get xs (count + place)
drop-get zero place xs = let e : place ≡ 0 + place = omega arith in ap (slice_get xs) e
drop-get (suc count) place [] = refl
drop-get (suc count) place (x ∷ xs) = let e : suc (count + place) ≡ suc count + place = omega arith in drop-get count place xs ∙ ap (slice_get (x ∷ xs)) e

-- ---- the latest run

pub latest-at : (layout : Layout) (office : Office) → AreKept layout office → (name : Name) (other : RunRow) → latest_run name office.tables ≡ Some other → (run_of office.tables other.number ≡ Some other) × (was_selected other ≡ true) × (same_name other.deck.name name ≡ true)
latest-at layout office are name other is =
    let test : RunRow → Bool = λ row. was_selected row && same_name row.deck.name name in
    let Its : RunRow → Type 0 = λ row. (run_of office.tables row.number ≡ Some row) × (test row ≡ true) in
    let its = last-holds Its None (filter test office.tables.runs) other (λ row none. absurd (some-not-none row (sym none)))
    (each-passes (λ (row : RunRow). run_of office.tables row.number ≡ Some row) test office.tables.runs
    (each-by_place (λ (row : RunRow). run_of office.tables row.number ≡ Some row) office.tables.runs (λ place row at. ap (run_of office.tables) (are.kept.events.numbered (suc place) row at) ∙ at))) is in
    (its.0, and-first (was_selected other) _ its.1, and-second (was_selected other) _ its.1)

-- ---- the step of a name

-- a step that a run executed itself, by its number
pub record IsOwnStep (other : RunRow) (name : Name) (number : ℕ) : Type 0 where
  pub owned : OwnedStep
  pub found : step_at other.job number ≡ Some owned
  pub named : same_name owned.step.name name ≡ true
  pub executed : other.earlier_step ≤ number

pub number-at : (other : RunRow) (name : Name) (number : ℕ) → 1 ≤ number → number_named other name ≡ number → IsOwnStep other name number
number-at other name number some is = by (position test items) refl is
  where
    before : ℕ
    before = pred other.earlier_step

    items : List OwnedStep
    items = drop (pred other.earlier_step) other.job.steps

    test : OwnedStep → Bool
    test owned = same_name owned.step.name name

    by : (place : Option ℕ) → position test items ≡ place → option_map_or (λ place. suc (pred other.earlier_step + place)) place 0 ≡ number → IsOwnStep other name number
    by None e same = absurd (omega (arith, some, same))
    by (Some place) e same =
        let first = position-some test items place (sym e) in
        let there = place-passes test items place first.0 first.1 in
        subst (IsOwnStep other name) same
        (record {
          owned = there.0;
          found = sym (drop-get (pred other.earlier_step) place other.job.steps) ∙ there.1;
          named = there.2;
          executed = omega arith;
        })

-- two steps of one name that it executed itself are the same
pub same-number : (other : RunRow) → IsAdmitted other → (one two : ℕ) (first second : OwnedStep) → other.earlier_step ≤ one → other.earlier_step ≤ two → step_at other.job one ≡ Some first → step_at other.job two ≡ Some second → first.step.name ≡ second.step.name → one ≡ two
same-number other was zero two first second from also at there same = absurd (some-not-none first (sym at))
same-number other was (suc one) zero first second from also at there same = absurd (some-not-none second (sym there))
same-number other was (suc one) (suc two) first second from also at there same =
    let its = was.named (suc one) first from at in
    let next = was.named (suc two) second also there in
    ap suc (same-place other.deck.steps (deck-apart was.cards other.deck was.accepted) one two its.0 next.0 its.1 next.1 (its.2 ∙ same ∙ sym next.2))
