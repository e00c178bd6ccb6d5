-- What the tests of a run's row tell of it, and what its points and its passed list keep.
use Rattle.std.proofs.Common.{◌≡◌, ◌==◌, ◌≤◌, ℕ, Bool, true, false, ◌&&◌, not, if◌then◌else◌, List, [], ◌∷◌, map, refl, ap, sym, ◌∙◌, subst, Option, Some, None}
use Rattle.std.specs.Prelude.{nat_lt}
use Rattle.std.specs.List.{AllByRecursion}
use Rattle.std.specs.Option.{option_map, option_map_or}
use Rattle.std.proofs.lemmas.Bool.{false≢true}
use Rattle.std.proofs.lemmas.Option.{same_Some}
use Rattle.ckr_base.proofs.Bools.{and-first, bool-cases}
use Rattle.ckr_base.proofs.Numbers.{nat_le-true}
use Rattle.ckr_base.proofs.Options.{some-not-none}
use Rattle.ckr_entry.specs.declared.point.Passed.{Passed}
use Rattle.ckr_library.specs.NameMaps.{Name, Named}
use Rattle.ckr_meaning.specs.EffectiveJob.{is_among}
use Rattle.ckr_points.specs.declared.run.RunState.{RunState}
use Rattle.ckr_points.specs.declared.run.RunState.TheVariants.{Queued, On, Held as HeldRun, Released as ReleasedRun, Ended as EndedRun, Denied as DeniedRun, Purged as PurgedRun}
use Rattle.ckr_points.specs.Follows.{is_empty, is_in_state, is_running, is_within, state_number}
use Rattle.ckr_points.specs.Office.{is_holder, passed_made}
use Rattle.ckr_points.specs.Marks.{with_point, without_passed}
use Rattle.ckr_points.specs.Restart.{place_of, step_in}
use Rattle.ckr_points.specs.Rows.{EffectPoint, RunRow, StartPoint, TableSet, TablesModel, run_of}
use Rattle.ckr_points.specs.Tables.{effect_rewritten, point_rewritten}
use Rattle.ckr_points.specs.RuleCases.{is_ended}
use Rattle.ckr_points_invariant.proofs.Holders.Rows.{queued-is}
use Rattle.ckr_points_invariant.proofs.Library.PassedList.{made-without}
use Rattle.ckr_points_invariant.proofs.Steps.Events.{on-holds}
use Rattle.ckr_desk_memory.specs.Invariant.{IsPlacedRow}
use Rattle.ckr_desk_memory.proofs.Starts.Steps.{row-among}
use Rattle.ckr_desk_memory.specs.Holders.{PassesOnOwn}

-- ---- tests

pub by-some : {X : Type 0} (Q : TablesModel → Type 0) (o : Option X) (change : X → TablesModel) (none : TablesModel) (x : X) → o ≡ Some x → Q (change x) → Q (option_map_or change o none)
by-some Q o change none x at one = subst (λ o. Q (option_map_or change o none)) (sym at) one

pub empty-is : {A : Type 0} (xs : List A) → is_empty xs ≡ true → xs ≡ []
empty-is [] e = refl
empty-is (first ∷ rest) e = absurd (false≢true e)

pub running-holds : (row : RunRow) → is_running row ≡ true → is_holder row.state ≡ true
running-holds row runs = on-holds row.state (and-first (is_in_state On row) (is_within (place_of row)) runs)

pub queued-free : (state : RunState) → (state_number state == 1) ≡ true → is_holder state ≡ false
queued-free Queued e = refl
queued-free On e = absurd (false≢true e)
queued-free HeldRun e = absurd (false≢true e)
queued-free ReleasedRun e = absurd (false≢true e)
queued-free EndedRun e = refl
queued-free DeniedRun e = refl
queued-free PurgedRun e = refl

-- a run that is queued hasn't ended
pub queued-on : (row : RunRow) → is_in_state Queued row ≡ true → is_ended row.state ≡ false
queued-on row queued = ap is_ended (queued-is row.state queued)

-- a run executes the step that it is before or in
pub executes-step : (tables : TablesModel) (job : ℕ) (row : RunRow) → AllByRecursion IsPlacedRow tables.runs → run_of tables job ≡ Some row → row.earlier_step ≤ step_in (place_of row)
executes-step tables job row placed at = nat_le-true row.earlier_step (step_in (place_of row)) (row-among IsPlacedRow tables job row placed at).from

-- ---- what is passed on

-- what a run has lost doesn't count as passed on
pub unlost : (lost : List Name) (passed : List Passed) (name : Name) → is_among lost name ≡ false → is_among (passed_made (without_passed lost passed)) name ≡ false → is_among (passed_made passed) name ≡ false
unlost lost passed name here none = ap (λ b. not b && is_among (passed_made passed) name) (sym here) ∙ sym (made-without lost passed name) ∙ none

pub still-made : (lost : List Name) (passed later : List Passed) (name : Name) → (is_among (passed_made passed) name ≡ false → is_among (passed_made later) name ≡ false) → is_among (passed_made (without_passed lost passed)) name ≡ false
    → is_among (passed_made (without_passed lost later)) name ≡ false
still-made lost passed later name more none =
    made-without lost later name
    ∙ bool-cases (is_among lost name)
    (λ gone. ap (λ b. not b && is_among (passed_made later) name) gone)
    (λ here. ap (λ b. not b && is_among (passed_made later) name) here ∙ more (unlost lost passed name here none))

-- ---- points

pub points-with : (P : StartPoint → Type 0) (point : StartPoint) (points : List StartPoint) → P point → AllByRecursion P points → AllByRecursion P (with_point point points)
points-with P point [] one each = (one, tt)
points-with P point (first ∷ rest) one each = by (points-with P point rest one each.1) (point.step == first.step) (nat_lt point.step first.step)
  where
    by : AllByRecursion P (with_point point rest) → (same before : Bool) → AllByRecursion P (if same then point ∷ rest else (if before then point ∷ first ∷ rest else first ∷ with_point point rest))
    by later true before = (one, each.1)
    by later false true = (one, each)
    by later false false = (each.0, later)

pub points-rewritten : (P : List Passed → Type 0) (step : ℕ) (points : List StartPoint) → AllByRecursion (λ (point : StartPoint). P point.passed) points → AllByRecursion (λ (point : StartPoint). P point.passed) (map (point_rewritten step) points)
points-rewritten P step [] each = tt
points-rewritten P step (first ∷ rest) each = (by (first.step == step), points-rewritten P step rest each.1)
  where
    by : (same : Bool) → P (if same then record first { rewritten = true } else first).passed
    by true = each.0
    by false = each.0

pub rewritten-effect : {A : Type 0} (before : Option EffectPoint) (effect : EffectPoint) → option_map effect_rewritten before ≡ Some effect → ((was : EffectPoint) → before ≡ Some was → effect_rewritten was ≡ effect → A) → A
rewritten-effect None effect is use_it = absurd (some-not-none effect (sym is))
rewritten-effect (Some was) effect is use_it = use_it was refl (same_Some (effect_rewritten was) effect is)

-- a run that holds nothing has no checkpoint in effect
pub no-effect : {A : Type 0} {sets : Named TableSet} {row : RunRow} → PassesOnOwn sets row → is_holder row.state ≡ false → (effect : EffectPoint) → row.in_effect ≡ Some effect → A
no-effect own free effect is = absurd (false≢true (sym free ∙ (own.effect effect is).holds))
