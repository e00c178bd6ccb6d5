-- A run has passed on at most one data set for each DD of its steps.
use Rattle.std.proofs.Common.{◌≡◌, ◌≤◌, ◌<◌, ◌+◌, ◌*◌, ℕ, zero, suc, pred, Bool, true, false, not, List, [], ◌∷◌, take, length, ap, sym, ◌∙◌, subst, Option, Some, None, arith, length-append}
use Rattle.std.specs.List.{AllByRecursion, cons_option}
use Rattle.std.specs.Option.{option_map}
use Rattle.std.proofs.lemmas.List.{length-map}
use Rattle.std.proofs.lemmas.List.Sums.{count_by-le-length, length-filter}
use Rattle.ckr_entry.specs.declared.point.Passed.{Passed}
use Rattle.ckr_jcl.specs.declared.deck.After.{After}
use Rattle.ckr_jcl.specs.declared.deck.After.TheVariants.{Delete, Keep, Pass, Catlg, Uncatlg}
use Rattle.ckr_jcl.specs.declared.deck.Dd.{Dd}
use Rattle.ckr_library.specs.NameMaps.{Name, same_name}
use Rattle.ckr_meaning.specs.LibrarySet.{Library, SetWays, record_ways}
use Rattle.ckr_meaning.specs.Dispositions.{Disposal, Stock, disposed_all, disposed_one, passed_after, unpassed}
use Rattle.ckr_meaning.specs.EffectiveJob.{Effective, OwnedStep, disposal_of, disposals_of, name_of, placed_from, placed_one}
use Rattle.ckr_meaning.specs.JobRun.{Walk, is_bypassed, start_in, step_walked, walk_before, walk_from, walked, walked_by, walked_one}
use Rattle.ckr_meaning.specs.StepRun.{StepStart, disposed_at, placed_at, within_at, work_at}
use Rattle.ckr_points.specs.Rows.{RunRow}
use Rattle.ckr_points_invariant.specs.Invariant.{step_now}
use Rattle.ckr_desk_turn.specs.Desk.{DeskModel, DeskStep}
use Rattle.ckr_desk_turn.specs.Invariant.{IsAdmitted, IsDesk, IsGoing}
use Rattle.ckr_desk_turn.proofs.AdmittedSteps.{job-few, steps-few}
use Rattle.ckr_desk_turn.proofs.NextEvents.WithinStep.{by-step}
use Rattle.ckr_desk_turn.proofs.OtherRuns.{row-admitted}
use Rattle.ckr_desk_turn.proofs.RunningSteps.{going-within}

-- ---- dispositions

unpassed-few : (name : Name) (passed : List Passed) → length (unpassed name passed) ≤ length passed
unpassed-few name passed =
    let stays : Passed → Bool = λ one. not (same_name name one.name) in
    subst (λ n. n ≤ length passed) (sym (length-filter stays passed)) (count_by-le-length stays passed)

-- at most the name that PASS enters comes to the list
passed_after-few : (after : After) (name : Name) (made : Bool) (passed : List Passed) → length (passed_after after name made passed) ≤ length passed + 1
passed_after-few Pass name made passed = omega (arith, unpassed-few name passed, length-append (unpassed name passed) (record { name = name; made = made } ∷ []))
passed_after-few Delete name made passed = omega (arith, unpassed-few name passed)
passed_after-few Keep name made passed = omega (arith, unpassed-few name passed)
passed_after-few Catlg name made passed = omega (arith, unpassed-few name passed)
passed_after-few Uncatlg name made passed = omega (arith, unpassed-few name passed)

disposed_all-few : {X : Type 0} (ways : SetWays X) (disposals : List Disposal) (standing : Stock X) → length (disposed_all ways disposals standing).passed ≤ length standing.passed + length disposals
disposed_all-few ways [] standing = omega arith
disposed_all-few ways (disposal ∷ disposals) standing =
    omega (arith, disposed_all-few ways disposals (disposed_one ways disposal standing), passed_after-few disposal.after disposal.name disposal.made standing.passed)

-- ---- a step

placed_from-few : {X : Type 0} (ways : SetWays X) (standing : Stock X) (root number : ℕ) (owned : OwnedStep) (dds : List Dd) → length (placed_from ways standing root owned number dds) ≤ length dds
placed_from-few ways standing root number owned [] = omega arith
placed_from-few ways standing root number owned (dd ∷ dds) = by (name_of root owned dd) (placed_from-few ways standing root (suc number) owned dds)
  where
    by : (name : Option Name) → length (placed_from ways standing root owned (suc number) dds) ≤ length dds
        → length (cons_option (option_map (placed_one ways standing number dd) name) (placed_from ways standing root owned (suc number) dds)) ≤ suc (length dds)
    by None few = omega (arith, few)
    by (Some name) few = omega (arith, few)

step_walked-few : (start : StepStart) (walk : Walk) → length (step_walked start walk).standing.passed ≤ length start.standing.passed + length start.owned.step.dds
unfolding step_walked disposed_at placed_at
step_walked-few start walk =
    omega (
      arith,
      disposed_all-few record_ways (disposals_of start.earlier false (placed_at start)) (record { sets = within_at start (length (work_at start).writes); passed = start.standing.passed }),
      length-map (placed_at start) (disposal_of start.earlier false),
      placed_from-few record_ways start.standing start.root 1 start.owned start.owned.step.dds,
    )

walked_one-few : (root number : ℕ) (owned : OwnedStep) (walk : Walk) → length (walked_one root number owned walk).standing.passed ≤ length walk.standing.passed + length owned.step.dds
unfolding walked_one
walked_one-few root number owned walk = by (is_bypassed walk.rcs owned)
  where
    by : (bypassed : Bool) → length (walked_by bypassed (start_in root number owned walk) walk).standing.passed ≤ length walk.standing.passed + length owned.step.dds
    by true = omega arith
    by false = step_walked-few (start_in root number owned walk) walk

-- ---- steps of an accepted deck: at most 64, each of at most 16 DDs

-- a walk over the first of these steps
walked-few : (root number count : ℕ) (steps : List OwnedStep) (walk : Walk) → AllByRecursion (λ (owned : OwnedStep). length owned.step.dds ≤ 16) steps
    → length (walked root number (take count steps) walk).standing.passed ≤ length walk.standing.passed + 16 * length steps
walked-few root number zero steps walk few = omega arith
walked-few root number (suc count) [] walk few = omega arith
walked-few root number (suc count) (owned ∷ steps) walk few =
    let next : Walk = walked_one root number owned walk in
    omega (arith, walked-few root (suc number) count steps next few.1, walked_one-few root number owned walk, few.0)

walk_before-few : (row : RunRow) → IsAdmitted row → (library : Library) (number : ℕ) → length (walk_before row.job library number).standing.passed ≤ 1024
unfolding walk_before
walk_before-few row was library number = omega (arith, walked-few row.job.root 1 (pred number) row.job.steps (walk_from library) (steps-few row was), job-few row was)

-- ---- a running step

pub passed-few : (desk : DeskModel) (on : DeskStep) (going : IsGoing desk.office on) → IsDesk desk → length going.row.passed < 65536
passed-few desk on going is =
    by-step desk is on.run going.row going.number going.committed going.start (going-within desk.office on going)
    (λ leg owned running same spaced.
    let was : IsAdmitted going.row = row-admitted desk is on.run going.row going.row_at in
    let place = is.kept.events.places on.run going.row leg running.holder in
    let passed : going.row.passed ≡ (walk_before going.row.job leg.start (step_now going.row)).standing.passed =
    place.passed ∙ ap (λ (job : Effective). (walk_before job leg.start (step_now going.row)).standing.passed) place.job in
    omega (arith, ap length passed, walk_before-few going.row was leg.start (step_now going.row)))
