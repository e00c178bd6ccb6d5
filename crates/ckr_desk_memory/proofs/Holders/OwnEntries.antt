-- What had been passed on at the entries that a run wrote, and at its step's start: so it stays as the run goes on, and each data set keeps one entry of an identifier.
use Rattle.std.proofs.Common.{◌≡◌, ◌≤◌, ◌<◌, ◌==◌, ℕ, suc, Bool, true, false, cond, if◌then◌else◌, List, [], ◌∷◌, ◌++◌, map, refl, ap, sym, ◌∙◌, subst, Option, Some, None, arith, inr}
use mathlib.Core.Logic.{◌⊎◌}
use Rattle.std.specs.List.{AllByRecursion}
use Rattle.std.specs.Option.{is_none, option_map}
use Rattle.std.proofs.lemmas.Bool.{false≢true}
use Rattle.ckr_base.proofs.Bools.{bool-cases}
use Rattle.ckr_base.proofs.Numbers.{equal-true, number-cases}
use Rattle.ckr_base.proofs.Options.{option_map-some, some-not-none, some-one}
use Rattle.ckr_base.proofs.Sequences.{each-append, each-implies, find-passes}
use Rattle.ckr_entry.specs.declared.point.Passed.{Passed}
use Rattle.ckr_library.proofs.Named.{at-with_changed, name-itself, name-same}
use Rattle.ckr_library.specs.NameMaps.{Name, Named, entry_at, same_name, with_changed}
use Rattle.ckr_meaning.specs.EffectiveJob.{Effective, OwnedStep, is_among, step_at}
use Rattle.ckr_meaning.specs.declared.place.Place.{Place}
use Rattle.ckr_meaning.specs.declared.place.Place.TheVariants.{Before, Opened, Within}
use Rattle.ckr_points.specs.Follows.{is_within, may_start}
use Rattle.ckr_points.specs.Marks.{point_at, with_point}
use Rattle.ckr_points.specs.Restart.{kept_at, place_of, point_restarted, step_in}
use Rattle.ckr_points.specs.Rows.{EntryPoint, KeptEntry, RunRow, StartPoint, TableSet, step_of_run}
use Rattle.ckr_points.specs.Tables.{committed, point_rewritten, with_kept_entry}
use Rattle.ckr_points_invariant.proofs.Marks.Points.{point_at-new, point_at-other}
use Rattle.ckr_points_invariant.proofs.WrittenEntries.Sets.{committed-has}
use Rattle.ckr_desk_memory.proofs.Holders.KeptEntries.{kept-committed, none-kept}
use Rattle.ckr_desk_memory.proofs.Holders.Moves.{GoesOnWithEntries, WasKept, each-through, single-through, was-kept}
use Rattle.ckr_desk_memory.proofs.Invariant.{start-step}
use Rattle.ckr_desk_memory.specs.Holders.{AreSingleEntries, EachKept, IsOwnEntry, IsStartPassed, changed_names, is_at_step, steps_begun}

-- ---- places

pub steps-within : (place : Place) → is_within place ≡ true → steps_begun place ≡ suc (step_in place)
steps-within (Before step) within = absurd (false≢true within)
steps-within (Opened step) within = refl
steps-within (Within step writes) within = refl

pub within-at : (place : Place) → is_within place ≡ true → is_at_step place ≡ true
within-at (Before step) within = absurd (false≢true within)
within-at (Opened step) within = refl
within-at (Within step writes) within = refl

-- a run that starts a step has come to none behind it
started-most : (step : ℕ) (place : Place) → may_start step place ≡ true → steps_begun place ≤ suc step
started-most step (Before number) may = let is = start-step step (Before number) may in omega (arith, is)
started-most step (Opened number) may = let is = start-step step (Opened number) may in omega (arith, is)
started-most step (Within number writes) may = absurd (false≢true may)

-- ---- points

module _ (row next : RunRow) where
  pub passed-as : {step : ℕ} {passed : List Passed} → next.points ≡ row.points → IsStartPassed row step passed → IsStartPassed next step passed
  passed-as {step} {passed} points its = record { start = its.start; at = ap (λ points. point_at points step) points ∙ its.at; same = its.same }

  pub changes-as : (set : Name) (step : ℕ) → next.job ≡ row.job → ((owned : OwnedStep) → step_of_run row step ≡ Some owned → is_among (changed_names row.job.root owned) set ≡ true) → (owned : OwnedStep) → step_of_run next step ≡ Some owned
      → is_among (changed_names next.job.root owned) set ≡ true
  changes-as set step job changes owned found =
      ap (λ (job : Effective). is_among (changed_names job.root owned) set) job ∙ changes owned (ap (λ (job : Effective). step_at job step) (sym job) ∙ found)

  pub own-as : {set : Name} {point : EntryPoint} → next.job ≡ row.job → steps_begun (place_of next) ≡ steps_begun (place_of row) → next.points ≡ row.points → IsOwnEntry row set point → IsOwnEntry next set point
  own-as {set} {point} job begun points its = record {
    first = its.first;
    begun = subst (λ n. point.step < n) (sym begun) its.begun;
    passed = passed-as points its.passed;
    changes = changes-as set point.step job its.changes;
  }

rewritten-at : (step at : ℕ) (points : List StartPoint) (was : StartPoint) → point_at points at ≡ Some was → (now : StartPoint) × (point_at (map (point_rewritten step) points) at ≡ Some now) × (was.passed ≡ now.passed)
rewritten-at step at [] was found = absurd (some-not-none was (sym found))
rewritten-at step at (first ∷ rest) was found = by (first.step == step) (rewritten-at step at rest was)
  where
    here : (point_at rest at ≡ Some was → (now : StartPoint) × (point_at (map (point_rewritten step) rest) at ≡ Some now) × (was.passed ≡ now.passed)) → (point : StartPoint) → point.step ≡ first.step → point.passed ≡ first.passed → (now : StartPoint) × (cond (point.step == at) (Some point) (point_at (map (point_rewritten step) rest) at) ≡ Some now) × (was.passed ≡ now.passed)
    here later point same passed =
        bool-cases (first.step == at)
        (λ its. (
          point,
          ap (λ b. cond b (Some point) (point_at (map (point_rewritten step) rest) at)) (ap (λ n. n == at) same ∙ its),
          ap (λ (o : Option StartPoint). passed_in o) (sym found ∙ ap (λ b. cond b (Some first) (point_at rest at)) its) ∙ sym passed,
        ))
        (λ other.
        let its = later (sym (ap (λ b. cond b (Some first) (point_at rest at)) other) ∙ found) in
        (its.0, ap (λ b. cond b (Some point) (point_at (map (point_rewritten step) rest) at)) (ap (λ n. n == at) same ∙ other) ∙ its.1, its.2))
      where
        passed_in : Option StartPoint → List Passed
        passed_in None = []
        passed_in (Some point) = point.passed

    by : (b : Bool) → (point_at rest at ≡ Some was → (now : StartPoint) × (point_at (map (point_rewritten step) rest) at ≡ Some now) × (was.passed ≡ now.passed)) → (now : StartPoint) × (point_at ((if b then record first { rewritten = true } else first) ∷ map (point_rewritten step) rest) at ≡ Some now) × (was.passed ≡ now.passed)
    by true later = here later (record first { rewritten = true }) refl refl
    by false later = here later first refl refl

-- a rewrite leaves what points have passed on
pub passed-rewritten : (row : RunRow) (step : ℕ) (next : RunRow) {at : ℕ} {passed : List Passed} → next.points ≡ map (point_rewritten step) row.points → IsStartPassed row at passed → IsStartPassed next at passed
passed-rewritten row step next {at} {passed} points its =
    let now = rewritten-at step at row.points its.start its.at in
    record { start = now.0; at = ap (λ points. point_at points at) points ∙ now.1; same = its.same ∙ now.2 }

-- so does a restart at the start of the step
pub passed-restarted : (row next : RunRow) (step : ℕ) (point : StartPoint) {at : ℕ} {passed : List Passed} → next.points ≡ with_point (point_restarted point) row.points → point_at row.points step ≡ Some point → IsStartPassed row at passed → IsStartPassed next at passed
passed-restarted row next step point {at} {passed} points began its =
    number-cases at point.step
    (λ here.
    let number : point.step ≡ step = equal-true point.step step (find-passes (λ (point : StartPoint). point.step == step) row.points point began) in
    let was : its.start ≡ point = some-one its.start point (point_at row.points step) (ap (point_at row.points) (sym (here ∙ number)) ∙ its.at) began in
    record {
      start = point_restarted point;
      at = ap (λ points. point_at points at) points ∙ ap (point_at (with_point (point_restarted point) row.points)) here ∙ point_at-new (point_restarted point) row.points;
      same = its.same ∙ ap (λ (start : StartPoint). start.passed) was;
    })
    (λ apart. record {
      start = its.start;
      at = ap (λ points. point_at points at) points ∙ point_at-other (point_restarted point) row.points at apart ∙ its.at;
      same = its.same;
    })

-- a step that starts has passed on what the run has: where it starts again, what its point had
pub starts-own : (row next : RunRow) (point : StartPoint) → next.job ≡ row.job → next.points ≡ with_point point row.points → steps_begun (place_of next) ≡ suc point.step → may_start point.step (place_of row) ≡ true → point.passed ≡ row.passed
    → (is_at_step (place_of row) ≡ true → IsStartPassed row (step_in (place_of row)) row.passed) → (set : Name) (entry : EntryPoint) → IsOwnEntry row set entry → IsOwnEntry next set entry
starts-own row next point job points steps may same started set entry its = record {
  first = its.first;
  begun = let most = started-most point.step (place_of row) may in omega (arith, most, its.begun, steps);
  passed =
      number-cases entry.step point.step
      (λ here. record {
        start = point;
        at = ap (λ points. point_at points entry.step) points ∙ ap (point_at (with_point point row.points)) here ∙ point_at-new point row.points;
        same = again here (place_of row) refl ∙ sym same;
      })
      (λ apart. record {
        start = its.passed.start;
        at = ap (λ points. point_at points entry.step) points ∙ point_at-other point row.points entry.step apart ∙ its.passed.at;
        same = its.passed.same;
      });
  changes = changes-as row next set entry.step job its.changes;
}
  where
    again : entry.step ≡ point.step → (place : Place) → place_of row ≡ place → entry.passed ≡ row.passed
    again here (Before number) at =
        let step = start-step point.step (Before number) (subst (λ place. may_start point.step place ≡ true) at may) in
        let begun = subst (λ place. entry.step < steps_begun place) at its.begun in
        absurd (omega (arith, begun, here, step))
    again here (Opened number) at =
        let step = start-step point.step (Opened number) (subst (λ place. may_start point.step place ≡ true) at may) in
        let now = started (ap is_at_step at) in
        its.passed.same
        ∙ ap (λ (start : StartPoint). start.passed)
        (some-one its.passed.start now.start (point_at row.points entry.step) its.passed.at (ap (point_at row.points) (here ∙ sym step ∙ ap step_in (sym at)) ∙ now.at))
        ∙ sym now.same
    again here (Within number writes) at = absurd (false≢true (subst (λ place. may_start point.step place ≡ true) at may))

-- ---- entries

pub kept-weaker : (P Q : KeptEntry → Type 0) (sets : Named TableSet) (set : Name) → ((entry : KeptEntry) → P entry → Q entry) → EachKept P sets set → EachKept Q sets set
kept-weaker P Q sets set weaker each table at = each-implies P Q table.entries weaker (each table at)

single-append : (entries : List KeptEntry) (entry : KeptEntry) → AllByRecursion (λ (other : KeptEntry). same_name other.kept.id entry.kept.id ≡ true → ⊥) entries → AreSingleEntries entries → AreSingleEntries (entries ++ entry ∷ [])
single-append [] entry none single = (tt, tt)
single-append (first ∷ rest) entry none single = (
  each-append (λ (other : KeptEntry). same_name other.kept.id first.kept.id ≡ false) rest (entry ∷ []) single.0 (
    bool-cases (same_name entry.kept.id first.kept.id)
        (λ same. absurd (none.0 (ap (λ id. same_name id entry.kept.id) (sym (name-same entry.kept.id first.kept.id same)) ∙ name-itself entry.kept.id)))
        (λ apart. apart),
    tt,
  ),
  single-append rest entry none.1 single.1,
)

-- by a checkpoint a data set keeps one entry more, of another identifier
pub checks-keep : (sets : Named TableSet) (outputs : List Name) (lengths : List ℕ) (set : Name) (entry : KeptEntry) → is_none (kept_at sets set entry.kept.id) ≡ true → (New : Name → KeptEntry → Type 0) → New set entry
    → GoesOnWithEntries sets (with_changed set (with_kept_entry entry) (committed outputs lengths sets)) New
checks-keep sets outputs lengths set entry fresh New new = record {
  each =
      written (λ name table. AllByRecursion (λ (entry : KeptEntry). WasKept sets name entry ⊎ New name entry) table.entries)
      (λ table had. each-append (λ (entry : KeptEntry). WasKept sets set entry ⊎ New set entry) table.entries (entry ∷ []) had.0 (inr new, tt))
      (committed-has (λ name table. AllByRecursion (λ (entry : KeptEntry). WasKept sets name entry ⊎ New name entry) table.entries) (each-through (λ name entry. WasKept sets name entry ⊎ New name entry)) outputs lengths sets (was-kept sets New));
  single = λ single.
      written (λ name table. AreSingleEntries table.entries) (λ table had. single-append table.entries entry had.1 had.0)
      (committed-has (λ name table. AreSingleEntries table.entries) single-through outputs lengths sets single);
}
  where
    behind : Named TableSet
    behind = committed outputs lengths sets

    none : EachKept (λ other. same_name other.kept.id entry.kept.id ≡ true → ⊥) behind set
    none = kept-committed (λ (other : KeptEntry). same_name other.kept.id entry.kept.id ≡ true → ⊥) outputs lengths sets set (none-kept (λ other. ⊥) entry.kept.id sets set fresh)

    written : (E : Name → TableSet → Type 0) → ((table : TableSet) → E set table × AllByRecursion (λ (other : KeptEntry). same_name other.kept.id entry.kept.id ≡ true → ⊥) table.entries → E set (with_kept_entry entry table))
        → ((name : Name) (table : TableSet) → entry_at behind name ≡ Some table → E name table) → (name : Name) (table : TableSet) → entry_at (with_changed set (with_kept_entry entry) behind) name ≡ Some table → E name table
    written E more each name table at =
        bool-cases (same_name name set)
        (λ same.
        let is : name ≡ set = name-same name set same in
        let was = option_map-some (with_kept_entry entry) (entry_at behind name) table (sym (ap (λ b. cond b (option_map (with_kept_entry entry) (entry_at behind name)) (entry_at behind name)) same) ∙ sym (at-with_changed set name (with_kept_entry entry) behind) ∙ at) in
        let there : entry_at behind set ≡ Some was.0 = ap (entry_at behind) (sym is) ∙ was.1 in
        subst (λ name. E name table) (sym is) (subst (E set) was.2 (more was.0 (each set was.0 there, none was.0 there))))
        (λ apart. each name table (sym (ap (λ b. cond b (option_map (with_kept_entry entry) (entry_at behind name)) (entry_at behind name)) apart) ∙ sym (at-with_changed set name (with_kept_entry entry) behind) ∙ at))
