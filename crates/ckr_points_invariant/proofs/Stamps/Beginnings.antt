-- At each place to which a job comes, the records of a data set begin what the step of its stamp writes.
use Rattle.std.proofs.Common.{◌≡◌, ◌≢◌, ◌≤◌, ◌<◌, inl, inr, ℕ, zero, suc, pred, ◌+◌, Bool, true, false, cond, if◌then◌else◌, ◌&&◌, List, [], ◌∷◌, ◌++◌, take, length, refl, ap, sym, ◌∙◌, subst, Option, Some, None, arith}
use Rattle.std.specs.Prelude.{◌==◌, slice_get}
use Rattle.std.specs.Option.{option_map, option_map_or}
use Rattle.std.proofs.lemmas.Bool.{false≢true}
use Rattle.std.proofs.lemmas.Option.{same_Some}
use Rattle.ckr_base.proofs.Bools.{bool-cases}
use Rattle.ckr_base.proofs.Numbers.{equal-apart, equal-true}
use Rattle.ckr_base.proofs.Options.{option-cases, some-not-none}
use Rattle.ckr_base.proofs.Sequences.{length-take, take-next}
use Rattle.ckr_jcl.specs.declared.deck.After.{After}
use Rattle.ckr_jcl.specs.declared.deck.After.TheVariants.{Delete, Keep, Pass, Catlg, Uncatlg}
use Rattle.ckr_entry.specs.declared.point.Passed.{Passed}
use Rattle.ckr_library.specs.declared.sets.Stamp.{Stamp}
use Rattle.ckr_library.specs.NameMaps.{Name, same_name, entry_at, with_changed, without_entry}
use Rattle.ckr_library.proofs.Named.{at-with_changed, at-without_entry}
use Rattle.ckr_meaning.specs.LibrarySet.{LibrarySet, Library, record_ways}
use Rattle.ckr_meaning.specs.Dispositions.{Disposal, Stock, disposed_all, disposed_one, passed_ended, sets_after}
use Rattle.ckr_meaning.specs.EffectiveJob.{Effective, OwnedStep, disposals_of, flaws_in, step_at}
use Rattle.ckr_meaning.specs.declared.place.Place.{Place}
use Rattle.ckr_meaning.specs.declared.place.Place.TheVariants.{Before, Opened, Within}
use Rattle.ckr_meaning.specs.StepRun.{StepStart, disposed_at, opened_at, placed_at, within_at, work_at}
use Rattle.ckr_meaning.specs.JobRun.{Walk, all_go_on, at, end_in, is_bypassed, start_at, start_in, step_walked, walk_before, walk_from, walked, walked_by, walked_one, with_sets}
use Rattle.ckr_meaning.proofs.JobEnds.{all_go_on-step, go_on_unless}
use Rattle.ckr_meaning.proofs.Walks.{walk_before-next}
use Rattle.ckr_points.specs.Payload.{is_formed, is_formed_step}
use Rattle.ckr_points_invariant.specs.Invariant.{AreBegun, HasBegun, IsReached, library_at_stamp}
use Rattle.ckr_points_invariant.specs.RunningSteps.{start_of}
use Rattle.ckr_points.specs.Office.{Leg, Office, leg_of}
use Rattle.ckr_points.specs.Soundness.{stamped_writes}
use Rattle.ckr_points_invariant.proofs.Holders.Rows.{step-all}
use Rattle.ckr_points_invariant.proofs.Stamps.Steps.{IsOfStep, Outcome, opened-outcome, within-outcome}
use Rattle.ckr_points_invariant.proofs.Steps.Walks.{at-before, at-opened, at-within, start_at-of}
use Rattle.ckr_points_invariant.proofs.PassedNames.Walks.{flawless-on}

-- ---- dispositions and the end leave records and stamps

-- a data set that is another one, its catalog mark aside
pub record IsAsBefore (old set : LibrarySet) : Type 0 where
  pub stamp : old.stamp ≡ set.stamp
  pub content : old.content ≡ set.content
  pub lrecl : old.lrecl ≡ set.lrecl
  pub space : old.space ≡ set.space
  pub records : old.records ≡ set.records

as_before : (set : LibrarySet) → IsAsBefore set set
as_before set = record { stamp = refl; content = refl; lrecl = refl; space = refl; records = refl }

abbrev CameFrom : Name → Library → LibrarySet → Type 0
CameFrom name library set = (old : LibrarySet) × (entry_at library name ≡ Some old) × IsAsBefore old set

marked_from : (name other : Name) (on : Bool) (library : Library) (set : LibrarySet) → entry_at (with_changed other (record_ways.marked on) library) name ≡ Some set → CameFrom name library set
marked_from name other on library set e =
    by (same_name name other) (entry_at library name) refl (sym (at-with_changed other name (record_ways.marked on) library) ∙ e)
  where
    by : (same : Bool) (entry : Option LibrarySet) → entry_at library name ≡ entry → cond same (option_map (record_ways.marked on) entry) entry ≡ Some set → CameFrom name library set
    by true None e its = absurd (some-not-none set (sym its))
    by true (Some old) e its = (old, e, subst (IsAsBefore old) (same_Some (record_ways.marked on old) set its) (record { stamp = refl; content = refl; lrecl = refl; space = refl; records = refl }))
    by false entry e its = (set, e ∙ its, as_before set)

without_from : (name other : Name) (library : Library) (set : LibrarySet) → entry_at (without_entry other library) name ≡ Some set → entry_at library name ≡ Some set
without_from name other library set e = by (same_name name other) (sym (at-without_entry other name library) ∙ e)
  where
    by : (same : Bool) → cond same None (entry_at library name) ≡ Some set → entry_at library name ≡ Some set
    by true its = absurd (some-not-none set (sym its))
    by false its = its

after_from : (name : Name) (after : After) (other : Name) (library : Library) (set : LibrarySet) → entry_at (sets_after record_ways after other library) name ≡ Some set → CameFrom name library set
after_from name Delete other library set e = (set, without_from name other library set e, as_before set)
after_from name Keep other library set e = (set, e, as_before set)
after_from name Pass other library set e = (set, e, as_before set)
after_from name Catlg other library set e = marked_from name other true library set e
after_from name Uncatlg other library set e = marked_from name other false library set e

disposed_from : (name : Name) (disposals : List Disposal) (standing : Stock LibrarySet) (set : LibrarySet) → entry_at (disposed_all record_ways disposals standing).sets name ≡ Some set → CameFrom name standing.sets set
disposed_from name [] standing set e = (set, e, as_before set)
disposed_from name (one ∷ rest) standing set e =
    let later = disposed_from name rest (disposed_one record_ways one standing) set e in
    let first = after_from name one.after one.name standing.sets later.0 later.1 in
    (first.0, first.1, record { stamp = first.2.stamp ∙ later.2.stamp; content = first.2.content ∙ later.2.content; lrecl = first.2.lrecl ∙ later.2.lrecl; space = first.2.space ∙ later.2.space; records = first.2.records ∙ later.2.records })

pub disposed-from : (start : StepStart) (abnormal : Bool) (library : Library) (name : Name) (set : LibrarySet) → entry_at (disposed_at start abnormal library).sets name ≡ Some set → (old : LibrarySet) × (entry_at library name ≡ Some old) × IsAsBefore old set
unfolding disposed_at
disposed-from start abnormal library name set e = disposed_from name (disposals_of start.earlier abnormal (placed_at start)) (record { sets = library; passed = start.standing.passed }) set e

pub ended-from : (passed : List Passed) (library : Library) (name : Name) (set : LibrarySet) → entry_at (passed_ended passed library) name ≡ Some set → entry_at library name ≡ Some set
ended-from [] library name set e = e
ended-from (one ∷ rest) library name set e =
    by one.made (ended-from rest _ name set e)
  where
    by : (goes : Bool) → entry_at (if goes then without_entry one.name library else library) name ≡ Some set → entry_at library name ≡ Some set
    by true e = without_from name one.name library set e
    by false e = e

pub begun-as : (office : Office) (name : Name) (old set : LibrarySet) → IsAsBefore old set → HasBegun office name old → HasBegun office name set
begun-as office name old set same begun = record {
  last = begun.last;
  found = ap (λ stamp. entry_at (library_at_stamp office stamp) name) (sym same.stamp) ∙ begun.found;
  content = begun.content ∙ same.content;
  lrecl = begun.lrecl ∙ same.lrecl;
  space = begun.space ∙ same.space;
  begins = ap (λ records. take (length records) begun.last.records) (sym same.records) ∙ begun.begins ∙ same.records;
}

-- ---- steps that go on

-- where steps and one more go on, the steps do, and the last one has no end
all_go_on-less : (root number : ℕ) (front : List OwnedStep) (owned : OwnedStep) (walk : Walk) → all_go_on root number (front ++ owned ∷ []) walk ≡ true → (all_go_on root number front walk ≡ true) × (end_in root (number + length front) owned (walked root number front walk) ≡ None)
all_go_on-less root number [] owned walk goes =
    (refl, ap (λ n. end_in root n owned walk) (let e : number + 0 ≡ number = omega arith in e) ∙ by (end_in root number owned walk) (sym (all_go_on-step root number owned [] walk) ∙ goes))
  where
    by : (place : Option Place) → go_on_unless place true ≡ true → place ≡ None
    by None e = refl
    by (Some place) e = absurd (false≢true e)
all_go_on-less root number (first ∷ front) owned walk goes =
    by (end_in root number first walk) refl (sym (all_go_on-step root number first (front ++ owned ∷ []) walk) ∙ goes) (λ others. all_go_on-less root (suc number) front owned (walked_one root number first walk) others)
  where
    by : (place : Option Place) → end_in root number first walk ≡ place → go_on_unless place (all_go_on root (suc number) (front ++ owned ∷ []) (walked_one root number first walk)) ≡ true → (all_go_on root (suc number) (front ++ owned ∷ []) (walked_one root number first walk) ≡ true → (all_go_on root (suc number) front (walked_one root number first walk) ≡ true) × (end_in root (suc number + length front) owned (walked root (suc number) front (walked_one root number first walk)) ≡ None)) → (all_go_on root number (first ∷ front) walk ≡ true) × (end_in root (number + suc (length front)) owned (walked root (suc number) front (walked_one root number first walk)) ≡ None)
    by (Some place) e goes more = absurd (false≢true goes)
    by None e goes more =
        let its = more goes in (
          all_go_on-step root number first front walk ∙ ap (λ place. go_on_unless place (all_go_on root (suc number) front (walked_one root number first walk))) e ∙ its.0,
          ap (λ n. end_in root n owned (walked root (suc number) front (walked_one root number first walk))) (let s : number + suc (length front) ≡ suc number + length front = omega arith in s) ∙ its.1,
        )

pub take-past : (count : ℕ) (steps : List OwnedStep) → slice_get steps count ≡ None → take (suc count) steps ≡ take count steps
take-past zero [] none = refl
take-past (suc count) [] none = refl
take-past zero (first ∷ rest) none = absurd (some-not-none first none)
take-past (suc count) (first ∷ rest) none = ap (λ steps. first ∷ steps) (take-past count rest none)

pub opened-none : (job : Effective) (library : Library) (step : ℕ) → step_at job step ≡ None → at job library (Opened step) ≡ (walk_before job library step).standing
unfolding at start_at
opened-none job library step none =
    ap (λ (o : Option OwnedStep). option_map_or (λ (start : StepStart). with_sets (opened_at start) start.standing) (option_map (λ owned. start_in job.root step owned (walk_before job library step)) o) (walk_before job library step).standing) none

pub within-none : (job : Effective) (library : Library) (step writes : ℕ) → step_at job step ≡ None → at job library (Within step writes) ≡ (walk_before job library step).standing
unfolding at start_at
within-none job library step writes none =
    ap (λ (o : Option OwnedStep). option_map_or (λ (start : StepStart). with_sets (within_at start writes) start.standing) (option_map (λ owned. start_in job.root step owned (walk_before job library step)) o) (walk_before job library step).standing) none

-- ---- a job of a run that owns its steps

module _ (office : Office) (leg : Leg) (number : ℕ) (led : leg_of office number ≡ Some leg) (formed : is_formed leg.job ≡ true)
    (owns : (step : ℕ) (owned : OwnedStep) → step_at leg.job step ≡ Some owned → owned.owner ≡ number)
    (begun : AreBegun office leg.start) (new : (name : Name) (set : LibrarySet) → entry_at leg.start name ≡ Some set → set.stamp.run ≢ number) where
  -- a data set before a step
  record Sits (step : ℕ) (name : Name) (set : LibrarySet) : Type 0 where
    begins : HasBegun office name set
    early : set.stamp.run ≡ number → set.stamp.step < step

  of_step : (step : ℕ) (owned : OwnedStep) (name : Name) (set : LibrarySet) → step_at leg.job step ≡ Some owned → IsOfStep (start_of leg.job leg.start step owned) name set → HasBegun office name set
  of_step step owned name set found its =
      let start : StepStart = start_of leg.job leg.start step owned in
      record {
        last = its.last;
        found =
            ap (λ library. entry_at library name) (
            ap (λ n. option_map_or (λ (leg : Leg). option_map_or (λ start. within_at start (stamped_writes (work_at start).writes set.stamp.rewrites)) (start_at leg.job leg.start set.stamp.step) []) (leg_of office n) []) (its.run ∙ owns step owned found)
            ∙ ap (λ (o : Option Leg). option_map_or (λ (leg : Leg). option_map_or (λ start. within_at start (stamped_writes (work_at start).writes set.stamp.rewrites)) (start_at leg.job leg.start set.stamp.step) []) o []) led
            ∙ ap (λ n. option_map_or (λ start. within_at start (stamped_writes (work_at start).writes set.stamp.rewrites)) (start_at leg.job leg.start n) []) its.step
            ∙ ap (λ (o : Option StepStart). option_map_or (λ start. within_at start (stamped_writes (work_at start).writes set.stamp.rewrites)) o []) (start_at-of leg.job leg.start step owned found))
            ∙ its.found;
        content = its.content;
        lrecl = its.lrecl;
        space = its.space;
        begins = its.begins;
      }

  outcome_sits : (step : ℕ) (owned : OwnedStep) (name : Name) (set : LibrarySet) → step_at leg.job step ≡ Some owned → ((set : LibrarySet) → entry_at (walk_before leg.job leg.start step).standing.sets name ≡ Some set → Sits step name set) → Outcome (start_of leg.job leg.start step owned) name set → Sits (suc step) name set
  outcome_sits step owned name set found sits outcome =
      elim outcome [
        | inl same ↦ record { begins = (sits set same).begins; early = λ mine. let low : set.stamp.step < step = (sits set same).early mine in omega (arith, low) }
        | inr its ↦ record { begins = of_step step owned name set found its; early = λ mine. let e : set.stamp.step ≡ step = its.step in omega (arith, e) }
      ]

  fresh_so : (step : ℕ) (owned : OwnedStep) (name : Name) → step_at leg.job step ≡ Some owned → ((set : LibrarySet) → entry_at (walk_before leg.job leg.start step).standing.sets name ≡ Some set → Sits step name set) → (set : LibrarySet) → entry_at (walk_before leg.job leg.start step).standing.sets name ≡ Some set → (set.stamp.run == owned.owner && set.stamp.step == step) ≡ false
  fresh_so step owned name found sits set e =
      bool-cases (set.stamp.run == owned.owner)
      (λ mine.
      let low : set.stamp.step < step = (sits set e).early (equal-true set.stamp.run owned.owner mine ∙ owns step owned found) in
      ap (λ b. b && set.stamp.step == step) mine ∙ equal-apart set.stamp.step step (λ same. absurd (omega (arith, low, same))))
      (λ other. ap (λ b. b && set.stamp.step == step) other)

  formed_step : (step : ℕ) (owned : OwnedStep) → step_at leg.job step ≡ Some owned → is_formed_step leg.job.root owned ≡ true
  formed_step step owned found = step-all (is_formed_step leg.job.root) leg.job step owned formed found

  -- behind a step that isn't bypassed
  walked_sits : (step : ℕ) (owned : OwnedStep) → step_at leg.job step ≡ Some owned → ((name : Name) (set : LibrarySet) → entry_at (walk_before leg.job leg.start step).standing.sets name ≡ Some set → Sits step name set) → flaws_in (placed_at (start_of leg.job leg.start step owned)) ≡ [] → (name : Name) (set : LibrarySet) → entry_at (step_walked (start_of leg.job leg.start step owned) (walk_before leg.job leg.start step)).standing.sets name ≡ Some set → Sits (suc step) name set
  unfolding step_walked
  walked_sits step owned found sits flawless name set e =
      let start : StepStart = start_of leg.job leg.start step owned in
      let old = disposed-from start false (within_at start (length (work_at start).writes)) name set e in
      let its : Sits (suc step) name old.0 =
      outcome_sits step owned name old.0 found (sits name)
      (within-outcome start name (formed_step step owned found) flawless (fresh_so step owned name found (sits name)) (length (work_at start).writes) old.0 (omega arith) old.1)
      in
      record {
        begins = begun-as office name old.0 set old.2 its.begins;
        early = λ mine. subst (λ (stamp : Stamp). stamp.step < suc step) old.2.stamp (its.early (ap (λ (stamp : Stamp). stamp.run) old.2.stamp ∙ mine));
      }

  behind_sits : (before : ℕ) (owned : OwnedStep) → step_at leg.job (suc before) ≡ Some owned → ((name : Name) (set : LibrarySet) → entry_at (walk_before leg.job leg.start (suc before)).standing.sets name ≡ Some set → Sits (suc before) name set) → end_in leg.job.root (suc before) owned (walk_before leg.job leg.start (suc before)) ≡ None → (name : Name) (set : LibrarySet) → entry_at (walked_one leg.job.root (suc before) owned (walk_before leg.job leg.start (suc before))).standing.sets name ≡ Some set → Sits (suc (suc before)) name set
  unfolding walked_one
  behind_sits before owned found sits none name set e = by (is_bypassed (walk_before leg.job leg.start (suc before)).rcs owned) refl e
    where
      by : (bypassed : Bool) → is_bypassed (walk_before leg.job leg.start (suc before)).rcs owned ≡ bypassed → entry_at (walked_by bypassed (start_of leg.job leg.start (suc before) owned) (walk_before leg.job leg.start (suc before))).standing.sets name ≡ Some set → Sits (suc (suc before)) name set
      by true how e =
          let its : Sits (suc before) name set = sits name set e in
          record { begins = its.begins; early = λ mine. let low : set.stamp.step < suc before = its.early mine in omega (arith, low) }
      by false how e = walked_sits (suc before) owned found sits (flawless-on leg.job.root (suc before) owned (walk_before leg.job leg.start (suc before)) none how) name set e

  -- before each step to which the job comes
  before_sits : (before : ℕ) → all_go_on leg.job.root 1 (take before leg.job.steps) (walk_from leg.start) ≡ true → (name : Name) (set : LibrarySet) → entry_at (walk_before leg.job leg.start (suc before)).standing.sets name ≡ Some set → Sits (suc before) name set
  unfolding walk_before
  before_sits zero goes name set e = record { begins = begun name set e; early = λ mine. absurd (new name set e mine) }
  before_sits (suc before) goes name set e = by (step_at leg.job (suc before)) refl (λ goes. before_sits before goes)
    where
      by : (step : Option OwnedStep) → step_at leg.job (suc before) ≡ step → (all_go_on leg.job.root 1 (take before leg.job.steps) (walk_from leg.start) ≡ true → (name : Name) (set : LibrarySet) → entry_at (walk_before leg.job leg.start (suc before)).standing.sets name ≡ Some set → Sits (suc before) name set) → Sits (suc (suc before)) name set
      by None none earlier =
          let same : take (suc before) leg.job.steps ≡ take before leg.job.steps = take-past before leg.job.steps none in
          let its : Sits (suc before) name set = earlier (ap (λ steps. all_go_on leg.job.root 1 steps (walk_from leg.start)) (sym same) ∙ goes) name set (ap (λ steps. entry_at (walked leg.job.root 1 steps (walk_from leg.start)).standing.sets name) (sym same) ∙ e) in
          record { begins = its.begins; early = λ mine. let low : set.stamp.step < suc before = its.early mine in omega (arith, low) }
      by (Some owned) found earlier =
          let parts = all_go_on-less leg.job.root 1 (take before leg.job.steps) owned (walk_from leg.start) (ap (λ steps. all_go_on leg.job.root 1 steps (walk_from leg.start)) (sym (take-next before leg.job.steps owned found)) ∙ goes) in
          let none : end_in leg.job.root (suc before) owned (walk_before leg.job leg.start (suc before)) ≡ None = ap (λ n. end_in leg.job.root n owned (walked leg.job.root 1 (take before leg.job.steps) (walk_from leg.start))) (let long : length (take before leg.job.steps) ≡ before = length-take before leg.job.steps owned found in let s : suc before ≡ 1 + length (take before leg.job.steps) = omega (arith, long) in s) ∙ parts.1 in
          behind_sits before owned found (earlier parts.0) none name set (ap (λ (w : Walk). entry_at w.standing.sets name) (sym (walk_before-next leg.job leg.start before owned found)) ∙ e)

  before_so : (step : ℕ) → 1 ≤ step → all_go_on leg.job.root 1 (take (pred step) leg.job.steps) (walk_from leg.start) ≡ true → (name : Name) (set : LibrarySet) → entry_at (walk_before leg.job leg.start step).standing.sets name ≡ Some set → Sits step name set
  before_so zero begun goes name set e = absurd (omega (arith, begun))
  before_so (suc before) begun goes name set e = before_sits before goes name set e

  -- at each place
  pub places-begun : (place : Place) → IsReached leg place → AreBegun office (at leg.job leg.start place).sets
  places-begun (Before step) reached name set e =
      (before_so step reached.begun reached.goes_on name set (ap (λ (standing : Stock LibrarySet). entry_at standing.sets name) (sym (at-before leg.job leg.start step)) ∙ e)).begins
  places-begun (Opened step) reached name set e =
      option-cases (step_at leg.job step)
      (λ none. (before_so step reached.begun reached.goes_on name set (ap (λ (standing : Stock LibrarySet). entry_at standing.sets name) (sym (opened-none leg.job leg.start step none)) ∙ e)).begins)
      (λ owned found.
      (outcome_sits step owned name set found (before_so step reached.begun reached.goes_on name)
      (opened-outcome (start_of leg.job leg.start step owned) name (formed_step step owned found)
      (reached.flawless (start_of leg.job leg.start step owned) refl (start_at-of leg.job leg.start step owned found))
      (fresh_so step owned name found (before_so step reached.begun reached.goes_on name)) set
      (ap (λ library. entry_at library name) (sym (at-opened leg.job leg.start step owned found)) ∙ e))).begins)
  places-begun (Within step writes) reached name set e =
      option-cases (step_at leg.job step)
      (λ none. (before_so step reached.begun reached.goes_on name set (ap (λ (standing : Stock LibrarySet). entry_at standing.sets name) (sym (within-none leg.job leg.start step writes none)) ∙ e)).begins)
      (λ owned found.
      (outcome_sits step owned name set found (before_so step reached.begun reached.goes_on name)
      (within-outcome (start_of leg.job leg.start step owned) name (formed_step step owned found)
      (reached.flawless (start_of leg.job leg.start step owned) refl (start_at-of leg.job leg.start step owned found))
      (fresh_so step owned name found (before_so step reached.begun reached.goes_on name)) writes set
      (reached.some (start_of leg.job leg.start step owned) (start_at-of leg.job leg.start step owned found))
      (ap (λ library. entry_at library name) (sym (at-within leg.job leg.start step writes owned found)) ∙ e))).begins)
