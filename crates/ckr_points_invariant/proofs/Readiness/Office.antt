-- An office in which one run's row changed: what restarts rest on holds of the other runs still.
use Rattle.std.proofs.Common.{◌≡◌, ◌≢◌, ℕ, true, ap, sym, ◌∙◌, subst, Some, None, arith}
use Rattle.std.specs.Prelude.{◌==◌}
use Rattle.std.proofs.lemmas.Bool.{false≢true}
use Rattle.ckr_base.proofs.Bools.{bool-cases}
use Rattle.ckr_base.proofs.Numbers.{equal-true, number-cases}
use Rattle.ckr_base.proofs.Options.{some-one}
use Rattle.ckr_base.proofs.Sequences.{find-holds, find-passes}
use Rattle.ckr_library.specs.NameMaps.{Name}
use Rattle.ckr_meaning.specs.EffectiveJob.{Effective, OwnedStep, is_among, step_at}
use Rattle.ckr_meaning.specs.declared.place.Place.TheVariants.{Opened, Within}
use Rattle.ckr_volumes.specs.declared.layout.Layout.{Layout}
use Rattle.ckr_points_library.specs.Commit.{output_names}
use Rattle.ckr_points.specs.declared.run.RunState.TheVariants.{Queued}
use Rattle.ckr_points.specs.Follows.{is_in_state, own_step}
use Rattle.ckr_points.specs.Marks.{point_at}
use Rattle.ckr_points.specs.Office.{Leg, Office, leg_of}
use Rattle.ckr_points.specs.Restart.{kept_at}
use Rattle.ckr_points.specs.Rows.{KeptEntry, RunRow, StartPoint, run_of}
use Rattle.ckr_points_invariant.specs.Invariant.{IsAgreed, IsAtPlace, IsHolder, Leaves, step_now}
use Rattle.ckr_points_invariant.specs.Points.{AreEntryPoints, ArePointed, AreStepPoints, IsPointAt}
use Rattle.ckr_points_invariant.proofs.Holders.Places.{outputs-among}
use Rattle.ckr_points_invariant.proofs.Holders.SharedSets.{step_left}
use Rattle.ckr_points_invariant.proofs.Points.Rows as rows
use Rattle.ckr_points_invariant.specs.Readiness.{AreReady, IsCheck, IsReady}
use Rattle.ckr_points_invariant.specs.Restorability.{AreEntriesRestorable, AreStepsRestorable, HasPoint, IsRestorable}
use Rattle.ckr_points_invariant.proofs.OtherRuns.Outputs.{not-output}
use Rattle.ckr_points_invariant.proofs.OtherRuns.Sets.{IsApart, LeavesApart}
use Rattle.ckr_points_invariant.proofs.Readiness.Runs.{kept-entry, ready-same}
use Rattle.ckr_points_invariant.proofs.Restart.Invariant.{point-of}
use Rattle.ckr_points_invariant.proofs.Restart.Points.{fewer}

-- so they can restart
pub steps-restorable : (office : Office) → AreReady office → AreStepsRestorable office
steps-restorable office ready = record { since = λ number row leg point holder within got unwritten. (ready.runs number row leg holder).steps point within got unwritten }

pub entries-restorable : (office : Office) → AreReady office → AreEntriesRestorable office
entries-restorable office ready = record {
  since = λ number row leg effect entry holder within got there unwritten.
      let check : IsCheck office.tables.sets row leg effect = (ready.runs number row leg holder).check effect within got in
      subst (λ (e : KeptEntry). IsRestorable row leg e.point.writes)
      (some-one check.entry entry (kept_at office.tables.sets effect.set effect.kept.id) (kept-entry office.tables.sets effect.set effect.kept.id check.entry check.keeps) there)
      (check.since unwritten);
  points = λ number row leg effect entry holder within got there.
      let check : IsCheck office.tables.sets row leg effect = (ready.runs number row leg holder).check effect within got in
      subst (λ (e : KeptEntry). HasPoint leg (Within (step_now row) e.point.writes) e.point.marks e.point.passed)
      (some-one check.entry entry (kept_at office.tables.sets effect.set effect.kept.id) (kept-entry office.tables.sets effect.set effect.kept.id check.entry check.keeps) there)
      check.point;
}

-- the point of the step that a holder is in
pub step-point : (layout : Layout) (now : Office) (number : ℕ) (row : RunRow) (leg : Leg) (point : StartPoint) → IsAgreed layout now → ArePointed now → IsHolder now number row leg → point_at row.points (step_now row) ≡ Some point → HasPoint leg (Opened (step_now row)) point.marks point.passed
step-point layout now number row leg point kept pointed holder got =
    point-of now number leg (Opened (step_now row)) point.marks point.passed holder.leg_at
    (subst (λ step. IsPointAt now.legs number (Opened step) point.marks point.passed) (equal-true point.step (step_now row) (find-passes (λ (one : StartPoint). one.step == step_now row) row.points point got))
    (subst (λ run. IsPointAt now.legs run (Opened point.step) point.marks point.passed) (kept.numbered number row holder.row_at)
    (find-holds (λ (point : StartPoint). IsPointAt now.legs row.number (Opened point.step) point.marks point.passed) (λ (point : StartPoint). point.step == step_now row) row.points point
    (rows.row-holds (λ run count. AreStepPoints now.legs run) (AreEntryPoints now.legs) tt (fewer now.legs) now.tables number row pointed holder.row_at) got)))

module _ (layout : Layout) (now : Office) (kept : IsAgreed layout now) (pointed : ArePointed now) (ready : AreReady now) where
  -- only the row of one run changed, and data sets that it reaches; it is ready itself
  pub record IsOnly (job : ℕ) (later : Office) : Type 0 where
    pub legs : (number : ℕ) → number ≢ job → leg_of later number ≡ leg_of now number
    pub others : (number : ℕ) → number ≢ job → run_of later.tables number ≡ run_of now.tables number
    pub sets : LeavesApart now job later.tables.sets
    pub own : (row : RunRow) (leg : Leg) → IsHolder later job row leg → IsReady later.tables.sets row leg
    pub waits : (row : RunRow) → run_of later.tables job ≡ Some row → is_in_state Queued row ≡ true → row.in_effect ≡ None

  former : (job number : ℕ) (later : Office) (row : RunRow) (leg : Leg) → IsOnly job later → number ≢ job → IsHolder later number row leg → IsHolder now number row leg
  former job number later row leg only apart there = record { row_at = sym (only.others number apart) ∙ there.row_at; holds = there.holds; leg_at = sym (only.legs number apart) ∙ there.leg_at }

  -- an output of the step that a holder is in is reached by no other one
  pub output-apart : (number : ℕ) (row : RunRow) (leg : Leg) (owned : OwnedStep) (name : Name) → IsHolder now number row leg → own_step row ≡ Some owned → is_among (output_names row.job.root owned) name ≡ true → (other : ℕ) → number ≢ other → IsApart now other name
  output-apart number row leg owned name holder found among other apart its fellow there =
      let place : IsAtPlace now.tables row leg = kept.places number row leg holder in
      let at_leg : step_at leg.job (step_now row) ≡ Some owned = ap (λ job. step_at job (step_now row)) place.job ∙ found in
      let listed : is_among (output_names leg.job.root owned) name ≡ true = ap (λ (job : Effective). is_among (output_names job.root owned) name) place.job ∙ among in
      let mine : is_among leg.reach name ≡ true = (place.ahead (step_now row) owned name (omega arith) at_leg (outputs-among leg.job.root owned name listed)).0 in
      bool-cases (is_among fellow.reach name)
      (λ its_too.
      let left : Leaves leg.job name = kept.left number other row its leg fellow name holder there apart mine its_too in
      absurd (false≢true (sym (not-output leg.job.root owned name (step_left name leg.job leg.start place.formed left (step_now row) owned at_leg)) ∙ listed)))
      (λ out. out)

  pub ready-only : (job : ℕ) (later : Office) → IsOnly job later → AreReady later
  ready-only job later only = record {
    waits = λ number row e queued.
        number-cases number job
        (λ here. only.waits row (ap (run_of later.tables) (sym here) ∙ e) queued)
        (λ apart. ready.waits number row (sym (only.others number apart) ∙ e) queued);
    runs = λ number row leg there.
        number-cases number job
        (λ here. only.own row leg (subst (λ n. IsHolder later n row leg) here there))
        (λ apart.
        let before : IsHolder now number row leg = former job number later row leg only apart there in
        ready-same row leg now.tables.sets later.tables.sets
        (λ owned name found among. only.sets name (output-apart number row leg owned name before found among job apart))
        (ready.runs number row leg before));
  }
