-- Behind the selection of a continued run the other runs are ready to restart as before, so all are where this one is.
use Rattle.std.proofs.Common.{◌≡◌, ℕ, suc, true, false, List, ap, sym, ◌∙◌, Option, None, Some, arith}
use Rattle.std.specs.Option.{is_some}
use Rattle.std.proofs.lemmas.Bool.{false≢true}
use Rattle.ckr_base.proofs.Bools.{bool-cases}
use Rattle.ckr_base.proofs.Numbers.{number-cases}
use Rattle.ckr_base.proofs.Options.{some-one}
use Rattle.ckr_entry.specs.declared.point.Mark.{Mark}
use Rattle.ckr_library.specs.NameMaps.{Name, entry_at}
use Rattle.ckr_meaning.specs.EffectiveJob.{Effective, OwnedStep, is_among, names_of_job, step_at}
use Rattle.ckr_meaning.specs.LibrarySet.{Library}
use Rattle.ckr_volumes.specs.declared.layout.Layout.{Layout}
use Rattle.ckr_points.specs.Follows.{is_in_state, own_step}
use Rattle.ckr_points.specs.Marks.{mark_at}
use Rattle.ckr_points.specs.Office.{Leg, Office, leg_of, continued_leg}
use Rattle.ckr_points.specs.Restart.{step_in}
use Rattle.ckr_points.specs.Rows.{RunRow, run_of}
use Rattle.ckr_points.specs.declared.run.RunState.TheVariants.{Queued}
use Rattle.ckr_points_library.specs.Commit.{output_names}
use Rattle.ckr_points_invariant.specs.Invariant.{IsAtPlace, IsHolder, IsKept, step_now}
use Rattle.ckr_points_invariant.specs.Points.{ArePointed}
use Rattle.ckr_points_invariant.specs.Readiness.{AreReady, IsReady}
use Rattle.ckr_points_invariant.specs.StartedSteps.{AreBegunSteps}
use Rattle.ckr_points_invariant.specs.EarlierRuns.{MayContinue}
use Rattle.ckr_points_invariant.proofs.Holders.Places.{outputs-among}
use Rattle.ckr_points_invariant.proofs.Readiness.Runs.{ready-same}
use Rattle.ckr_points_invariant.proofs.Continuations.EarlierRun.{Coming, IsPutBack, leg_from, row_then}
use Rattle.ckr_points_invariant.proofs.Continuations.Agreement as agreement
use Rattle.ckr_points_invariant.proofs.Continuations.Offices as offices

module _ (layout : Layout) (now : Office) (job initiator before step : ℕ) (id : Option Name) (its : MayContinue layout now.tables job initiator (suc before) step id) (start : Library) (reach : List Name)
    (kept : IsKept layout now) (begun : AreBegunSteps now) (pointed : ArePointed now) (led : leg_of now (suc before) ≡ Some (leg_from its.other start reach))
    (covers : (name : Name) → is_some (mark_at its.point.marks name) ≡ is_among (names_of_job its.other.job) name) (coming : Coming) (marks : List Mark) (needed removed : List Name) where
  abbrev next : RunRow
  next = row_then now its.row its.other step its.point initiator coming

  abbrev leg : Leg
  leg = continued_leg now next (leg_from its.other start reach)

  abbrev behind : Office
  behind = agreement.behind layout now job initiator before step id its start reach kept begun pointed led covers coming marks needed removed

  -- a run that waits in the office behind waited before
  waits-behind : AreReady now → (number : ℕ) (row : RunRow) → run_of behind.tables number ≡ Some row → is_in_state Queued row ≡ true → row.in_effect ≡ None
  waits-behind ready number row found queued =
      number-cases number job
      (λ same.
      let is : next ≡ row = some-one next row (run_of behind.tables job) (offices.row-behind layout now job initiator before step id its start reach kept begun pointed led covers coming behind.tables.sets) (ap (run_of behind.tables) (sym same) ∙ found) in
      absurd (false≢true (ap (is_in_state Queued) is ∙ queued)))
      (λ apart.
      ready.waits number row (sym (offices.rows-behind layout now job initiator before step id its start reach kept begun pointed led covers coming behind.tables.sets number apart) ∙ found) queued)

  module _ (alone : (number : ℕ) (row : RunRow) (its_leg : Leg) (name : Name) → IsHolder now number row its_leg → is_among leg.reach name ≡ true → is_among its_leg.reach name ≡ false)
      (named : List Name) (isback : IsPutBack now next its.other its.owned start coming marks needed removed named) (stands : step_in coming.place ≡ step) where
    -- an output of the step of another holder is as it was
    output-stays : (number : ℕ) (row : RunRow) (its_leg : Leg) → IsHolder now number row its_leg → (owned : OwnedStep) (name : Name) → own_step row ≡ Some owned → is_among (output_names row.job.root owned) name ≡ true → entry_at behind.tables.sets name ≡ entry_at now.tables.sets name
    output-stays number row its_leg holder owned name found among =
        let place : IsAtPlace now.tables row its_leg = kept.events.places number row its_leg holder in
        let at_leg : step_at its_leg.job (step_now row) ≡ Some owned = ap (λ job. step_at job (step_now row)) place.job ∙ found in
        let listed : is_among (output_names its_leg.job.root owned) name ≡ true = ap (λ (job : Effective). is_among (output_names job.root owned) name) place.job ∙ among in
        let mine : is_among its_leg.reach name ≡ true = (place.ahead (step_now row) owned name (omega arith) at_leg (outputs-among its_leg.job.root owned name listed)).0 in
        agreement.outside-behind layout now job initiator before step id its start reach kept begun pointed led covers coming marks needed removed alone named isback stands name
        (bool-cases (is_among leg.reach name)
        (λ its_too. absurd (false≢true (sym (alone number row its_leg name holder its_too) ∙ mine)))
        (λ out. out))

    -- All runs are ready where this one is.
    pub ready-behind : AreReady now → IsReady behind.tables.sets next leg → AreReady behind
    ready-behind ready own = record {
      waits = waits-behind ready;
      runs = λ number row its_leg holder.
          number-cases number job
          (λ same. agreement.holder-same layout now job initiator before step id its start reach kept begun pointed led covers coming marks needed removed (IsReady behind.tables.sets) own number row its_leg same holder)
          (λ apart.
          let was : IsHolder now number row its_leg = agreement.holder-before layout now job initiator before step id its start reach kept begun pointed led covers coming marks needed removed number row its_leg apart holder in
          ready-same row its_leg now.tables.sets behind.tables.sets (output-stays number row its_leg was) (ready.runs number row its_leg was));
    }
