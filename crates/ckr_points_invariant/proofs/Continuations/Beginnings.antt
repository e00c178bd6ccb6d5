-- A run that continues another one is within its step, or at the start of it, as its job has it there; and its point says what the job has.
use Rattle.std.proofs.Common.{◌≡◌, ◌≤◌, ℕ, true, false, [], List, length, sym, ◌∙◌, subst, arith}
use Rattle.ckr_library.specs.NameMaps.{Name}
use Rattle.ckr_programs.specs.Work.{Work}
use Rattle.ckr_meaning.specs.EffectiveJob.{OwnedStep, flaws_in, is_among, names_of_job}
use Rattle.ckr_meaning.specs.JobRun.{at}
use Rattle.ckr_meaning.specs.LibrarySet.{Library}
use Rattle.ckr_meaning.specs.StepRun.{StepStart, placed_at, work_at}
use Rattle.ckr_meaning.specs.declared.place.Place.TheVariants.{Opened, Within}
use Rattle.ckr_points.specs.Marks.{own_names}
use Rattle.ckr_points.specs.Office.{Leg, Office, continued_leg}
use Rattle.ckr_points.specs.Restart.{carried_point}
use Rattle.ckr_points.specs.Rows.{RunRow, StartPoint}
use Rattle.ckr_points_invariant.specs.Invariant.{AreAlike, IsUnderWay, IsWithinStep}
use Rattle.ckr_points_invariant.proofs.Continuations.Fronts.{place-passed}
use Rattle.ckr_points_invariant.proofs.Continuations.EarlierRun.{Coming, IsEarlier, leg_from, row_then}
use Rattle.ckr_points_invariant.proofs.Continuations.Marks.{all-marked, own-made}
use Rattle.ckr_points_invariant.proofs.Continuations.Walks.{flawless, owned, runs, start-same, started, starts, work-same}
use Rattle.ckr_points_invariant.proofs.Select.Invariant.{among-step}
use Rattle.ckr_points_invariant.specs.Restorability.{HasPoint}

module _ (now : Office) (row other : RunRow) (start : Library) (reach : List Name) (step : ℕ) (point : StartPoint) (earlier : IsEarlier now row other (leg_from other start reach) step point)
    (initiator : ℕ) (coming : Coming) where
  abbrev next : RunRow
  next = row_then now row other step point initiator coming

  abbrev leg : Leg
  leg = continued_leg now next (leg_from other start reach)

  abbrev begins : OwnedStep
  begins = owned now row other start reach step point earlier initiator coming

  abbrev begun : StepStart
  begun = starts now row other start reach step point earlier initiator coming

  -- at the start of the step
  pub within-opened : IsWithinStep next leg (Opened step)
  within-opened its found =
      subst (λ (s : StepStart). flaws_in (placed_at s) ≡ []) (start-same now row other start reach step point earlier initiator coming its found)
      (flawless now row other start reach step point earlier initiator coming)

  -- where the tables have its own names that the earlier job lacks as the ended jobs left them
  module _ (left : (name : Name) → is_among (own_names next) name ≡ true → is_among (names_of_job other.job) name ≡ false → AreAlike now.tables.sets now.library name) where
    -- behind so many writes of the step as the earlier run's job made there
    pub within-writes : (writes : ℕ) → writes ≤ length (work_at (started now row other start reach step point earlier initiator coming)).writes → IsWithinStep next leg (Within step writes)
    within-writes writes few its found =
        subst (λ (s : StepStart). IsUnderWay next s writes) (start-same now row other start reach step point earlier initiator coming its found)
        (record {
          runs = runs now row other start reach step point earlier initiator coming;
          flawless = flawless now row other start reach step point earlier initiator coming;
          done = subst (λ (work : Work). writes ≤ length work.writes) (sym (work-same now row other start reach step point earlier initiator coming)) few;
          made = own-made now row other start reach step point earlier initiator coming left;
        })

    -- its point says what the job has at the start of the step
    pub has-point : point.passed ≡ (at other.job start (Opened step)).passed → HasPoint leg (Opened step) (carried_point leg.job now.tables.sets point).marks (carried_point leg.job now.tables.sets point).passed
    has-point passed = record {
      marked = λ its name found among. (all-marked now row other start reach step point earlier initiator coming left).says name (among-step leg.job step its name found among);
      passed_on = passed ∙ sym (place-passed other.job start now.library step row.number row.deck earlier.begun.owned earlier.begun.found (Opened step) (omega arith));
    }
