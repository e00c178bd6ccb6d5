-- The earlier run's job reaches the place to which a run comes that continues it, so that what it has there is told by its stamps.
use Rattle.std.proofs.Common.{◌≡◌, ◌≤◌, ℕ, [], arith, List, length, sym, subst, Some}
use Rattle.ckr_base.proofs.Options.{some-one}
use Rattle.ckr_library.specs.NameMaps.{Name}
use Rattle.ckr_meaning.specs.EffectiveJob.{flaws_in}
use Rattle.ckr_meaning.specs.JobRun.{at, start_at}
use Rattle.ckr_meaning.specs.LibrarySet.{Library}
use Rattle.ckr_meaning.specs.StepRun.{StepStart, placed_at, work_at}
use Rattle.ckr_meaning.specs.declared.place.Place.{Place}
use Rattle.ckr_meaning.specs.declared.place.Place.TheVariants.{Before, Opened, Within}
use Rattle.ckr_points.specs.Office.{Leg, Office, leg_of}
use Rattle.ckr_points.specs.Rows.{RunRow, StartPoint}
use Rattle.ckr_points_invariant.specs.Invariant.{AreAlike, AreStamped, IsReached}
use Rattle.ckr_points_invariant.specs.StartedSteps.{start_by}
use Rattle.ckr_points_invariant.proofs.Continuations.Freshness.{DeterminesMaking}
use Rattle.ckr_points_invariant.proofs.Steps.Walks.{start_at-of}
use Rattle.ckr_points_invariant.proofs.Continuations.EarlierRun.{ComesTo, IsEarlier, leg_from}
use Rattle.ckr_points_invariant.proofs.Continuations.Stamps.Makings.{stamps-determine}

module _ (now : Office) (row other : RunRow) (start : Library) (reach : List Name) (step : ℕ) (point : StartPoint) (earlier : IsEarlier now row other (leg_from other start reach) step point) where
  abbrev its_leg : Leg
  its_leg = leg_from other start reach

  abbrev pub its_start : StepStart
  its_start = start_by its_leg earlier.begun.owned step

  start-is : (start_then : StepStart) → start_at other.job start step ≡ Some start_then → its_start ≡ start_then
  start-is start_then found = some-one its_start start_then (start_at other.job start step) (start_at-of other.job start step earlier.begun.owned earlier.begun.found) found

  reached-opened : IsReached its_leg (Opened step)
  reached-opened = record {
    begun = earlier.begun.begun;
    goes_on = earlier.begun.goes_on;
    flawless = λ start_then before found. subst (λ (s : StepStart). flaws_in (placed_at s) ≡ []) (start-is start_then found) earlier.begun.flawless;
    some = λ start_then found. omega arith;
  }

  reached-within : (writes : ℕ) → writes ≤ length (work_at its_start).writes → IsReached its_leg (Within step writes)
  reached-within writes few = record {
    begun = earlier.begun.begun;
    goes_on = earlier.begun.goes_on;
    flawless = λ start_then before found. subst (λ (s : StepStart). flaws_in (placed_at s) ≡ []) (start-is start_then found) earlier.begun.flawless;
    some = λ start_then found. subst (λ (s : StepStart). writes ≤ length (work_at s).writes) (start-is start_then found) few;
  }

  pub earlier-reached : (place : Place) → ComesTo step (length (work_at its_start).writes) place → IsReached its_leg place
  earlier-reached (Before number) comes = absurd comes
  earlier-reached (Opened number) comes = subst (λ n. IsReached its_leg (Opened n)) (sym comes) reached-opened
  earlier-reached (Within number writes) comes = subst (λ n. IsReached its_leg (Within n writes)) (sym comes.0) (reached-within writes comes.1)

  -- A data set that is as the ended jobs left it is made as the job makes it, where the stamp is the same.
  pub making-told : AreStamped now → (number : ℕ) → leg_of now number ≡ Some its_leg → (place : Place) → ComesTo step (length (work_at its_start).writes) place → (name : Name) → AreAlike now.tables.sets now.library name
      → DeterminesMaking now.tables.sets (at other.job start place).sets name
  making-told stamps number led place comes name alike =
      stamps-determine now now.tables.sets now.library (at other.job start place).sets name alike stamps.begun (stamps.places number its_leg place led (earlier-reached place comes))
