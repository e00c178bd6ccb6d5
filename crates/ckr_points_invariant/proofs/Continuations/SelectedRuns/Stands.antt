-- Behind the event that selects a run to continue another one, this run stands at its place: the tables have of the names that it reaches what its job
-- has there.
use Rattle.std.proofs.Common.{◌≡◌, ◌≤◌, ℕ, suc, true, false, List, [], refl, ◌∙◌, sym, subst, Option, Some, None, arith}
use Rattle.std.specs.List.{list_all}
use Rattle.std.specs.Option.{is_some}
use Rattle.ckr_base.proofs.Options.{some-one}
use Rattle.ckr_entry.specs.declared.point.Mark.{Mark}
use Rattle.ckr_events.specs.declared.event.Event.TheVariants.{Selected}
use Rattle.ckr_jcl.specs.declared.deck.Job.{Job}
use Rattle.ckr_library.specs.NameMaps.{Name}
use Rattle.ckr_meaning.specs.EffectiveJob.{OwnedStep, is_among, names_of_job}
use Rattle.ckr_meaning.specs.JobRun.{at}
use Rattle.ckr_meaning.specs.LibrarySet.{Library}
use Rattle.ckr_meaning.specs.declared.place.Place.TheVariants.{Opened, Within}
use Rattle.ckr_volumes.specs.declared.layout.Layout.{Layout}
use Rattle.ckr_points.specs.Marks.{mark_at}
use Rattle.ckr_points.specs.Office.{Leg, Office, continued_leg, leg_of, office_after}
use Rattle.ckr_points.specs.Payload.{is_orderly_dd}
use Rattle.ckr_points.specs.Restart.{kept_at, step_in, syschk_name}
use Rattle.ckr_points.specs.Rows.{KeptEntry, RunRow}
use Rattle.ckr_points_invariant.specs.Invariant.{AreAlike, IsHolder, IsKept}
use Rattle.ckr_points_invariant.specs.Points.{ArePointed}
use Rattle.ckr_points_invariant.specs.Restorability.{StandsAt}
use Rattle.ckr_points_invariant.specs.StartedSteps.{AreBegunSteps}
use Rattle.ckr_points_invariant.specs.WrittenEntries.{AreWrittenEntries}
use Rattle.ckr_points_invariant.specs.EarlierRuns.{MayContinue}
use Rattle.ckr_points_invariant.proofs.Continuations.Agreement as agreement
use Rattle.ckr_points_invariant.proofs.Continuations.Continued.{agrees-continued}
use Rattle.ckr_points_invariant.proofs.Continuations.EarlierRun.{Coming, IsContinued, leg_from, row_then, sets_then}
use Rattle.ckr_points_invariant.proofs.Continuations.Fronts.{place-passed}
use Rattle.ckr_points_invariant.proofs.Continuations.Places.{comes-stands, most}
use Rattle.ckr_points_invariant.proofs.Continuations.SelectedRuns.Entries as entries
use Rattle.ckr_points_invariant.proofs.Continuations.SelectedRuns.Starts as starts

module _ (layout : Layout) (now : Office) (job initiator before step : ℕ) (id : Option Name) (its : MayContinue layout now.tables job initiator (suc before) step id) (start : Library) (reach : List Name)
    (kept : IsKept layout now) (begun : AreBegunSteps now) (pointed : ArePointed now) (led : leg_of now (suc before) ≡ Some (leg_from its.other start reach))
    (covers : (name : Name) → is_some (mark_at its.point.marks name) ≡ is_among (names_of_job its.other.job) name) (coming : Coming) (marks : List Mark) (needed removed others : List Name)
    (continued : IsContinued now its.row its.other start reach step its.point initiator coming marks needed removed others) where
  abbrev next : RunRow
  next = row_then now its.row its.other step its.point initiator coming

  abbrev leg : Leg
  leg = continued_leg now next (leg_from its.other start reach)

  abbrev behind : Office
  behind = agreement.behind layout now job initiator before step id its start reach kept begun pointed led covers coming marks needed removed

  same-step : its.owned ≡ continued.earlier.begun.owned
  same-step = some-one its.owned continued.earlier.begun.owned _ its.found continued.earlier.begun.found

  low : step_in coming.place ≤ step
  low =
      let stands : step_in coming.place ≡ step = comes-stands step (most now its.row its.other start reach step its.point continued.earlier initiator coming []) coming.place continued.comes in
      omega (arith, stands)

  pub stands-behind : StandsAt behind job leg coming.place coming.count
  stands-behind = record {
    row = next;
    holder = agreement.holder-own layout now job initiator before step id its start reach kept begun pointed led covers coming marks needed removed;
    stands = refl;
    count_so = refl;
    passed = continued.passed ∙ sym (place-passed its.other.job start now.library step its.row.number its.row.deck continued.earlier.begun.owned continued.earlier.begun.found coming.place low);
    agrees = λ name among.
        subst (λ (owned : OwnedStep). AreAlike (sets_then now its.other owned marks needed removed) (at leg.job leg.start coming.place).sets name) (sym same-step)
        (agrees-continued now its.row its.other start reach step its.point initiator coming marks needed removed others continued name among);
  }

-- At the start of a step, with the entries counted that the point tells.
module _ (layout : Layout) (now : Office) (job initiator before step : ℕ) (its : MayContinue layout now.tables job initiator (suc before) step None) (start : Library) (reach : List Name)
    (kept : IsKept layout now) (begun : AreBegunSteps now) (pointed : ArePointed now) (led : leg_of now (suc before) ≡ Some (leg_from its.other start reach))
    (covers : (name : Name) → is_some (mark_at its.point.marks name) ≡ is_among (names_of_job its.other.job) name) (dds : list_all is_orderly_dd its.owned.step.dds ≡ true) where
  abbrev leg_at_start : Leg
  leg_at_start = starts.leg layout now job initiator before step its start reach kept begun pointed led covers dds

  pub start-stands : ((number : ℕ) (row : RunRow) (its_leg : Leg) (name : Name) → IsHolder now number row its_leg → is_among leg_at_start.reach name ≡ true → is_among its_leg.reach name ≡ false)
      → (deck : Option Job) → StandsAt (office_after (Selected job initiator (suc before) step None, deck) now) job leg_at_start (Opened step) its.point.count
  start-stands alone deck =
      subst (λ later. StandsAt later job leg_at_start (Opened step) its.point.count)
      (sym (starts.office-behind layout now job initiator before step its start reach kept begun pointed led covers dds deck))
      (stands-behind layout now job initiator before step None its start reach kept begun pointed led covers _ _ _ _ _
      (starts.start-continued layout now job initiator before step its start reach kept begun pointed led covers dds alone))

-- At a checkpoint, with the entries counted that its entry tells.
module _ (layout : Layout) (now : Office) (job initiator before step : ℕ) (id : Name) (its : MayContinue layout now.tables job initiator (suc before) step (Some id)) (start : Library) (reach : List Name)
    (kept : IsKept layout now) (begun : AreBegunSteps now) (pointed : ArePointed now) (led : leg_of now (suc before) ≡ Some (leg_from its.other start reach))
    (covers : (name : Name) → is_some (mark_at its.point.marks name) ≡ is_among (names_of_job its.other.job) name)
    (written : AreWrittenEntries now) (entry : KeptEntry) (found : kept_at now.tables.sets (syschk_name its.row.deck) id ≡ Some entry)
    (entry_covers : (name : Name) → is_some (mark_at entry.point.marks name) ≡ is_among (names_of_job its.other.job) name) where
  abbrev leg_at_entry : Leg
  leg_at_entry = entries.leg layout now job initiator before step id its start reach kept begun pointed led covers written entry found entry_covers

  pub entry-stands : ((number : ℕ) (row : RunRow) (its_leg : Leg) (name : Name) → IsHolder now number row its_leg → is_among leg_at_entry.reach name ≡ true → is_among its_leg.reach name ≡ false)
      → (deck : Option Job) → StandsAt (office_after (Selected job initiator (suc before) step (Some id), deck) now) job leg_at_entry (Within step entry.point.writes) entry.point.count
  entry-stands alone deck =
      subst (λ later. StandsAt later job leg_at_entry (Within step entry.point.writes) entry.point.count)
      (sym (entries.office-behind layout now job initiator before step id its start reach kept begun pointed led covers written entry found entry_covers deck))
      (stands-behind layout now job initiator before step (Some id) its start reach kept begun pointed led covers _ _ _ _ _
      (entries.entry-continued layout now job initiator before step id its start reach kept begun pointed led covers written entry found entry_covers alone))
