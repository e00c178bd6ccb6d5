-- A run that is selected to continue another one at the start of a step, where no other holder reaches a name that it reaches: the office behind the
-- event, in which all runs are ready to restart.
use Rattle.std.proofs.Common.{◌≡◌, ℕ, suc, true, false, List, refl, ap, sym, subst, Option, Some, None}
use Rattle.std.specs.List.{list_all}
use Rattle.std.specs.Option.{is_some}
use Rattle.ckr_events.specs.declared.event.Event.TheVariants.{Selected}
use Rattle.ckr_jcl.specs.declared.deck.Job.{Job}
use Rattle.ckr_library.specs.NameMaps.{Name}
use Rattle.ckr_meaning.specs.EffectiveJob.{is_among, names_of_job}
use Rattle.ckr_meaning.specs.JobRun.{at}
use Rattle.ckr_meaning.specs.LibrarySet.{Library}
use Rattle.ckr_meaning.specs.declared.place.Place.TheVariants.{Opened}
use Rattle.ckr_volumes.specs.declared.layout.Layout.{Layout}
use Rattle.ckr_points.specs.Marks.{deck_names, mark_at}
use Rattle.ckr_points.specs.Office.{Leg, Office, leg_of, office_after, office_selected, continued_leg}
use Rattle.ckr_points.specs.Payload.{is_orderly_dd}
use Rattle.ckr_points.specs.Restart.{Back}
use Rattle.ckr_points.specs.Rows.{RunRow}
use Rattle.ckr_points_invariant.specs.Invariant.{AreAlike, IsHolder, IsKept}
use Rattle.ckr_points_invariant.specs.Points.{ArePointed}
use Rattle.ckr_points_invariant.specs.Readiness.{AreReady}
use Rattle.ckr_points_invariant.specs.StartedSteps.{AreBegunSteps}
use Rattle.ckr_points_invariant.specs.EarlierRuns.{MayContinue}
use Rattle.ckr_points_invariant.proofs.Continuations.Freshness.{DeterminesMaking}
use Rattle.ckr_points_invariant.proofs.Continuations.EarlierRun.{Coming, IsContinued, leg_from, row_then}
use Rattle.ckr_points_invariant.proofs.Readiness.Runs.{ready-outside}
use Rattle.ckr_points_invariant.proofs.Continuations.Agreement as agreement
use Rattle.ckr_points_invariant.proofs.Continuations.ReadyRuns.{ready-behind}
use Rattle.ckr_points_invariant.proofs.Continuations.Reaches.{making-told}
use Rattle.ckr_points_invariant.proofs.Continuations.Selections.Earlier as earlier
use Rattle.ckr_points_invariant.proofs.Continuations.Selections.Starts as starts

module _ (layout : Layout) (now : Office) (job initiator before step : ℕ) (its : MayContinue layout now.tables job initiator (suc before) step None) (start : Library) (reach : List Name)
    (kept : IsKept layout now) (begun : AreBegunSteps now) (pointed : ArePointed now) (led : leg_of now (suc before) ≡ Some (leg_from its.other start reach))
    (covers : (name : Name) → is_some (mark_at its.point.marks name) ≡ is_among (names_of_job its.other.job) name) (dds : list_all is_orderly_dd its.owned.step.dds ≡ true) where
  abbrev pub coming : Coming
  coming = starts.coming layout now job initiator before step its start reach kept.events kept.decks begun pointed led covers

  abbrev pub next : RunRow
  next = row_then now its.row its.other step its.point initiator coming

  abbrev pub leg : Leg
  leg = continued_leg now next (leg_from its.other start reach)

  abbrev pub its_back : Back
  its_back = starts.back layout now job initiator before step its start reach kept.events kept.decks begun pointed led covers

  -- the office behind the event
  abbrev pub behind : Office
  behind = agreement.behind layout now job initiator before step None its start reach kept begun pointed led covers coming its.point.marks its_back.needed its_back.removed

  -- It is this one.
  pub office-behind : (deck : Option Job) → office_after (Selected job initiator (suc before) step None, deck) now ≡ behind
  office-behind deck = ap (office_selected now job) (starts.tables-behind layout now job initiator before step its start reach kept.events kept.decks begun pointed led covers deck)

  -- where no other holder reaches a name that it reaches
  module _ (alone : (number : ℕ) (row : RunRow) (its_leg : Leg) (name : Name) → IsHolder now number row its_leg → is_among leg.reach name ≡ true → is_among its_leg.reach name ≡ false) where
    left : (name : Name) → is_among leg.reach name ≡ true → AreAlike now.tables.sets now.library name
    left name among =
        agreement.left-so layout now job initiator before step None its start reach kept begun pointed led covers coming its.point.marks its_back.needed its_back.removed alone name among

    making : (name : Name) → is_among leg.reach name ≡ true → DeterminesMaking now.tables.sets (at its.other.job start (Opened step)).sets name
    making name among =
        making-told now its.row its.other start reach step its.point (earlier.earlier-start layout now job initiator before step None its start reach kept.events kept.decks begun pointed led covers)
        kept.stamps (suc before) led (Opened step) refl name (left name among)

    -- It continues the earlier run.
    pub start-continued : IsContinued now its.row its.other start reach step its.point initiator coming its.point.marks its_back.needed its_back.removed (deck_names its.other.job.root its.row.number its.row.deck)
    start-continued = starts.continued-start layout now job initiator before step its start reach kept.events kept.decks begun pointed led covers dds left making

    -- All runs are ready to restart then.
    pub start-ready : AreReady now → (deck : Option Job) → AreReady (office_after (Selected job initiator (suc before) step None, deck) now)
    start-ready ready deck =
        subst AreReady (sym (office-behind deck))
        (ready-behind layout now job initiator before step None its start reach kept begun pointed led covers coming its.point.marks its_back.needed its_back.removed alone
        (starts.named layout now job initiator before step its start reach kept.events kept.decks begun pointed led covers)
        (starts.back-start layout now job initiator before step its start reach kept.events kept.decks begun pointed led covers dds) refl ready
        (ready-outside behind.tables.sets next leg refl (ready.waits job its.row its.row_at its.queued)))
