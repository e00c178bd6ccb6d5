-- A run that is selected to continue another one at a checkpoint, where no other holder reaches a name that it reaches: the office behind the event, in
-- which all runs are ready to restart.
use Rattle.std.proofs.Common.{◌≡◌, ℕ, suc, true, false, List, refl, ap, ◌∙◌, sym, subst, Option, Some}
use Rattle.std.specs.Option.{is_some}
use Rattle.ckr_events.specs.declared.event.Event.TheVariants.{Selected}
use Rattle.ckr_jcl.specs.declared.deck.Job.{Job}
use Rattle.ckr_library.specs.NameMaps.{Name}
use Rattle.ckr_meaning.specs.EffectiveJob.{OwnedStep, is_among, names_of_job}
use Rattle.ckr_meaning.specs.JobRun.{at, start_at}
use Rattle.ckr_meaning.specs.StepRun.{StepStart}
use Rattle.ckr_meaning.specs.LibrarySet.{Library}
use Rattle.ckr_meaning.specs.declared.place.Place.TheVariants.{Within}
use Rattle.ckr_volumes.specs.declared.layout.Layout.{Layout}
use Rattle.ckr_points.specs.Marks.{deck_names, mark_at}
use Rattle.ckr_points.specs.Office.{Leg, Office, leg_of, office_after, office_selected, continued_leg}
use Rattle.ckr_points.specs.Payload.{carries_taken}
use Rattle.ckr_points.specs.Restart.{Back, kept_at, syschk_name}
use Rattle.ckr_points.specs.Rows.{KeptEntry, RunRow}
use Rattle.ckr_points_invariant.specs.Invariant.{AreAlike, IsHolder, IsKept}
use Rattle.ckr_points_invariant.specs.Points.{ArePointed}
use Rattle.ckr_points_invariant.specs.Readiness.{AreReady, IsReady}
use Rattle.ckr_points_invariant.specs.StartedSteps.{AreBegunSteps}
use Rattle.ckr_points_invariant.specs.WrittenEntries.{AreWrittenEntries}
use Rattle.ckr_points_invariant.specs.EarlierRuns.{MayContinue}
use Rattle.ckr_points_invariant.proofs.Continuations.Freshness.{DeterminesMaking}
use Rattle.ckr_points_invariant.proofs.Continuations.EarlierRun.{Coming, IsContinued, leg_from, row_then, sets_then}
use Rattle.ckr_points_invariant.proofs.WrittenEntries.Offices.{IsGrown}
use Rattle.ckr_points_invariant.proofs.Continuations.Agreement as agreement
use Rattle.ckr_points_invariant.proofs.Continuations.EntryInEffect.{entry-own-ready, taken-so}
use Rattle.ckr_points_invariant.proofs.Continuations.ReadyRuns.{ready-behind}
use Rattle.ckr_points_invariant.proofs.Continuations.Reaches.{making-told}
use Rattle.ckr_points_invariant.proofs.Continuations.Selections.Earlier as earlier
use Rattle.ckr_points_invariant.proofs.Continuations.Selections.Entries as entries
use Rattle.ckr_points_invariant.proofs.Continuations.WrittenEntries.Entries.{own-grown}

module _ (layout : Layout) (now : Office) (job initiator before step : ℕ) (id : Name) (its : MayContinue layout now.tables job initiator (suc before) step (Some id)) (start : Library) (reach : List Name)
    (kept : IsKept layout now) (begun : AreBegunSteps now) (pointed : ArePointed now) (led : leg_of now (suc before) ≡ Some (leg_from its.other start reach))
    (covers : (name : Name) → is_some (mark_at its.point.marks name) ≡ is_among (names_of_job its.other.job) name)
    (written : AreWrittenEntries now) (entry : KeptEntry) (found : kept_at now.tables.sets (syschk_name its.row.deck) id ≡ Some entry)
    (entry_covers : (name : Name) → is_some (mark_at entry.point.marks name) ≡ is_among (names_of_job its.other.job) name) where
  abbrev pub coming : Coming
  coming = entries.coming layout now job initiator before step id its start reach kept.events kept.decks begun pointed led covers written entry found entry_covers

  abbrev pub next : RunRow
  next = row_then now its.row its.other step its.point initiator coming

  abbrev pub leg : Leg
  leg = continued_leg now next (leg_from its.other start reach)

  abbrev pub its_back : Back
  its_back = entries.back layout now job initiator before step id its start reach kept.events kept.decks begun pointed led covers written entry found entry_covers

  -- the office behind the event
  abbrev pub behind : Office
  behind = agreement.behind layout now job initiator before step (Some id) its start reach kept begun pointed led covers coming entry.point.marks its_back.needed its_back.removed

  -- It is this one.
  pub office-behind : (deck : Option Job) → office_after (Selected job initiator (suc before) step (Some id), deck) now ≡ behind
  office-behind deck = ap (office_selected now job) (entries.tables-behind layout now job initiator before step id its start reach kept.events kept.decks begun pointed led covers written entry found entry_covers deck)

  -- the entry is one of the earlier run, within the step
  of-earlier : (entry.point.run ≡ its.other.number) × (entry.point.step ≡ step)
  of-earlier = entries.of-run layout now job initiator before step id its start reach kept.events pointed led entry found

  other-led : leg_of now its.other.number ≡ Some (leg_from its.other start reach)
  other-led = ap (leg_of now) (kept.events.numbered (suc before) its.other its.other_at) ∙ led

  same-step : its.owned ≡ (earlier.earlier-start layout now job initiator before step (Some id) its start reach kept.events kept.decks begun pointed led covers).begun.owned
  same-step = earlier.same-step layout now job initiator before step (Some id) its start reach kept.events kept.decks begun pointed led covers

  -- The data set of the entry is as long as it was when the step started, or longer.
  pub entry-grown : IsGrown behind.tables.sets next
  entry-grown =
      subst (λ (owned : OwnedStep). IsGrown (sets_then now its.other owned entry.point.marks its_back.needed its_back.removed) next) (sym same-step)
      (own-grown now its.row its.other start reach step its.point (earlier.earlier-start layout now job initiator before step (Some id) its start reach kept.events kept.decks begun pointed led covers) initiator coming its_back.needed written
      other-led (syschk_name its.row.deck) id entry found of-earlier.0 of-earlier.1 refl refl)

  -- The step goes on from the entry.
  pub taken-there : (its_start : StepStart) → start_at leg.job leg.start step ≡ Some its_start → carries_taken entry.point.taken entry.point.writes its_start ≡ true
  taken-there =
      taken-so now its.row its.other start reach step its.point (earlier.earlier-start layout now job initiator before step (Some id) its start reach kept.events kept.decks begun pointed led covers) initiator coming.count coming.passed coming.lost its_back.needed written
      other-led (syschk_name its.row.deck) id entry found of-earlier.0 of-earlier.1
      (entries.pointed-entry layout now job initiator before step id its start reach kept.events pointed led entry found)

  -- The run is ready there.
  own-ready : IsReady behind.tables.sets next leg
  own-ready =
      subst (λ (owned : OwnedStep). IsReady (sets_then now its.other owned entry.point.marks its_back.needed its_back.removed) next leg) (sym same-step)
      (entry-own-ready now its.row its.other start reach step its.point (earlier.earlier-start layout now job initiator before step (Some id) its start reach kept.events kept.decks begun pointed led covers) initiator coming.count coming.passed coming.lost its_back.needed written
      other-led (syschk_name its.row.deck) id entry found of-earlier.0 of-earlier.1
      (entries.pointed-entry layout now job initiator before step id its start reach kept.events pointed led entry found))

  -- where no other holder reaches a name that it reaches
  module _ (alone : (number : ℕ) (row : RunRow) (its_leg : Leg) (name : Name) → IsHolder now number row its_leg → is_among leg.reach name ≡ true → is_among its_leg.reach name ≡ false) where
    left : (name : Name) → is_among leg.reach name ≡ true → AreAlike now.tables.sets now.library name
    left name among =
        agreement.left-so layout now job initiator before step (Some id) its start reach kept begun pointed led covers coming entry.point.marks its_back.needed its_back.removed alone name among

    making : (name : Name) → is_among leg.reach name ≡ true → DeterminesMaking now.tables.sets (at its.other.job start (Within step entry.point.writes)).sets name
    making name among =
        making-told now its.row its.other start reach step its.point (earlier.earlier-start layout now job initiator before step (Some id) its start reach kept.events kept.decks begun pointed led covers)
        kept.stamps (suc before) led (Within step entry.point.writes)
        (refl, entries.few-writes layout now job initiator before step id its start reach kept.events kept.decks begun pointed led covers written entry found entry_covers) name (left name among)

    -- It continues the earlier run.
    pub entry-continued : IsContinued now its.row its.other start reach step its.point initiator coming entry.point.marks its_back.needed its_back.removed (deck_names its.other.job.root its.row.number its.row.deck)
    entry-continued = entries.continued-entry layout now job initiator before step id its start reach kept.events kept.decks begun pointed led covers written entry found entry_covers left making

    -- All runs are ready to restart then.
    pub entry-ready : AreReady now → (deck : Option Job) → AreReady (office_after (Selected job initiator (suc before) step (Some id), deck) now)
    entry-ready ready deck =
        subst AreReady (sym (office-behind deck))
        (ready-behind layout now job initiator before step (Some id) its start reach kept begun pointed led covers coming entry.point.marks its_back.needed its_back.removed alone
        (entries.named layout now job initiator before step id its start reach kept.events kept.decks begun pointed led covers written entry found entry_covers)
        (entries.back-entry layout now job initiator before step id its start reach kept.events kept.decks begun pointed led covers written entry found entry_covers) refl ready own-ready)
