-- All that is kept from event to event is kept behind the event that selects a run to continue another one, and the run stands at its place then.
use Rattle.std.proofs.Common.{◌≡◌, ℕ, suc, true, false, refl, ap, sym, ◌∙◌, subst, Option, Some, None}
use Rattle.std.specs.List.{list_all}
use Rattle.std.specs.Option.{is_some}
use Rattle.std.proofs.lemmas.Bool.{false≢true}
use Rattle.ckr_base.proofs.Options.{is_some-true, some-one}
use Rattle.ckr_events.specs.declared.event.Event.TheVariants.{Selected}
use Rattle.ckr_jcl.specs.declared.deck.Job.{Job}
use Rattle.ckr_library.specs.NameMaps.{Name, Named}
use Rattle.ckr_meaning.specs.EffectiveJob.{is_among, names_of_job}
use Rattle.ckr_meaning.specs.JobRun.{start_at}
use Rattle.ckr_meaning.specs.StepRun.{StepStart}
use Rattle.ckr_meaning.specs.declared.place.Place.TheVariants.{Opened, Within}
use Rattle.ckr_volumes.specs.declared.layout.Layout.{Layout}
use Rattle.ckr_points.specs.Events.{IsNext}
use Rattle.ckr_points.specs.Follows.{of_run}
use Rattle.ckr_points.specs.Marks.{deck_names, mark_at, point_at}
use Rattle.ckr_points.specs.Office.{Leg, Office, leg_of, office_after}
use Rattle.ckr_points.specs.Payload.{carries_taken, is_orderly_dd}
use Rattle.ckr_points.specs.Restart.{Back, continued_row, kept_at, sets_back, syschk_name}
use Rattle.ckr_points.specs.Rows.{KeptEntry, RunRow, StartPoint, TableSet, run_of}
use Rattle.ckr_points_invariant.specs.Invariant.{IsHolder}
use Rattle.ckr_points_invariant.specs.JobNames.{AreKin}
use Rattle.ckr_points_invariant.specs.KeptEvents.{AreKept}
use Rattle.ckr_points_invariant.specs.Restorability.{StandsAt}
use Rattle.ckr_points_invariant.specs.StartedSteps.{HasBegunSteps}
use Rattle.ckr_points_invariant.specs.EarlierRuns.{IsEntryOf, MayContinue}
use Rattle.ckr_points_invariant.proofs.Continuations.EarlierRun.{Coming, leg_from}
use Rattle.ckr_points_invariant.proofs.Continuations.Follows.{may-continue}
use Rattle.ckr_points_invariant.proofs.Continuations.OfficeBehind.{AgreesBehind}
use Rattle.ckr_points_invariant.proofs.Continuations.OfficesBehind.{agrees-behind}
use Rattle.ckr_points_invariant.proofs.Continuations.ReachedNames.NamesBehind.{named-behind}
use Rattle.ckr_points_invariant.proofs.Continuations.ReachedNames.OtherHolders as holders
use Rattle.ckr_points_invariant.proofs.Continuations.SelectedRuns.Entries as at_entry
use Rattle.ckr_points_invariant.proofs.Continuations.SelectedRuns.Stands.{entry-stands, start-stands}
use Rattle.ckr_points_invariant.proofs.Continuations.SelectedRuns.Starts as at_start
use Rattle.ckr_points_invariant.proofs.Continuations.Selections.Earlier as earlier
use Rattle.ckr_points_invariant.proofs.Continuations.Selections.Entries as entries
use Rattle.ckr_points_invariant.proofs.Holders.Rows.{leg-number}
use Rattle.ckr_points_invariant.proofs.WaitingRuns.{follows-of}

-- the leg of the earlier run
module _ (layout : Layout) (now : Office) (are : AreKept layout now) (job initiator before step : ℕ) (id : Option Name) (its : MayContinue layout now.tables job initiator (suc before) step id) (leg : Leg) (led : leg_of now (suc before) ≡ Some leg) where
  steps-begun : HasBegunSteps now.tables its.other leg
  steps-begun = are.begun.runs (suc before) its.other leg its.other_at led

  leg-is : leg ≡ leg_from its.other leg.start leg.reach
  leg-is =
      ap (λ number. record leg { number = number }) (leg-number now (suc before) leg led ∙ sym (are.kept.events.numbered (suc before) its.other its.other_at))
      ∙ ap (λ job. record (leg_from its.other leg.start leg.reach) { job = job }) steps-begun.job

  led-so : leg_of now (suc before) ≡ Some (leg_from its.other leg.start leg.reach)
  led-so = led ∙ ap Some leg-is

  kin-so : AreKin now.tables its.other
  kin-so = steps-begun.kin

  covers-so : (name : Name) → is_some (mark_at its.point.marks name) ≡ is_among (names_of_job its.other.job) name
  covers-so = earlier.start-covers layout now job initiator before step id its leg.start leg.reach are.kept.events are.pointed led-so

-- At the start of a step.
module _ (layout : Layout) (now : Office) (are : AreKept layout now) (job initiator before step : ℕ) (its : MayContinue layout now.tables job initiator (suc before) step None) (leg : Leg) (led : leg_of now (suc before) ≡ Some leg) where
  led_at : leg_of now (suc before) ≡ Some (leg_from its.other leg.start leg.reach)
  led_at = led-so layout now are job initiator before step None its leg led

  covers_at : (name : Name) → is_some (mark_at its.point.marks name) ≡ is_among (names_of_job its.other.job) name
  covers_at = covers-so layout now are job initiator before step None its leg led

  dds_at : list_all is_orderly_dd its.owned.step.dds ≡ true
  dds_at = earlier.step-orderly layout now job initiator before step None its leg.start leg.reach are.kept.events are.kept.decks are.begun are.pointed led_at covers_at

  abbrev coming : Coming
  coming = at_start.coming layout now job initiator before step its leg.start leg.reach are.kept are.begun are.pointed led_at covers_at dds_at

  abbrev its_back : Back
  its_back = at_start.its_back layout now job initiator before step its leg.start leg.reach are.kept are.begun are.pointed led_at covers_at dds_at

  abbrev leg_at_start : Leg
  leg_at_start = at_start.leg layout now job initiator before step its leg.start leg.reach are.kept are.begun are.pointed led_at covers_at dds_at

  abbrev sets : Named TableSet
  sets = sets_back (continued_row its.row its.other step its.point initiator now.tables.sets) its.owned its_back now.tables.sets

  alone : (number : ℕ) (row : RunRow) (its_leg : Leg) (name : Name) → IsHolder now number row its_leg → is_among leg_at_start.reach name ≡ true → is_among its_leg.reach name ≡ false
  alone = holders.alone layout now are.kept.events are.kept.decks job initiator before step None its leg.start leg.reach (kin-so layout now are job initiator before step None its leg led) coming its.point.marks sets refl

  agrees : AgreesBehind layout (at_start.behind layout now job initiator before step its leg.start leg.reach are.kept are.begun are.pointed led_at covers_at dds_at)
  agrees =
      agrees-behind layout now job initiator before step None its leg.start leg.reach are.kept are.begun are.pointed led_at covers_at coming its.point.marks its_back.needed its_back.removed
      (deck_names its.other.job.root its.row.number its.row.deck)
      (at_start.start-continued layout now job initiator before step its leg.start leg.reach are.kept are.begun are.pointed led_at covers_at dds_at alone) alone
      (named-behind layout now job initiator before step None its leg.start leg.reach are.kept are.begun are.pointed led_at covers_at coming its.point.marks its_back.needed its_back.removed
      (kin-so layout now are job initiator before step None its leg led) sets refl are.kept.events.uses)
      are.ready are.written (λ within. absurd (false≢true within))

  start-kept : (deck : Option Job) → AreKept layout (office_after (Selected job initiator (suc before) step None, deck) now)
  start-kept deck =
      let behind : AgreesBehind layout (office_after (Selected job initiator (suc before) step None, deck) now) =
      subst (AgreesBehind layout) (sym (at_start.office-behind layout now job initiator before step its leg.start leg.reach are.kept are.begun are.pointed led_at covers_at dds_at deck)) agrees in
      record {
        kept = record { events = behind.events; stamps = behind.stamps; decks = behind.decks };
        pointed = behind.pointed;
        ready = at_start.start-ready layout now job initiator before step its leg.start leg.reach are.kept are.begun are.pointed led_at covers_at dds_at alone are.ready deck;
        begun = behind.begun;
        written = behind.written;
      }

  stands-at-start : (deck : Option Job) → (own : Leg) × StandsAt (office_after (Selected job initiator (suc before) step None, deck) now) job own (Opened step) its.point.count
  stands-at-start deck = (leg_at_start, start-stands layout now job initiator before step its leg.start leg.reach are.kept are.begun are.pointed led_at covers_at dds_at alone deck)

-- At a checkpoint.
module _ (layout : Layout) (now : Office) (are : AreKept layout now) (job initiator before step : ℕ) (id : Name) (its : MayContinue layout now.tables job initiator (suc before) step (Some id)) (leg : Leg) (led : leg_of now (suc before) ≡ Some leg)
    (entry : KeptEntry) (found : kept_at now.tables.sets (syschk_name its.row.deck) id ≡ Some entry) where
  led_there : leg_of now (suc before) ≡ Some (leg_from its.other leg.start leg.reach)
  led_there = led-so layout now are job initiator before step (Some id) its leg led

  covers_there : (name : Name) → is_some (mark_at its.point.marks name) ≡ is_among (names_of_job its.other.job) name
  covers_there = covers-so layout now are job initiator before step (Some id) its leg led

  entry_covers : (name : Name) → is_some (mark_at entry.point.marks name) ≡ is_among (names_of_job its.other.job) name
  entry_covers = entries.entry-covers layout now job initiator before step id its leg.start leg.reach are.kept.events are.pointed led_there entry found

  abbrev coming_there : Coming
  coming_there = at_entry.coming layout now job initiator before step id its leg.start leg.reach are.kept are.begun are.pointed led_there covers_there are.written entry found entry_covers

  abbrev back_there : Back
  back_there = at_entry.its_back layout now job initiator before step id its leg.start leg.reach are.kept are.begun are.pointed led_there covers_there are.written entry found entry_covers

  abbrev leg_at_entry : Leg
  leg_at_entry = at_entry.leg layout now job initiator before step id its leg.start leg.reach are.kept are.begun are.pointed led_there covers_there are.written entry found entry_covers

  abbrev sets_there : Named TableSet
  sets_there =
      sets_back (entries.row_at_entry layout now job initiator before step id its leg.start leg.reach are.kept.events are.kept.decks are.begun are.pointed led_there covers_there are.written entry found entry_covers) its.owned back_there now.tables.sets

  alone_there : (number : ℕ) (row : RunRow) (its_leg : Leg) (name : Name) → IsHolder now number row its_leg → is_among leg_at_entry.reach name ≡ true → is_among its_leg.reach name ≡ false
  alone_there = holders.alone layout now are.kept.events are.kept.decks job initiator before step (Some id) its leg.start leg.reach (kin-so layout now are job initiator before step (Some id) its leg led) coming_there entry.point.marks sets_there refl

  agrees_there : AgreesBehind layout (at_entry.behind layout now job initiator before step id its leg.start leg.reach are.kept are.begun are.pointed led_there covers_there are.written entry found entry_covers)
  agrees_there =
      agrees-behind layout now job initiator before step (Some id) its leg.start leg.reach are.kept are.begun are.pointed led_there covers_there coming_there entry.point.marks back_there.needed back_there.removed
      (deck_names its.other.job.root its.row.number its.row.deck)
      (at_entry.entry-continued layout now job initiator before step id its leg.start leg.reach are.kept are.begun are.pointed led_there covers_there are.written entry found entry_covers alone_there) alone_there
      (named-behind layout now job initiator before step (Some id) its leg.start leg.reach are.kept are.begun are.pointed led_there covers_there coming_there entry.point.marks back_there.needed back_there.removed
      (kin-so layout now are job initiator before step (Some id) its leg led) sets_there refl are.kept.events.uses)
      are.ready are.written
      (at_entry.entry-grown layout now job initiator before step id its leg.start leg.reach are.kept are.begun are.pointed led_there covers_there are.written entry found entry_covers)

  entry-kept : (deck : Option Job) → AreKept layout (office_after (Selected job initiator (suc before) step (Some id), deck) now)
  entry-kept deck =
      let behind : AgreesBehind layout (office_after (Selected job initiator (suc before) step (Some id), deck) now) =
      subst (AgreesBehind layout) (sym (at_entry.office-behind layout now job initiator before step id its leg.start leg.reach are.kept are.begun are.pointed led_there covers_there are.written entry found entry_covers deck)) agrees_there in
      record {
        kept = record { events = behind.events; stamps = behind.stamps; decks = behind.decks };
        pointed = behind.pointed;
        ready = at_entry.entry-ready layout now job initiator before step id its leg.start leg.reach are.kept are.begun are.pointed led_there covers_there are.written entry found entry_covers alone_there are.ready deck;
        begun = behind.begun;
        written = behind.written;
      }

  stands-at-entry : (deck : Option Job) → (own : Leg) × StandsAt (office_after (Selected job initiator (suc before) step (Some id), deck) now) job own (Within step entry.point.writes) entry.point.count
      × ((start : StepStart) → start_at own.job own.start step ≡ Some start → carries_taken entry.point.taken entry.point.writes start ≡ true)
  stands-at-entry deck = (
    leg_at_entry,
    entry-stands layout now job initiator before step id its leg.start leg.reach are.kept are.begun are.pointed led_there covers_there are.written entry found entry_covers alone_there deck,
    at_entry.taken-there layout now job initiator before step id its leg.start leg.reach are.kept are.begun are.pointed led_there covers_there are.written entry found entry_covers,
  )

-- ---- the event

module _ (layout : Layout) (now : Office) (are : AreKept layout now) (job initiator before step : ℕ) where
  -- what follows from the leg of the earlier run
  by-leg : {A : Type 0} (id : Option Name) (its : MayContinue layout now.tables job initiator (suc before) step id) → ((leg : Leg) → leg_of now (suc before) ≡ Some leg → A) → A
  by-leg id its each = is_some-true (leg_of now (suc before)) (are.begun.led (suc before) its.other its.other_at its.selected) each

  by-id : (id : Option Name) (deck : Option Job) → MayContinue layout now.tables job initiator (suc before) step id → AreKept layout (office_after (Selected job initiator (suc before) step id, deck) now)
  by-id None deck its = by-leg None its (λ leg led. start-kept layout now are job initiator before step its leg led deck)
  by-id (Some id) deck its = by-leg (Some id) its (λ leg led. by-entry (kept_at now.tables.sets (syschk_name its.row.deck) id) refl its.entry leg led)
    where
      by-entry : (entry : Option KeptEntry) → kept_at now.tables.sets (syschk_name its.row.deck) id ≡ entry → IsEntryOf its.other step (Some id) entry → (leg : Leg) → leg_of now (suc before) ≡ Some leg → AreKept layout (office_after (Selected job initiator (suc before) step (Some id), deck) now)
      by-entry None found of_run leg led = absurd of_run
      by-entry (Some entry) found of_run leg led = entry-kept layout now are job initiator before step id its leg led entry found deck

  -- At a checkpoint it stands at the entry, and its step goes on from there.
  pub continued-from-entry : (id : Name) (deck : Option Job) (its : MayContinue layout now.tables job initiator (suc before) step (Some id)) (entry : KeptEntry) → kept_at now.tables.sets (syschk_name its.row.deck) id ≡ Some entry
      → (own : Leg) × StandsAt (office_after (Selected job initiator (suc before) step (Some id), deck) now) job own (Within step entry.point.writes) entry.point.count
      × ((start : StepStart) → start_at own.job own.start step ≡ Some start → carries_taken entry.point.taken entry.point.writes start ≡ true)
  continued-from-entry id deck its entry found = by-leg (Some id) its (λ leg led. stands-at-entry layout now are job initiator before step id its leg led entry found deck)

  pub continued-kept : (id : Option Name) (deck : Option Job) → IsNext layout now (Selected job initiator (suc before) step id, deck) → AreKept layout (office_after (Selected job initiator (suc before) step id, deck) now)
  continued-kept id deck next =
      by-id id deck (may-continue layout now.tables job initiator (suc before) step id (λ zero_is. absurd (none zero_is)) (follows-of layout now (Selected job initiator (suc before) step id) deck next.may))
    where
      none : suc before ≡ 0 → ⊥
      none e = cc

-- ---- where the run stands then

module _ (layout : Layout) (now : Office) (are : AreKept layout now) (job initiator before step : ℕ) (deck : Option Job) where
  follows : (id : Option Name) → IsNext layout now (Selected job initiator (suc before) step id, deck) → MayContinue layout now.tables job initiator (suc before) step id
  follows id next = may-continue layout now.tables job initiator (suc before) step id (λ zero_is. absurd (none zero_is)) (follows-of layout now (Selected job initiator (suc before) step id) deck next.may)
    where
      none : suc before ≡ 0 → ⊥
      none e = cc

  -- at the start of the step
  pub continued-at-start : (other : RunRow) (point : StartPoint) → IsNext layout now (Selected job initiator (suc before) step None, deck) → run_of now.tables (suc before) ≡ Some other → point_at other.points step ≡ Some point
      → (leg : Leg) × StandsAt (office_after (Selected job initiator (suc before) step None, deck) now) job leg (Opened step) point.count
  continued-at-start other point next other_at has =
      let its = follows None next in
      let same_other : its.other ≡ other = some-one its.other other (run_of now.tables (suc before)) its.other_at other_at in
      let same_point : its.point ≡ point = some-one its.point point (point_at other.points step) (ap (λ (row : RunRow). point_at row.points step) (sym same_other) ∙ its.at_point) has in
      subst (λ (its : StartPoint). (leg : Leg) × StandsAt (office_after (Selected job initiator (suc before) step None, deck) now) job leg (Opened step) its.count) same_point
      (by-leg layout now are job initiator before step None its (λ leg led. stands-at-start layout now are job initiator before step its leg led deck))

  -- at a checkpoint
  pub continued-at-entry : (row : RunRow) (id : Name) (entry : KeptEntry) → IsNext layout now (Selected job initiator (suc before) step (Some id), deck) → run_of now.tables job ≡ Some row → kept_at now.tables.sets (syschk_name row.deck) id ≡ Some entry
      → (leg : Leg) × StandsAt (office_after (Selected job initiator (suc before) step (Some id), deck) now) job leg (Within step entry.point.writes) entry.point.count
  continued-at-entry row id entry next row_at found =
      let its = follows (Some id) next in
      let same : its.row ≡ row = some-one its.row row (run_of now.tables job) its.row_at row_at in
      by-leg layout now are job initiator before step (Some id) its
      (λ leg led. let stands = stands-at-entry layout now are job initiator before step id its leg led entry (ap (λ (row : RunRow). kept_at now.tables.sets (syschk_name row.deck) id) same ∙ found) deck in (stands.0, stands.1))
