-- A run that may be selected to continue another one at a checkpoint does continue it, in the tables behind the event.
use Rattle.std.proofs.Common.{◌≡◌, ◌≤◌, ℕ, suc, true, List, ◌++◌, length, refl, ap, sym, ◌∙◌, subst, Option, Some, None}
use Rattle.std.specs.List.{find}
use Rattle.std.specs.Option.{is_some, option_map_or}
use Rattle.std.proofs.lemmas.Bool.{false≢true}
use Rattle.ckr_base.proofs.Bools.{and-second}
use Rattle.ckr_base.proofs.Options.{some-not-none, some-one}
use Rattle.ckr_base.proofs.Sequences.{find-holds}
use Rattle.ckr_events.specs.declared.event.Event.TheVariants.{Selected}
use Rattle.ckr_jcl.specs.declared.deck.Job.{Job}
use Rattle.ckr_library.proofs.Named.{each-at}
use Rattle.ckr_library.specs.NameMaps.{Name, entry_at, same_name}
use Rattle.ckr_meaning.specs.EffectiveJob.{OwnedStep, is_among, names_of_job, step_at}
use Rattle.ckr_meaning.specs.JobRun.{at}
use Rattle.ckr_meaning.specs.LibrarySet.{Library}
use Rattle.ckr_meaning.specs.StepRun.{work_at}
use Rattle.ckr_meaning.specs.declared.place.Place.TheVariants.{Within}
use Rattle.ckr_volumes.specs.declared.layout.Layout.{Layout}
use Rattle.ckr_points.specs.Marks.{deck_names, lost_names, mark_at, own_names}
use Rattle.ckr_points.specs.Office.{Leg, Office, leg_of, continued_leg}
use Rattle.ckr_points.specs.Restart.{Back, after_entry_continued, after_event, continued_row, deferred_entry, kept_at, syschk_name, sets_back}
use Rattle.ckr_points.specs.Rows.{KeptEntry, RunRow, TableSet, run_of}
use Rattle.ckr_points_invariant.specs.Invariant.{AreAlike, AreOrderly, IsAgreed}
use Rattle.ckr_points_invariant.specs.Points.{ArePointed, IsPointAt}
use Rattle.ckr_points_invariant.specs.StartedSteps.{AreBegunSteps, start_by}
use Rattle.ckr_points_invariant.proofs.Continuations.Follows.{after-selected, fresh-entry}
use Rattle.ckr_points_invariant.proofs.Continuations.Freshness.{DeterminesMaking}
use Rattle.ckr_points_invariant.proofs.Continuations.Needed.{needed-entry}
use Rattle.ckr_points_invariant.proofs.Marks.Points.{among-filter}
use Rattle.ckr_points_invariant.proofs.Restart.Invariant.{point-covers, point-of, point-says}
use Rattle.ckr_points_invariant.proofs.Continuations.EarlierRun.{Coming, IsContinued, IsEarlier, IsPutBack, leg_from, row_then, sets_then, tables_then}
use Rattle.ckr_points.specs.Tables.{fresh_effect}
use Rattle.ckr_points_invariant.specs.Points.{AreEntryPoints}
use Rattle.ckr_points_invariant.specs.WrittenEntries.{AreWrittenEntries, IsWrittenEntry}
use Rattle.ckr_points_invariant.proofs.Continuations.WrittenEntries.Marks.{kept-so}
use Rattle.ckr_points_invariant.proofs.Continuations.Selections.Earlier as earlier
use Rattle.ckr_points_invariant.specs.Restorability.{HasPoint}
use Rattle.ckr_points_invariant.specs.EarlierRuns.{IsEntryOf, MayContinue}

module _ (layout : Layout) (now : Office) (job initiator before step : ℕ) (id : Name) (its : MayContinue layout now.tables job initiator (suc before) step (Some id)) (start : Library) (reach : List Name)
    (kept : IsAgreed layout now) (pointed : ArePointed now) (led : leg_of now (suc before) ≡ Some (leg_from its.other start reach))
    (entry : KeptEntry) (found : kept_at now.tables.sets (syschk_name its.row.deck) id ≡ Some entry) where
  abbrev kept_in : Name
  kept_in = syschk_name its.row.deck

  -- it is an entry of the earlier run, within the step
  pub of-run : (entry.point.run ≡ its.other.number) × (entry.point.step ≡ step)
  of-run = subst (IsEntryOf its.other step (Some id)) found its.entry

  -- the data set that keeps it
  pub in-table : (table : TableSet) × (entry_at now.tables.sets kept_in ≡ Some table) × (find (λ (one : KeptEntry). same_name one.kept.id id) table.entries ≡ Some entry)
  in-table = by (entry_at now.tables.sets kept_in) refl found
    where
      by : (o : Option TableSet) → entry_at now.tables.sets kept_in ≡ o → option_map_or (λ (table : TableSet). find (λ (one : KeptEntry). same_name one.kept.id id) table.entries) o None ≡ Some entry
          → (table : TableSet) × (entry_at now.tables.sets kept_in ≡ Some table) × (find (λ (one : KeptEntry). same_name one.kept.id id) table.entries ≡ Some entry)
      by None e is = absurd (some-not-none entry (sym is))
      by (Some table) e is = (table, e, is)

  -- it is a point of the earlier run's job, within the step
  pub point-at : IsPointAt now.legs (suc before) (Within step entry.point.writes) entry.point.marks entry.point.passed
  point-at =
      subst (λ run. IsPointAt now.legs run (Within step entry.point.writes) entry.point.marks entry.point.passed) (of-run.0 ∙ kept.numbered (suc before) its.other its.other_at)
      (subst (λ n. IsPointAt now.legs entry.point.run (Within n entry.point.writes) entry.point.marks entry.point.passed) of-run.1
      (find-holds (λ (entry : KeptEntry). IsPointAt now.legs entry.point.run (Within entry.point.step entry.point.writes) entry.point.marks entry.point.passed) (λ (one : KeptEntry). same_name one.kept.id id) in-table.0.entries entry
      (each-at (λ (table : TableSet). AreEntryPoints now.legs table.entries) now.tables.sets pointed.entries kept_in in-table.0 in-table.1) in-table.2))

  -- It marks the names of that job and no other.
  pub entry-covers : (name : Name) → is_some (mark_at entry.point.marks name) ≡ is_among (names_of_job its.other.job) name
  entry-covers = point-covers now (suc before) (leg_from its.other start reach) (Within step entry.point.writes) entry.point.marks entry.point.passed led point-at

  -- It says what the earlier run's job has there.
  pub pointed-entry : HasPoint (leg_from its.other start reach) (Within step entry.point.writes) entry.point.marks entry.point.passed
  pointed-entry = point-of now (suc before) (leg_from its.other start reach) (Within step entry.point.writes) entry.point.marks entry.point.passed led point-at

module _ (layout : Layout) (now : Office) (job initiator before step : ℕ) (id : Name) (its : MayContinue layout now.tables job initiator (suc before) step (Some id)) (start : Library) (reach : List Name)
    (kept : IsAgreed layout now) (orderly : AreOrderly now.tables) (begun : AreBegunSteps now) (pointed : ArePointed now) (led : leg_of now (suc before) ≡ Some (leg_from its.other start reach))
    (covers : (name : Name) → is_some (mark_at its.point.marks name) ≡ is_among (names_of_job its.other.job) name)
    (written : AreWrittenEntries now) (entry : KeptEntry) (found : kept_at now.tables.sets (syschk_name its.row.deck) id ≡ Some entry)
    (entry_covers : (name : Name) → is_some (mark_at entry.point.marks name) ≡ is_among (names_of_job its.other.job) name) where
  abbrev its_leg : Leg
  its_leg = leg_from its.other start reach

  abbrev earlier-start : IsEarlier now its.row its.other its_leg step its.point
  earlier-start = earlier.earlier-start layout now job initiator before step (Some id) its start reach kept orderly begun pointed led covers

  same-step : its.owned ≡ earlier-start.begun.owned
  same-step = earlier.same-step layout now job initiator before step (Some id) its start reach kept orderly begun pointed led covers

  abbrev row_before : RunRow
  row_before = continued_row its.row its.other step its.point initiator now.tables.sets

  abbrev set : Name
  set = syschk_name its.row.deck

  of-earlier : (entry.point.run ≡ its.other.number) × (entry.point.step ≡ step)
  of-earlier = of-run layout now job initiator before step id its start reach kept pointed led entry found

  entry-point : IsPointAt now.legs (suc before) (Within step entry.point.writes) entry.point.marks entry.point.passed
  entry-point = point-at layout now job initiator before step id its start reach kept pointed led entry found

  written-so : IsWrittenEntry now set entry
  written-so = (kept-so now set id entry written found).1

  -- it has a byte
  pub entry-room : 1 ≤ entry.kept.bytes
  entry-room = written-so.of_run.room

  -- its writes are some of the step's
  pub few-writes : entry.point.writes ≤ length (work_at (start_by its_leg earlier-start.begun.owned step)).writes
  few-writes =
      let run_is : entry.point.run ≡ suc before = of-earlier.0 ∙ earlier.other_is layout now job initiator before step (Some id) its start reach kept orderly begun pointed led covers in
      let same_leg : written-so.leg ≡ its_leg = some-one written-so.leg its_leg (leg_of now entry.point.run) written-so.leg_at (ap (leg_of now) run_is ∙ led) in
      let same_row : written-so.row ≡ its.other = some-one written-so.row its.other (run_of now.tables entry.point.run) written-so.row_at (ap (run_of now.tables) run_is ∙ its.other_at) in
      let there : step_at its.other.job step ≡ Some written-so.of_run.owned = ap (λ (row : RunRow). step_at row.job step) (sym same_row) ∙ ap (step_at written-so.row.job) (sym of-earlier.1) ∙ written-so.of_run.found in
      let same_owned : written-so.of_run.owned ≡ earlier-start.begun.owned = some-one written-so.of_run.owned earlier-start.begun.owned (step_at its.other.job step) there earlier-start.begun.found in
      subst (λ (owned : OwnedStep). entry.point.writes ≤ length (work_at (start_by its_leg owned step)).writes) same_owned
      (subst (λ n. entry.point.writes ≤ length (work_at (start_by its_leg written-so.of_run.owned n)).writes) of-earlier.1
      (subst (λ (leg : Leg). entry.point.writes ≤ length (work_at (start_by leg written-so.of_run.owned entry.point.step)).writes) same_leg written-so.of_run.done))

  -- ---- where it comes to

  -- with the checkpoint in effect
  abbrev pub row_at_entry : RunRow
  row_at_entry = record row_before { in_effect = Some (fresh_effect set entry.kept) }

  abbrev pub back : Back
  back = deferred_entry row_at_entry step entry.point

  abbrev pub named : List Name
  named = own_names row_before ++ deck_names row_before.job.root row_before.number row_before.deck

  abbrev pub coming : Coming
  coming = record {
    place = Within step entry.point.writes;
    count = entry.point.count;
    passed = entry.point.passed;
    lost = lost_names entry.point.marks named (sets_back row_at_entry its.owned back now.tables.sets) entry.point.passed;
    effect = Some (fresh_effect set entry.kept);
  }

  abbrev pub next : RunRow
  next = row_then now its.row its.other step its.point initiator coming

  -- the tables behind the event are those
  pub tables-behind : (deck : Option Job) → after_event (Selected job initiator (suc before) step (Some id)) deck now.tables ≡ tables_then now next (sets_then now its.other its.owned entry.point.marks back.needed back.removed)
  tables-behind deck =
      after-selected layout now.tables job initiator before step (Some id) deck its
      ∙ ap (λ (o : Option KeptEntry). option_map_or (λ entry. after_entry_continued row_before its.owned step set entry now.tables) o now.tables) found

  pub back-entry : IsPutBack now next its.other its.owned start coming entry.point.marks back.needed back.removed named
  back-entry = record {
    all = record { marked = λ name among. entry_covers name ∙ among; alone = λ name has. sym (entry_covers name) ∙ has; says = point-says now (suc before) its_leg (Within step entry.point.writes) entry.point.marks entry.point.passed led entry-point };
    are = needed-entry row_before.job step entry.point.marks;
    judged = fresh-entry layout now.tables job initiator (suc before) step id its entry found;
    needed_own = λ name among. and-second (is_some (mark_at entry.point.marks name)) _ (sym (among-filter (λ name. is_some (mark_at entry.point.marks name)) (own_names next) name) ∙ among);
    removed_own = λ name gone. absurd (false≢true gone);
    lost = refl;
  }

  -- A run that may be selected continues the earlier one.
  pub continued-entry : (left : (name : Name) → is_among (continued_leg now next its_leg).reach name ≡ true → AreAlike now.tables.sets now.library name)
      → (making : (name : Name) → is_among (continued_leg now next its_leg).reach name ≡ true → DeterminesMaking now.tables.sets (at its.other.job start (Within step entry.point.writes)).sets name)
      → IsContinued now its.row its.other start reach step its.point initiator coming entry.point.marks back.needed back.removed (deck_names row_before.job.root row_before.number row_before.deck)
  continued-entry left making = record {
    earlier = earlier-start;
    restart = ap is_some its.has;
    comes = (refl, few-writes);
    passed = (point-of now (suc before) its_leg (Within step entry.point.writes) entry.point.marks entry.point.passed led entry-point).passed_on;
    back = subst (λ (owned : OwnedStep). IsPutBack now next its.other owned start coming entry.point.marks back.needed back.removed named) same-step back-entry;
    left = left;
    making = making;
  }
