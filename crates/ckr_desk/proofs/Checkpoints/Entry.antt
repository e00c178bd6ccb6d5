-- The entry of a checkpoint is written, on a trusted disk: what the images of a stop have then.
use Rattle.std.proofs.Common.{◌≡◌, ℕ, List, length, refl, ap, sym, ◌∙◌, subst, Some}
use Rattle.ckr_base.proofs.Numbers.{equal-true}
use Rattle.ckr_base.proofs.Sequences.{find-passes}
use Rattle.ckr_desk_refines.specs.Memory.EventChanges.{is_of_run}
use Rattle.ckr_entry.specs.Entry.{IsEntry, spelling as bytes_of}
use Rattle.ckr_desk_refines.specs.Memory.Checkpoint.{Checkpoint}
use Rattle.ckr_desk_refines.specs.Memory.Checkpoints.{IsCheckpointOf}
use Rattle.ckr_desk_refines.specs.Memory.View.{RunningStepView, jobs_of}
use Rattle.ckr_library.specs.Catalog.{records_of}
use Rattle.ckr_library.specs.declared.sets.DataSet.{DataSet}
use Rattle.ckr_meaning.specs.EffectiveJob.{OwnedStep, names_of}
use Rattle.ckr_meaning.specs.StepRun.{StepStart}
use Rattle.ckr_points.specs.Office.{Office}
use Rattle.ckr_points.specs.Rows.{RunRow, TablesModel, run_of}
use Rattle.ckr_desk_refines.specs.Tables.Checkpoint.{checkpoint_name}
use Rattle.ckr_steps.specs.EntryRecords.{HasEntry, SameRecordsOutside}
use Rattle.ckr_volumes.specs.declared.layout.Layout.{Layout}
use Rattle.ckr_volumes.specs.SamePlaces.{SamePlaces}
use Rattle.ckr_desk_refines.proofs.Checkpoints.Desk.{check_is, content-so, keeps-from}
use Rattle.ckr_desk_refines.proofs.Checkpoints.Turn.{fits-told, its-step, known, pair}
use Rattle.ckr_desk_refines.proofs.Checkpoints.Turns.{committed-before, entries-before, entries-behind, entry-made, event-made}
use Rattle.ckr_desk_refines.specs.Checkpoints.{IsToTake, IsWrittenBehind}
use Rattle.ckr_desk_refines.specs.Commits.{HasCommitted}
use Rattle.ckr_desk_refines.specs.Entries.{HasEntries}
use Rattle.ckr_desk_refines.specs.RewriteRecord.{HasCommittedAgain}
use Rattle.ckr_desk_store.specs.OpenImages.{event_records}
use Rattle.ckr_desk_turn.specs.Checkpoints.{check_set, next_entry}
use Rattle.ckr_desk_turn.specs.declared.plan.Plan.TheVariants.{Take}
use Rattle.ckr_desk_turn.specs.Turns.{IsMountedTurnOf, MountedTurn, plan_for}
use Rattle.ckr_desk_turn.specs.Desk.{DeskModel}
use Rattle.ckr_desk_turn.specs.Taken.{taken_of}
use Rattle.ckr_desk_turn.specs.Units.{StepProgress}
use Rattle.ckr_desk.proofs.Checkpoints.EntryForm.{entry-spelled}
use Rattle.ckr_desk.proofs.Checkpoints.Parts.{fits-ranged}
use Rattle.ckr_desk.proofs.Checkpoints.Steps.{far, its_pair, own-is, row-there, to-take}
use Rattle.ckr_desk.proofs.Images.Entries.{within-now}
use Rattle.ckr_desk.proofs.Images.LastRecord.{again-keeping}
use Rattle.ckr_desk.proofs.Images.Soundness.{kept-before}
use Rattle.ckr_desk.specs.Checkpoint.{HasWrittenEntry, IsLeftByEntry, IsMade}
use Rattle.ckr_desk.specs.Soundness.{HasKept, IsTrusted, last_on, office_on, state_of}
use Rattle.ckr_desk.specs.State.{DeskView}

module _ {D : Type 0} (told : Type 0) (content : D → List ℕ) (may_leave : D → List ℕ → Type 0) (moment : D → ℕ) (left_since : D → ℕ → List ℕ → Type 0) (size : D → ℕ)
    (old : DeskView D) (trusted : IsTrusted told content may_leave old) (turn : MountedTurn) (its : IsMountedTurnOf old.store.layout turn) (run : ℕ) (planned : plan_for old.store.layout (jobs_of old.jobs) turn ≡ Take run)
    (made : Checkpoint) (is : IsMade run old made) where
  abbrev layout : Layout
  layout = old.store.layout

  abbrev image : List ℕ
  image = content old.store.disk

  abbrev office : Office
  office = office_on layout image

  abbrev pub desk : DeskModel
  desk = (state_of content old).desk

  abbrev pub on : RunningStepView
  on = is.on

  abbrev pub to : IsToTake layout old.jobs image desk turn run on
  to = to-take told content may_leave size old trusted turn its run planned on is.found

  abbrev row : RunRow
  row = (its_pair told content may_leave size old trusted turn its run planned on is.found).going.row

  abbrev start : StepStart
  start = (its_pair told content may_leave size old trusted turn its run planned on is.found).going.start

  abbrev progress : StepProgress
  progress = (its_pair told content may_leave size old trusted turn its run planned on is.found).step.progress

  abbrev pub count : ℕ
  count = records_of (length made.entry.items)

  its-run : on.run ≡ run
  its-run = equal-true on.run run (find-passes (is_of_run run) old.jobs.running on is.found)

  pub of-office : IsCheckpointOf office.tables on made
  of-office = subst (λ (t : TablesModel). IsCheckpointOf t on made) trusted.stands.tables is.of

  pub event-is : (taken_of run desk).event ≡ Some made.event
  event-is = event-made layout old.jobs image desk turn run on to made of-office

  row-so : of-office.row ≡ row
  row-so = row-there told content may_leave size old trusted turn its run planned on is.found of-office.row (ap (run_of office.tables) (sym its-run) ∙ of-office.row_at)

  own-so : of-office.own ≡ start.owned
  own-so = own-is told content may_leave size old trusted turn its run planned on is.found of-office.row of-office.own row-so of-office.found

  check-so : check_set start ≡ Some of-office.check
  check-so =
      sym (ap (λ (root : ℕ). checkpoint_name root start.owned) (far told content may_leave size old trusted turn its run planned on is.found).root)
      ∙ ap (λ (o : OwnedStep). checkpoint_name row.job.root o) (sym own-so)
      ∙ ap (λ (r : RunRow). checkpoint_name r.job.root of-office.own) (sym row-so)
      ∙ of-office.named

  -- only records behind the last one of its data set differ
  pub behind-from : (from left : List ℕ) → SameRecordsOutside layout made.set made.set.length count from left → IsWrittenBehind layout office run count from left
  behind-from from left outside = record {
    row = row;
    start = start;
    of = its-step layout old.jobs image desk turn run on to;
    name = of-office.check;
    is = check-so;
    table = of-office.table;
    at = of-office.there;
    set = made.set;
    places = subst (SamePlaces of-office.table.set) (sym of-office.set) (record { parts = refl; lrecl = refl });
    space = ap (λ (s : DataSet). s.space) of-office.set;
    outside = subst (λ (place : ℕ). SameRecordsOutside layout made.set place count from left) (ap (λ (s : DataSet). s.length) of-office.set) outside;
  }

  left-committed : (from left : List ℕ) → IsWrittenBehind layout office run count from left → HasCommitted layout office from → HasCommitted layout office left
  left-committed from left behind committed = committed-before layout old.jobs image desk turn run on to made.event event-is from left count committed behind

  -- so it is where the record of the last event is lacked
  left-again : (from left : List ℕ) → IsWrittenBehind layout office run count from left → HasCommittedAgain layout office (last_on layout image) from → HasCommittedAgain layout office (last_on layout image) left
  left-again from left behind committed =
      let p = pair layout old.jobs image desk turn run on to in
      let fits = fits-told layout old.jobs image desk turn run on to made.event event-is in
      let named = check_is layout old.jobs image desk turn run on to from left count behind in
      again-keeping layout office (last_on layout image) (names_of p.stands.start.root p.stands.start.owned) on.sets trusted.stands.is_desk.kept.events.extents p.stands.sets from left
      (keeps-from layout old.jobs image desk turn run on to from left count behind (content-so layout old.jobs image desk turn run on to fits behind.name named behind.table behind.at)) committed

  left-entries : (from left : List ℕ) → IsWrittenBehind layout office run count from left → HasEntries layout office from → HasEntries layout office left
  left-entries from left behind entries = entries-before layout old.jobs image desk turn run on to made.event event-is from left count (within-now told content may_leave old trusted) entries behind

  -- what a stop leaves meanwhile
  pub entry-kept : (came : List (List ℕ)) (left : List ℕ) → IsLeftByEntry content may_leave size made old left → HasKept layout (size old.store.disk) (event_records layout image) came left
  entry-kept came left by =
      let behind : IsWrittenBehind layout office run count by.1.0 left = behind-from by.1.0 left by.1.2 in
      kept-before told content may_leave size old trusted came left by.0 (left-again by.1.0 left behind (trusted.committed by.1.0 by.1.1)) (left-entries by.1.0 left behind (trusted.entries_left by.1.0 by.1.1))

  module _ (mid : DeskView D) (wrote : HasWrittenEntry told content may_leave moment left_since made old mid) where
    abbrev pub after : List ℕ
    after = content mid.store.disk

    pub behind-after : IsWrittenBehind layout office run count image after
    behind-after = behind-from image after (wrote.changes.reads trusted.tells)

    pub committed-after : HasCommitted layout office after
    committed-after = left-committed image after behind-after trusted.stands.committed

    pub entries-after : HasEntries layout office after
    entries-after = left-entries image after behind-after trusted.entries

    -- its bytes are those of an entry
    is-entry : IsEntry (next_entry office.tables.sets row start progress)
    is-entry =
        entry-spelled layout old.jobs image desk turn run on to (far told content may_leave size old trusted turn its run planned on is.found) made of-office row-so own-so
        (fits-ranged office.tables.sets row start progress (fits-told layout old.jobs image desk turn run on to made.event event-is))

    entry-there : HasEntry after layout made.set of-office.table.set.length (bytes_of (next_entry office.tables.sets row start progress))
    entry-there =
        subst (λ (place : ℕ). HasEntry after layout made.set place (bytes_of (next_entry office.tables.sets row start progress))) (ap (λ (s : DataSet). s.length) of-office.set)
        (subst (HasEntry after layout made.set made.set.length)
        (entry-made layout old.jobs image desk turn run on to made of-office row start progress (its-step layout old.jobs image desk turn run on to) (known layout old.jobs image desk turn run on to))
        (wrote.entry trusted.tells))

    -- and with its event the disk has the entries that the tables keep
    pub entries-then : HasEntries layout (taken_of run desk).desk.office after
    unfolding behind-from behind-after
    entries-then =
        entries-behind layout old.jobs image desk turn run on to made.event event-is after after count behind-after progress (known layout old.jobs image desk turn run on to) is-entry entry-there entries-after
