-- A desk that is the same to its callers is trusted as before.
use Rattle.std.proofs.Common.{◌≡◌, ◌==◌, ℕ, true, false, List, length, refl, ap, sym, ◌∙◌, subst, Ok, Option, Some, map}
use Rattle.std.proofs.lemmas.Bool.{false≢true}
use Rattle.std.specs.Option.{option_map_or}
use Rattle.ckr_base.proofs.Bools.{and-first}
use Rattle.ckr_book.specs.Book.{room_of}
use Rattle.ckr_desk_refines.specs.Memory.Invariant.{is_in_step}
use Rattle.ckr_desk_refines.specs.Memory.View.{JobsView, RunningStepView}
use Rattle.ckr_desk_refines.specs.Entries.{HasEntries}
use Rattle.ckr_desk_turn.specs.declared.failed_run.FailedRun.{FailedRun}
use Rattle.ckr_points.specs.Events.{AreSound}
use Rattle.ckr_points.specs.Follows.{is_in_state, of_run, state_number}
use Rattle.ckr_points.specs.Office.{Office, is_holder}
use Rattle.ckr_points.specs.Rows.{RunRow, TablesModel, no_tables, run_of}
use Rattle.ckr_points.specs.declared.run.RunState.{RunState}
use Rattle.ckr_points.specs.declared.run.RunState.TheVariants.{Queued}
use Rattle.ckr_desk_refines.specs.RewriteRecord.{HasCommittedAgain, HasLast}
use Rattle.ckr_desk_refines.specs.Standing.{AllStand, PointsStand, StandsForDesk, StandsForPoint, step_on}
use Rattle.ckr_desk_store.specs.OpenImages.{Opens, event_records}
use Rattle.ckr_desk_turn.specs.Desk.{DeskModel}
use Rattle.ckr_volumes.specs.declared.layout.Layout.{Layout}
use Rattle.ckr_desk.specs.Opening.{behind_records}
use Rattle.ckr_desk.specs.NoChange.{HaveStayed}
use Rattle.ckr_desk.specs.Soundness.{IsTrusted, events_in, last_on, office_on, state_of}
use Rattle.ckr_desk.specs.State.{RoomyDesk, DeskView}

-- a run within its step that holds its names doesn't wait in the queue
step-waits-not : (tables : TablesModel) (run : ℕ) (row : RunRow) → run_of tables run ≡ Some row → is_in_step row ≡ true → of_run tables run (is_in_state Queued) ≡ false
step-waits-not tables run row at inside =
    ap (λ (o : Option RunRow). option_map_or (is_in_state Queued) o false) at ∙ by row.state (and-first (is_holder row.state) _ inside)
  where
    by : (state : RunState) → is_holder state ≡ true → (state_number state == state_number Queued) ≡ false
    by Queued holds = absurd (false≢true holds)
    by _ holds = refl

-- the points in memory still stand
points-same : (office : Office) (old new : JobsView) → HaveStayed old new → old.tables.desk ≡ office.tables → PointsStand office old.points → PointsStand office new.points
points-same office old new same tables stand run row entry start at inside effect start_at =
    let its : StandsForPoint old.points run start entry = stand run row entry start at inside effect start_at in
    record {
      point = its.point;
      found = same.points run (ap (λ (t : TablesModel). of_run t run (is_in_state Queued)) tables ∙ step-waits-not office.tables run row at inside) ∙ its.found;
      stands = its.stands;
      writes = its.writes;
      unclosed = its.unclosed;
      served = its.served;
    }

pub stands-same : (layout : Layout) (old new : JobsView) (image : List ℕ) (desk : DeskModel) → HaveStayed old new → StandsForDesk layout old image desk → StandsForDesk layout new image desk
stands-same layout old new image desk same stands = record {
  layout_is = stands.layout_is;
  is_desk = stands.is_desk;
  tables = same.tables ∙ stands.tables;
  failed = same.failed ∙ stands.failed;
  running = subst (λ (r : List RunningStepView). AllStand desk.layout desk.office image r desk.running) (sym same.running) stands.running;
  differ_so = stands.differ_so;
  points = points-same desk.office old new same stands.tables stands.points;
  committed = stands.committed;
}

module _ {D : Type 0} (told : Type 0) (content : D → List ℕ) (may_leave : D → List ℕ → Type 0) where
  -- the disk reads the same, and leaves nothing else
  pub record IsAsBefore (old new : DeskView D) : Type 0 where
    pub jobs : HaveStayed old.jobs new.jobs
    pub layout : new.store.layout ≡ old.store.layout
    pub room : room_of new.store.book ≡ room_of old.store.book
    pub reads : content new.store.disk ≡ content old.store.disk
    pub none_new : (image : List ℕ) → may_leave new.store.disk image → may_leave old.store.disk image

  module _ (old new : DeskView D) (is : IsAsBefore old new) where
    pub state-same : state_of content new ≡ state_of content old
    state-same =
        ap (λ l. state_with l (content new.store.disk) new.jobs.running new.jobs.failed (room_of new.store.book)) is.layout
        ∙ ap (λ bytes. state_with old.store.layout bytes new.jobs.running new.jobs.failed (room_of new.store.book)) is.reads
        ∙ ap (λ running. state_with old.store.layout (content old.store.disk) running new.jobs.failed (room_of new.store.book)) is.jobs.running
        ∙ ap (λ failed. state_with old.store.layout (content old.store.disk) old.jobs.running failed (room_of new.store.book)) is.jobs.failed
        ∙ ap (state_with old.store.layout (content old.store.disk) old.jobs.running old.jobs.failed) is.room
      where
        state_with : Layout → List ℕ → List RunningStepView → List FailedRun → ℕ → RoomyDesk
        state_with layout bytes running failed room = record { desk = record { layout = layout; office = office_on layout bytes; running = map step_on running; failed = failed }; room = room }

    entries-same : (image : List ℕ) → HasEntries old.store.layout (office_on old.store.layout (content old.store.disk)) image → HasEntries new.store.layout (office_on new.store.layout (content new.store.disk)) image
    entries-same image has =
        subst (λ l. HasEntries l (office_on l (content new.store.disk)) image) (sym is.layout)
        (subst (λ bytes. HasEntries old.store.layout (office_on old.store.layout bytes) image) (sym is.reads) has)

    pub trusted-same : IsTrusted told content may_leave old → IsTrusted told content may_leave new
    trusted-same trusted = record {
      tells = trusted.tells;
      opens = subst (λ l. behind_records l no_tables 0 (event_records l (content new.store.disk)) ≡ Ok new.jobs.tables.desk) (sym is.layout)
          (subst (λ bytes. behind_records old.store.layout no_tables 0 (event_records old.store.layout bytes) ≡ Ok new.jobs.tables.desk) (sym is.reads)
          (trusted.opens ∙ ap Ok (sym is.jobs.tables)));
      events = subst (λ l. AreSound l (events_in (event_records l (content new.store.disk)))) (sym is.layout)
          (subst (λ bytes. AreSound old.store.layout (events_in (event_records old.store.layout bytes))) (sym is.reads) trusted.events);
      stands = subst (λ (s : RoomyDesk). StandsForDesk new.store.layout new.jobs (content new.store.disk) s.desk) (sym state-same)
          (subst (λ l. StandsForDesk l new.jobs (content new.store.disk) (state_of content old).desk) (sym is.layout)
          (subst (λ bytes. StandsForDesk old.store.layout new.jobs bytes (state_of content old).desk) (sym is.reads)
          (stands-same old.store.layout old.jobs new.jobs (content old.store.disk) (state_of content old).desk is.jobs trusted.stands)));
      last = subst (λ l. HasLast (office_on l (content new.store.disk)) (last_on l (content new.store.disk))) (sym is.layout)
          (subst (λ bytes. HasLast (office_on old.store.layout bytes) (last_on old.store.layout bytes)) (sym is.reads) trusted.last);
      opens_left = λ image may.
          subst (λ (l : Layout). Opens l (length image) (λ records. records ≡ event_records l (content new.store.disk)) image) (sym is.layout)
          (subst (λ bytes. Opens old.store.layout (length image) (λ records. records ≡ event_records old.store.layout bytes) image) (sym is.reads) (trusted.opens_left image (is.none_new image may)));
      committed = λ image may.
          subst (λ l. HasCommittedAgain l (office_on l (content new.store.disk)) (last_on l (content new.store.disk)) image) (sym is.layout)
          (subst (λ bytes. HasCommittedAgain old.store.layout (office_on old.store.layout bytes) (last_on old.store.layout bytes) image) (sym is.reads)
          (trusted.committed image (is.none_new image may)));
      entries = entries-same (content new.store.disk) (subst (HasEntries old.store.layout (office_on old.store.layout (content old.store.disk))) (sym is.reads) trusted.entries);
      entries_left = λ image may. entries-same image (trusted.entries_left image (is.none_new image may));
    }
