-- A desk whose disk is trusted, behind an event that was kept.
use Rattle.std.proofs.Common.{◌≡◌, ◌++◌, ℕ, List, [], ◌∷◌, length, true, refl, ap, sym, ◌∙◌, subst, Some, Ok}
use Rattle.ckr_events.specs.declared.event.Event.{Event}
use Rattle.ckr_events.specs.Event.{IsEvent, spelling}
use Rattle.ckr_desk_refines.specs.Memory.Replay.{deck_of, goes_on}
use Rattle.ckr_desk_refines.proofs.Memory.Replays.{replayed-some}
use Rattle.ckr_desk_turn.specs.Invariant.{IsDesk}
use Rattle.ckr_desk_refines.specs.Commits.{HasCommitted}
use Rattle.ckr_desk_refines.specs.Entries.{HasEntries}
use Rattle.ckr_outside.specs.Disk.{Only}
use Rattle.ckr_points.specs.Events.{AreSound, IsNext}
use Rattle.ckr_points.specs.Office.{Office, office_after}
use Rattle.ckr_points.specs.Restart.{Decked, after_event}
use Rattle.ckr_points.specs.Rows.{no_tables}
use Rattle.ckr_desk_refines.specs.RewriteRecord.{HasCommittedAgain, HasLast, last_event}
use Rattle.ckr_desk_refines.specs.Standing.{StandsForDesk, desk_seen}
use Rattle.ckr_desk_refines.proofs.Standing.DeskView.{desk-so}
use Rattle.ckr_desk_store.specs.OpenImages.{Opens, event_records}
use Rattle.ckr_desk_turn.specs.Desk.{DeskModel}
use Rattle.ckr_volumes.specs.declared.layout.Layout.{Layout}
use Rattle.ckr_desk.proofs.Images.LastRecord.{again-only}
use Rattle.ckr_desk.proofs.Images.NextEvent.{events-more, office-grown, opens-grown, sound-grown}
use Rattle.ckr_desk.specs.Opening.{behind_records}
use Rattle.ckr_desk.specs.Soundness.{IsTrusted, events_in, last_on, office_on, state_of}
use Rattle.ckr_desk.specs.State.{DeskView}
use Rattle.ckr_desk.specs.Units.{OpensBehind}

-- the last of events
last-more : (events : List Decked) (decked : Decked) → last_event (events ++ decked ∷ []) ≡ Some decked.0
last-more [] decked = refl
last-more (first ∷ []) decked = refl
last-more (first ∷ next ∷ rest) decked = last-more (next ∷ rest) decked

pub last-grown : (layout : Layout) (old new : List ℕ) (event : Event) → IsEvent event → event_records layout new ≡ event_records layout old ++ spelling event ∷ [] → last_on layout new ≡ Some event
unfolding last_on
last-grown layout old new event is grown =
    ap (λ records. last_event (events_in records)) grown
    ∙ ap last_event (events-more (event_records layout old) event is)
    ∙ last-more (events_in (event_records layout old)) (event, deck_of event)

module _ {D : Type 0} (told : Type 0) (content : D → List ℕ) (may_leave : D → List ℕ → Type 0) where
  -- an event that may come to a trusted desk, and the desk of the events behind it
  pub record IsComing (event : Event) (old : DeskView D) (desk : DeskModel) : Type 0 where
    pub is_event : IsEvent event
    pub goes : goes_on old.store.layout old.jobs.tables.desk event (deck_of event) ≡ true
    pub next : IsNext old.store.layout (office_on old.store.layout (content old.store.disk)) (event, deck_of event)
    pub office : desk.office ≡ office_after (event, deck_of event) (office_on old.store.layout (content old.store.disk))
    pub layout_is : desk.layout ≡ old.store.layout
    pub is_desk : IsDesk desk
    pub last : HasLast desk.office (Some event)

  -- it was kept, and the jobs in memory stand for the desk of the events behind it
  pub record IsBehind (event : Event) (old new : DeskView D) (desk : DeskModel) : Type 0 where
    pub layout : new.store.layout ≡ old.store.layout
    pub events : event_records old.store.layout (content new.store.disk) ≡ event_records old.store.layout (content old.store.disk) ++ spelling event ∷ []
    pub tables : new.jobs.tables.desk ≡ after_event event (deck_of event) old.jobs.tables.desk
    pub stands : StandsForDesk old.store.layout new.jobs (content new.store.disk) desk
    pub entries : HasEntries old.store.layout desk.office (content new.store.disk)
    pub committed : (image : List ℕ) → may_leave new.store.disk image → HasCommittedAgain old.store.layout desk.office (Some event) image
    pub entries_left : (image : List ℕ) → may_leave new.store.disk image → HasEntries old.store.layout desk.office image

  -- where a stop leaves what a read gives
  module _ (event : Event) (layout : Layout) (new : DeskView D) (desk : DeskModel) (settled : Only (content new.store.disk) (may_leave new.store.disk)) where
    pub settled-committed : HasLast desk.office (Some event) → StandsForDesk layout new.jobs (content new.store.disk) desk
        → (image : List ℕ) → may_leave new.store.disk image → HasCommittedAgain layout desk.office (Some event) image
    settled-committed last stands =
        again-only layout desk.office (Some event) (content new.store.disk) (may_leave new.store.disk) last
        (subst (λ l. HasCommitted l desk.office (content new.store.disk)) stands.layout_is stands.committed) settled

    pub settled-entries : HasEntries layout desk.office (content new.store.disk) → (image : List ℕ) → may_leave new.store.disk image → HasEntries layout desk.office image
    settled-entries entries image may = subst (HasEntries layout desk.office) (sym (settled image may)) entries

  module _ (event : Event) (old new : DeskView D) (desk : DeskModel) (coming : IsComing event old desk) (is : IsBehind event old new desk) where
    abbrev layout : Layout
    layout = old.store.layout

    office-so : office_on layout (content new.store.disk) ≡ desk.office
    office-so = office-grown layout (content old.store.disk) (content new.store.disk) event coming.is_event is.events ∙ sym coming.office

    last-so : last_on layout (content new.store.disk) ≡ Some event
    last-so = last-grown layout (content old.store.disk) (content new.store.disk) event coming.is_event is.events

    entries-so : (image : List ℕ) → HasEntries layout desk.office image → HasEntries new.store.layout (office_on new.store.layout (content new.store.disk)) image
    entries-so image has =
        subst (λ l. HasEntries l (office_on l (content new.store.disk)) image) (sym is.layout)
        (subst (λ (o : Office). HasEntries layout o image) (sym office-so) has)

    -- the desk of the events is what is seen in memory
    pub desk-behind : desk ≡ (state_of content new).desk
    desk-behind =
        desk-so layout new.jobs (content new.store.disk) desk is.stands
        ∙ ap (λ o. desk_seen layout o new.jobs) (sym office-so)
        ∙ ap (λ l. desk_seen l (office_on l (content new.store.disk)) new.jobs) (sym is.layout)

    pub trusted-behind : OpensBehind content may_leave (Some event) old new → IsTrusted told content may_leave old → IsTrusted told content may_leave new
    trusted-behind opens trusted = record {
      tells = trusted.tells;
      opens = subst (λ l. behind_records l no_tables 0 (event_records l (content new.store.disk)) ≡ Ok new.jobs.tables.desk) (sym is.layout)
          (ap (λ records. behind_records layout no_tables 0 records) is.events
          ∙ opens-grown layout (event_records layout (content old.store.disk)) old.jobs.tables.desk (after_event event (deck_of event) old.jobs.tables.desk) event trusted.opens coming.is_event
          (replayed-some layout old.jobs.tables.desk event coming.goes)
          ∙ ap Ok (sym is.tables));
      events = subst (λ l. AreSound l (events_in (event_records l (content new.store.disk)))) (sym is.layout)
          (subst (λ records. AreSound layout (events_in records)) (sym is.events)
          (sound-grown layout (content old.store.disk) event coming.is_event trusted.events coming.next));
      stands = subst (λ d. StandsForDesk new.store.layout new.jobs (content new.store.disk) d) desk-behind
          (subst (λ l. StandsForDesk l new.jobs (content new.store.disk) desk) (sym is.layout) is.stands);
      last = subst (λ l. HasLast (office_on l (content new.store.disk)) (last_on l (content new.store.disk))) (sym is.layout)
          (subst (λ o. HasLast o (last_on layout (content new.store.disk))) (sym office-so)
          (subst (λ e. HasLast desk.office e) (sym last-so) coming.last));
      opens_left = λ image may.
          subst (λ (l : Layout). Opens l (length image) (λ records. records ≡ event_records l (content new.store.disk)) image) (sym is.layout)
          (let its : Opens layout (length image) (λ records. records ≡ event_records layout (content old.store.disk) ++ spelling event ∷ []) image = opens image may in
          record { head = its.head; list = its.list ∙ sym is.events; closed = its.closed });
      committed = λ image may.
          subst (λ l. HasCommittedAgain l (office_on l (content new.store.disk)) (last_on l (content new.store.disk)) image) (sym is.layout)
          (subst (λ o. HasCommittedAgain layout o (last_on layout (content new.store.disk)) image) (sym office-so)
          (subst (λ e. HasCommittedAgain layout desk.office e image) (sym last-so) (is.committed image may)));
      entries = entries-so (content new.store.disk) is.entries;
      entries_left = λ image may. entries-so image (is.entries_left image may);
    }
