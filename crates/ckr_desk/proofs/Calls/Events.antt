-- A call that is one event with its deck, on a trusted disk.
use Rattle.std.proofs.Common.{◌≡◌, ◌≤◌, ◌+◌, ◌-◌, ◌++◌, ℕ, suc, List, [], ◌∷◌, true, length, refl, ap, sym, ◌∙◌, subst, ⊎_elim, arith, Option, Some, None, Ok}
use Rattle.std.proofs.lemmas.Bool.{and_from, le-leb}
use Rattle.ckr_base.proofs.Options.{some-not-none}
use Rattle.ckr_book.specs.Book.{IsBeforeOrAfter, room_of}
use Rattle.ckr_base.proofs.Numbers.{nat_le-from}
use Rattle.ckr_events.specs.declared.event.Event.{Event}
use Rattle.ckr_events.specs.declared.event.Event.TheVariants.{Submitted, Purged, Released}
use Rattle.ckr_events.specs.Event.{IsEvent, spelling}
use Rattle.ckr_jcl.specs.declared.deck.Job.{Job}
use Rattle.ckr_jcl_decks.specs.Deck.{stored_deck}
use Rattle.ckr_desk_refines.specs.Memory.Replay.{deck_of, goes_on, has_few_digits}
use Rattle.ckr_desk_turn.proofs.NextEvents.BetweenSteps.{purged_comes, released_comes}
use Rattle.ckr_desk_turn.proofs.Select.{purged-keeps, released-keeps, stored-comes, stored-keeps}
use Rattle.ckr_desk_turn.specs.Invariant.{IsDesk}
use Rattle.ckr_desk_refines.specs.Commits.{HasCommitted}
use Rattle.ckr_desk_refines.specs.Entries.{HasEntries}
use Rattle.ckr_outside.specs.Disk.{Only}
use Rattle.ckr_points.specs.declared.run.RunState.TheVariants.{Held, Queued}
use Rattle.ckr_points.specs.Events.{IsNext}
use Rattle.ckr_points.specs.Office.{Office, office_after}
use Rattle.ckr_points.specs.Restart.{after_event}
use Rattle.ckr_points.specs.Rows.{RunRow, run_of}
use Rattle.ckr_desk_refines.specs.RewriteRecord.{RewriteRecord, rewrite_of}
use Rattle.ckr_desk_refines.specs.Moves.{HasSameRecords, HaveMoved}
use Rattle.ckr_desk_refines.specs.Standing.{StandsForDesk}
use Rattle.ckr_desk_store.specs.OpenImages.{Opens, event_records}
use Rattle.ckr_desk_turn.proofs.Decks.KeptCards.{kept_accepted}
use Rattle.ckr_desk_turn.specs.Cards.{kept_of_stored}
use Rattle.ckr_desk_refines.proofs.Events.Turns.{purged-committed, purged-stands, release-stands, released-committed, submitted-committed, submitted-stands}
use Rattle.ckr_desk_turn.specs.Desk.{DeskModel, behind}
use Rattle.ckr_volumes.specs.declared.layout.Layout.{Layout}
use Rattle.ckr_desk.proofs.Images.Entries.{HasNewOne, behind-same}
use Rattle.ckr_desk.proofs.Images.LastRecord.{again-so}
use Rattle.ckr_desk.proofs.Images.Soundness.{kept-behind, kept-left, kept-same}
use Rattle.ckr_desk.proofs.Trust.Events.{IsBehind, IsComing, desk-behind, settled-committed, settled-entries, trusted-behind}
use Rattle.ckr_desk.specs.Requests.{behind_call, call_fits}
use Rattle.ckr_desk.specs.Calls.{HasGoneOn, IsLeftBy, may_keep}
use Rattle.ckr_desk.specs.Rewrite.{OpensSame}
use Rattle.ckr_desk.specs.Soundness.{HasKept, IsTrusted, office_on, state_of}
use Rattle.ckr_desk.specs.State.{RoomyDesk, DeskView, need_of}
use Rattle.ckr_desk.specs.Units.{OpensBehind}

module _ {D : Type 0} (told : Type 0) (content : D → List ℕ) (may_leave : D → List ℕ → Type 0) (size : D → ℕ)
    (old : DeskView D) (trusted : IsTrusted told content may_leave old) where
  abbrev layout : Layout
  layout = old.store.layout

  abbrev desk : DeskModel
  desk = (state_of content old).desk

  -- what is to be known of the event of a call
  pub record IsCalled (event : Event) (deck : Option Job) : Type 0 where
    pub is_event : IsEvent event
    pub decked : deck_of event ≡ deck
    pub digits : has_few_digits event ≡ true
    pub quiet : (tables : _) → rewrite_of tables event ≡ None
    pub takes : (now : Office) (image : List ℕ) → HasNewOne layout now event image
    pub next : IsNext layout desk.office (event, deck)
    pub kept : IsDesk (behind event deck desk)
    pub stand : (new : DeskView D) → HaveMoved event deck old.jobs new.jobs → HasSameRecords layout (content old.store.disk) (content new.store.disk)
        → StandsForDesk layout new.jobs (content new.store.disk) (behind event deck desk)
    pub commits : (image : List ℕ) → HasSameRecords layout (content old.store.disk) image → HasCommitted layout (behind event deck desk).office image

  module _ (event : Event) (deck : Option Job) (its : IsCalled event deck) where
    coming : may_keep event deck old ≡ true → IsComing told content may_leave event old (behind event deck desk)
    coming might = record {
      is_event = its.is_event;
      goes = subst (λ d. goes_on layout old.jobs.tables.desk event d ≡ true) (sym its.decked)
          (and_from (has_few_digits event) _ its.digits might);
      next = subst (λ d. IsNext layout desk.office (event, d)) (sym its.decked) its.next;
      office = ap (λ d. office_after (event, d) (office_on layout (content old.store.disk))) (sym its.decked);
      layout_is = refl;
      is_desk = its.kept;
      last = λ (rewrite : RewriteRecord) is. absurd (some-not-none rewrite (sym is ∙ its.quiet (behind event deck desk).office.tables));
    }

    -- an image with the same records has the entries behind it
    entries-so : may_keep event deck old ≡ true → (image : List ℕ) → HasSameRecords layout (content old.store.disk) image → HasEntries layout (behind event deck desk).office image
    entries-so might image same =
        behind-same told content may_leave old trusted event (behind event deck desk) (coming might) (content old.store.disk) image
        (its.takes desk.office (content old.store.disk)) trusted.entries same

    behind-so : (new : DeskView D) → new.store.layout ≡ layout → HasGoneOn event deck old new
        → event_records layout (content new.store.disk) ≡ event_records layout (content old.store.disk) ++ spelling event ∷ []
        → HasSameRecords layout (content old.store.disk) (content new.store.disk) → Only (content new.store.disk) (may_leave new.store.disk)
        → IsBehind told content may_leave event old new (behind event deck desk)
    behind-so new same gone events records settled = record {
      layout = same;
      events = events;
      tables = gone.moved.tables ∙ ap (λ d. after_event event d old.jobs.tables.desk) (sym its.decked);
      stands = its.stand new gone.moved records;
      entries = entries-so gone.might (content new.store.disk) records;
      committed = settled-committed told content may_leave event layout new (behind event deck desk) settled (coming gone.might).last (its.stand new gone.moved records);
      entries_left = settled-entries told content may_leave event layout new (behind event deck desk) settled (entries-so gone.might (content new.store.disk) records);
    }

    module _ (new : DeskView D) (same : new.store.layout ≡ layout) (gone : HasGoneOn event deck old new)
        (events : event_records layout (content new.store.disk) ≡ event_records layout (content old.store.disk) ++ spelling event ∷ [])
        (records : HasSameRecords layout (content old.store.disk) (content new.store.disk)) (settled : Only (content new.store.disk) (may_leave new.store.disk)) where
      pub called-trusted : OpensBehind content may_leave (Some event) old new → IsTrusted told content may_leave new
      called-trusted opens = trusted-behind told content may_leave event old new (behind event deck desk) (coming gone.might) (behind-so new same gone events records settled) opens trusted

      pub called-fits : call_fits (state_of content old) (Some (event, deck)) ≡ true
      unfolding call_fits
      called-fits = le-leb (need_of event) (room_of old.store.book) gone.fits

      pub called-state : state_of content new ≡ behind_call (state_of content old) (Some (event, deck))
      unfolding behind_call
      called-state =
          ap (λ (d : DeskModel). state_as d (room_of new.store.book))
          (sym (desk-behind told content may_leave event old new (behind event deck desk) (coming gone.might) (behind-so new same gone events records settled)))
          ∙ ap (state_as (behind event deck desk)) (let e : room_of new.store.book ≡ room_of old.store.book - (length (spelling event) + 5) = omega (arith, gone.room) in e)
        where
          state_as : DeskModel → ℕ → RoomyDesk
          state_as d room = record { desk = d; room = room }

    -- what a stop leaves
    pub called-kept : (image : List ℕ) → IsLeftBy content may_leave size event deck old image
        → HasKept layout (size old.store.disk) (event_records layout (content old.store.disk)) (spelling event ∷ []) image
    called-kept image left = ⊎_elim
        (λ (was : OpensSame content size old image × may_leave old.store.disk image). kept-left told content may_leave size old trusted (spelling event ∷ []) image was.0 was.1)
        (λ (now : (may_keep event deck old ≡ true) × Opens layout (size old.store.disk) (IsBeforeOrAfter (event_records layout (content old.store.disk)) (spelling event)) image × HasSameRecords layout (content old.store.disk) image).
        ⊎_elim
        (λ same. kept-same told content may_leave size old trusted (spelling event ∷ []) image (record { head = now.1.head; list = same; closed = now.1.closed }) now.2)
        (λ more. kept-behind told content may_leave size old trusted event (behind event deck desk) (coming now.0) image (record { head = now.1.head; list = more; closed = now.1.closed })
        (again-so layout (behind event deck desk).office (Some event) image (coming now.0).last (its.commits image now.2)) (entries-so now.0 image now.2))
        now.1.list)
        left

  -- ---- a deck that is submitted

  pub called-deck : (cards : List ℕ) (deck : Job) → 81 ≤ length cards → stored_deck cards ≡ Ok deck → suc (length old.jobs.tables.desk.runs) ≤ 9999999
      → IsEvent (Submitted (suc (length old.jobs.tables.desk.runs)) (kept_of_stored cards))
      → IsCalled (Submitted (suc (length old.jobs.tables.desk.runs)) (kept_of_stored cards)) (Some deck)
  called-deck cards deck some accepted digits is_event =
      let number : suc (length old.jobs.tables.desk.runs) ≡ suc (length desk.office.tables.runs) = ap (λ t. suc (length t.runs)) trusted.stands.tables in
      let few : suc (length desk.office.tables.runs) ≤ 9999999 = subst (λ n. n ≤ 9999999) number digits in
      record {
        is_event = is_event;
        decked = kept_accepted cards deck some accepted;
        digits = nat_le-from (suc (length old.jobs.tables.desk.runs)) 9999999 digits;
        quiet = λ tables. refl;
        takes = λ now image. tt;
        next = subst (λ n. IsNext layout desk.office (Submitted n (kept_of_stored cards), Some deck)) (sym number) (stored-comes desk cards deck few some accepted);
        kept = subst (λ n. IsDesk (behind (Submitted n (kept_of_stored cards)) (Some deck) desk)) (sym number)
            (stored-keeps desk trusted.stands.is_desk cards deck few some accepted);
        stand = λ new moved records.
            subst (λ n. StandsForDesk layout new.jobs (content new.store.disk) (behind (Submitted n (kept_of_stored cards)) (Some deck) desk)) (sym number)
            (submitted-stands layout old.jobs new.jobs (content old.store.disk) (content new.store.disk) desk cards deck trusted.stands few some accepted
            (subst (λ n. HaveMoved (Submitted n (kept_of_stored cards)) (Some deck) old.jobs new.jobs) number moved) records);
        commits = λ image records.
            subst (λ n. HasCommitted layout (behind (Submitted n (kept_of_stored cards)) (Some deck) desk).office image) (sym number)
            (submitted-committed layout old.jobs (content old.store.disk) desk cards deck trusted.stands few some accepted image records);
      }

  -- ---- a run that is purged

  pub called-purged : (job : ℕ) (row : RunRow) → run_of old.jobs.tables.desk job ≡ Some row → row.state ≡ Queued → IsEvent (Purged job) → IsCalled (Purged job) None
  called-purged job row at queued is_event =
      let there : run_of desk.office.tables job ≡ Some row = ap (λ t. run_of t job) (sym trusted.stands.tables) ∙ at in
      record {
        is_event = is_event;
        decked = refl;
        digits = refl;
        quiet = λ tables. refl;
        takes = λ now image. tt;
        next = record { may = purged_comes desk job row there queued; carried = refl };
        kept = purged-keeps desk trusted.stands.is_desk job row there queued;
        stand = λ new moved records. purged-stands layout old.jobs new.jobs (content old.store.disk) (content new.store.disk) desk job row trusted.stands there queued moved records;
        commits = λ image records. purged-committed layout old.jobs (content old.store.disk) desk job row trusted.stands there queued image records;
      }

  -- ---- a run that is released

  pub called-released : (job : ℕ) (row : RunRow) → run_of old.jobs.tables.desk job ≡ Some row → row.state ≡ Held → IsEvent (Released job) → IsCalled (Released job) None
  called-released job row at held is_event =
      let there : run_of desk.office.tables job ≡ Some row = ap (λ t. run_of t job) (sym trusted.stands.tables) ∙ at in
      record {
        is_event = is_event;
        decked = refl;
        digits = refl;
        quiet = λ tables. refl;
        takes = λ now image. tt;
        next = record { may = released_comes desk job row there held; carried = refl };
        kept = released-keeps desk trusted.stands.is_desk job row there held;
        stand = λ new moved records. release-stands layout old.jobs new.jobs (content old.store.disk) (content new.store.disk) desk job row trusted.stands there held moved records;
        commits = λ image records. released-committed layout old.jobs (content old.store.disk) desk job row trusted.stands there held image records;
      }
