-- The event of a checkpoint is kept behind its entry, on a trusted disk.
use Rattle.std.proofs.Common.{◌≡◌, ◌≤◌, ◌+◌, ◌-◌, ◌++◌, ◌&&◌, ℕ, List, [], ◌∷◌, true, length, take, refl, ap, sym, ◌∙◌, subst, ⊎_elim, arith, Option, Some, None, Ok}
use Rattle.std.specs.Prelude.{if◌then◌else◌}
use Rattle.std.proofs.lemmas.Bool.{and_from, le-leb}
use Rattle.ckr_base.proofs.Options.{some-not-none}
use Rattle.ckr_book.specs.Book.{IsBeforeOrAfter, ends_closed, room_of}
use Rattle.ckr_console.specs.declared.question.Answer.{Answer}
use Rattle.ckr_events.specs.declared.event.Event.{Event}
use Rattle.ckr_events.specs.Event.{spelling}
use Rattle.ckr_desk_refines.specs.Memory.Checkpoint.{Checkpoint}
use Rattle.ckr_desk_refines.specs.Memory.EventChanges.{points_behind}
use Rattle.ckr_desk_refines.specs.Memory.RewriteCounts.{may_count}
use Rattle.ckr_desk_refines.specs.Memory.Replay.{deck_of, goes_on, has_few_digits}
use Rattle.ckr_desk.proofs.Turns.Events.{small-digits}
use Rattle.ckr_desk_refines.specs.Memory.RunningSteps.{GoesOn}
use Rattle.ckr_desk_refines.specs.Memory.View.{JobsView, RunningStepView, jobs_of}
use Rattle.ckr_jcl.specs.declared.deck.Job.{Job}
use Rattle.ckr_outside.specs.Disk.{EachSince, Only, part}
use Rattle.ckr_outside.specs.Moments.{and_then}
use Rattle.ckr_points.specs.Events.{IsNext}
use Rattle.ckr_points.specs.Follows.{follows}
use Rattle.ckr_points.specs.Office.{Office, office_after}
use Rattle.ckr_points.specs.Restart.{after_event}
use Rattle.ckr_points.specs.Rows.{TablesModel}
use Rattle.ckr_volumes.specs.declared.layout.Layout.{Layout}
use Rattle.ckr_volumes.specs.Header.{header_of}
use Rattle.ckr_desk_refines.proofs.Checkpoints.Turn.{event-told, fits-told, known, pair, taken-by, taken-kept, unclosed}
use Rattle.ckr_desk_refines.proofs.Checkpoints.Turns.{committed-behind, stand}
use Rattle.ckr_desk_refines.proofs.Entries.Images.{moved-kept}
use Rattle.ckr_desk_refines.proofs.Entries.There.{has-then}
use Rattle.ckr_desk_refines.proofs.Events.Commits.{committed-moves}
use Rattle.ckr_desk_refines.specs.Commits.{HasCommitted}
use Rattle.ckr_desk_refines.specs.Entries.{HasEntries}
use Rattle.ckr_desk_refines.specs.Standing.{StandsForDesk}
use Rattle.ckr_desk_refines.specs.Moves.{HasSameRecords, HaveMoved}
use Rattle.ckr_desk_refines.specs.RewriteRecord.{RewriteRecord, rewrite_of}
use Rattle.ckr_desk_store.specs.OpenImages.{Opens, event_records}
use Rattle.ckr_desk_store.specs.State.{StoreView}
use Rattle.ckr_desk_turn.proofs.Checkpoints.Invariant.{taken-keeps}
use Rattle.ckr_desk_turn.proofs.Checkpoints.Steps.{id-ranged}
use Rattle.ckr_desk_turn.specs.Checkpoints.{checkpoint_fits, next_id}
use Rattle.ckr_desk_turn.specs.declared.plan.Plan.TheVariants.{Take}
use Rattle.ckr_points.specs.declared.reply.Chkpt.TheVariants.{Done}
use Rattle.ckr_points.specs.declared.reply.Reply.{Reply}
use Rattle.ckr_points.specs.declared.reply.Reply.TheVariants.{Checkpointed}
use Rattle.ckr_desk_turn.specs.Turns.{IsMountedTurnOf, MountedTurn, plan_for}
use Rattle.ckr_desk_turn.specs.Desk.{DeskModel, TurnDone, failed_behind}
use Rattle.ckr_desk_turn.specs.NextEvents.{EventComes}
use Rattle.ckr_desk_turn.specs.Taken.{taken_of}
use Rattle.ckr_desk.proofs.Checkpoints.Entry.{behind-after, committed-after, entries-after, entries-then, entry-kept, event-is, to}
use Rattle.ckr_desk.proofs.Checkpoints.Parts.{fits-ranged}
use Rattle.ckr_desk.proofs.Checkpoints.Steps.{reply-for, turned-take}
use Rattle.ckr_desk.proofs.Images.Entries.{laid-then, same-has, within-then}
use Rattle.ckr_desk.proofs.Images.NextEvent.{deck-none}
use Rattle.ckr_desk.proofs.Images.LastRecord.{again-so}
use Rattle.ckr_desk.proofs.Images.Soundness.{kept-behind, kept-whole}
use Rattle.ckr_desk.proofs.Trust.Events.{IsBehind, IsComing, desk-behind, settled-committed, settled-entries, trusted-behind}
use Rattle.ckr_desk.specs.Calls.{HasGoneOn, IsLeftBy, may_keep}
use Rattle.ckr_desk.specs.Checkpoint.{HasWrittenEntry, IsLeftByEntry, IsMade, IsReplyWith}
use Rattle.ckr_desk.specs.Requests.{has_room, room_behind, spelled}
use Rattle.ckr_desk.specs.Rewrite.{OpensSame}
use Rattle.ckr_desk.specs.Soundness.{HasKept, IsTrusted, KeepsWithin, office_on, state_of}
use Rattle.ckr_desk.specs.State.{DeskView, RoomyDesk, need_of}
use Rattle.ckr_desk.specs.Turn.{behind_turn, event_of_turn, reply_of, turn_fits}
use Rattle.ckr_desk.specs.Units.{OpensBehind}

module _ {D : Type 0} (told : Type 0) (content : D → List ℕ) (may_leave : D → List ℕ → Type 0) (moment : D → ℕ) (left_since : D → ℕ → List ℕ → Type 0) (size : D → ℕ)
    (old : DeskView D) (trusted : IsTrusted told content may_leave old) (turn : MountedTurn) (its : IsMountedTurnOf old.store.layout turn) (run : ℕ) (planned : plan_for old.store.layout (jobs_of old.jobs) turn ≡ Take run)
    (made : Checkpoint) (is : IsMade run old made) (answer : Answer) where
  abbrev layout : Layout
  layout = old.store.layout

  abbrev image : List ℕ
  image = content old.store.disk

  abbrev office : Office
  office = office_on layout image

  abbrev desk : DeskModel
  desk = (state_of content old).desk

  abbrev event : Event
  event = made.event

  abbrev later : DeskModel
  later = (taken_of run desk).desk

  abbrev on : RunningStepView
  on = is.on

  told-so : (taken_of run desk).event ≡ Some event
  told-so = event-is told content may_leave moment left_since size old trusted turn its run planned made is

  none-decked : deck_of event ≡ None
  none-decked = deck-none event is.spelled.small

  rewrites-none : (tables : TablesModel) (rewrite : RewriteRecord) → rewrite_of tables event ≡ Some rewrite → ⊥
  rewrites-none tables rewrite same = some-not-none rewrite (sym same ∙ ap (rewrite_of tables) is.of.event)

  pub event-turn : event_of_turn (state_of content old) turn answer ≡ Some event
  unfolding event_of_turn
  event-turn = ap (λ (done : TurnDone). done.event) (turned-take told content may_leave size old trusted turn its run planned answer) ∙ told-so

  -- ---- the desk behind it

  fits : checkpoint_fits office.tables.sets (pair layout old.jobs image desk turn run on (to told content may_leave moment left_since size old trusted turn its run planned made is)).going.row
      (pair layout old.jobs image desk turn run on (to told content may_leave moment left_since size old trusted turn its run planned made is)).going.start
      (pair layout old.jobs image desk turn run on (to told content may_leave moment left_since size old trusted turn its run planned made is)).step.progress ≡ true
  fits = fits-told layout old.jobs image desk turn run on (to told content may_leave moment left_since size old trusted turn its run planned made is) event told-so

  office-then : later.office ≡ office_after (event, None) office
  office-then =
      let its_to = to told content may_leave moment left_since size old trusted turn its run planned made is in
      ap (λ (done : TurnDone). done.desk.office) (taken-by layout old.jobs image desk turn run on its_to true fits)
      ∙ ap (λ (e : Event). office_after (e, None) office) (sym (event-told layout old.jobs image desk turn run on its_to fits event told-so))

  layout-then : later.layout ≡ layout
  layout-then =
      ap (λ (done : TurnDone). done.desk.layout) (taken-by layout old.jobs image desk turn run on (to told content may_leave moment left_since size old trusted turn its run planned made is) true fits)

  comes : IsNext layout office (event, None)
  comes =
      let its_to = to told content may_leave moment left_since size old trusted turn its run planned made is in
      subst (EventComes desk) told-so
      (taken-keeps desk run (pair layout old.jobs image desk turn run on its_to).step.progress trusted.stands.is_desk (known layout old.jobs image desk turn run on its_to) (unclosed layout old.jobs image desk turn run on its_to)).comes

  pub coming : may_keep event None old ≡ true → IsComing told content may_leave event old later
  coming might = record {
    is_event = is.spelled.event;
    goes = subst (λ (d : Option Job). goes_on layout old.jobs.tables.desk event d ≡ true) (sym none-decked)
        (and_from (has_few_digits event) _ (small-digits event is.spelled.small) might);
    next = subst (λ (d : Option Job). IsNext layout office (event, d)) (sym none-decked) comes;
    office = office-then ∙ ap (λ (d : Option Job). office_after (event, d) office) (sym none-decked);
    layout_is = layout-then;
    is_desk = taken-kept layout old.jobs image desk turn run on (to told content may_leave moment left_since size old trusted turn its run planned made is);
    last = λ rewrite same. absurd (rewrites-none later.office.tables rewrite same);
  }

  module _ (mid : DeskView D) (wrote : HasWrittenEntry told content may_leave moment left_since made old mid) where
    abbrev after : List ℕ
    after = content mid.store.disk

    layout-same : mid.store.layout ≡ layout
    layout-same = ap (λ (store : StoreView D). store.layout) wrote.store

    room-same : room_of mid.store.book ≡ room_of old.store.book
    room-same = ap (λ (store : StoreView D). room_of store.book) wrote.store

    tables-same : mid.jobs.tables.desk ≡ old.jobs.tables.desk
    tables-same = ap (λ (jobs : JobsView). jobs.tables.desk) wrote.jobs

    pub might-before : may_keep event None mid ≡ true → may_keep event None old ≡ true
    might-before might =
        ap (λ (tables : TablesModel). follows layout tables event None && may_count event tables.sets) (sym tables-same)
        ∙ ap (λ (l : Layout). follows l mid.jobs.tables.desk event None && may_count event mid.jobs.tables.desk.sets) (sym layout-same)
        ∙ might

    -- an image with the same records, and with the event
    entries-so : may_keep event None old ≡ true → (left : List ℕ) → HasSameRecords layout after left → HasEntries layout later.office left
    entries-so might left same =
        has-then layout later.office after left (within-then told content may_leave old trusted event later (coming might))
        (moved-kept layout later.office.tables.sets (laid-then told content may_leave old trusted event later (coming might)) after left same)
        (entries-then told content may_leave moment left_since size old trusted turn its run planned made is mid wrote)

    committed-so : (left : List ℕ) → HasSameRecords layout after left → HasCommitted layout later.office left
    committed-so left same =
        committed-behind layout old.jobs image desk turn run on (to told content may_leave moment left_since size old trusted turn its run planned made is) event told-so after left _
        (behind-after told content may_leave moment left_since size old trusted turn its run planned made is mid wrote) same

    -- ---- behind it

    module _ (new : DeskView D) (gone : HasGoneOn event None mid new)
        (events : event_records mid.store.layout (content new.store.disk) ≡ event_records mid.store.layout after ++ spelling event ∷ []) (records : HasSameRecords mid.store.layout after (content new.store.disk))
        (settled : Only (content new.store.disk) (may_leave new.store.disk)) where
      same_records : HasSameRecords layout after (content new.store.disk)
      same_records = subst (λ (l : Layout). HasSameRecords l after (content new.store.disk)) layout-same records

      moved : HaveMoved event None old.jobs new.jobs
      moved = record {
        tables = gone.moved.tables ∙ ap (after_event event None) tables-same;
        running = subst (λ (jobs : JobsView). GoesOn event new.jobs.tables.desk jobs.points jobs.running new.jobs.running) wrote.jobs gone.moved.running;
        failed = gone.moved.failed ∙ ap (λ (jobs : JobsView). failed_behind event jobs.failed) wrote.jobs;
        points = gone.moved.points ∙ ap (λ (jobs : JobsView). points_behind event new.jobs.running jobs.points) wrote.jobs;
      }

      stands-so : StandsForDesk layout new.jobs (content new.store.disk) later
      stands-so =
          stand layout old.jobs image desk turn run on (to told content may_leave moment left_since size old trusted turn its run planned made is) event told-so new.jobs after (content new.store.disk) _ moved
          (behind-after told content may_leave moment left_since size old trusted turn its run planned made is mid wrote) same_records

      behind-so : IsBehind told content may_leave event old new later
      behind-so = record {
        layout = gone.layout ∙ layout-same;
        events = subst (λ (l : Layout). event_records l (content new.store.disk) ≡ event_records l after ++ spelling event ∷ []) layout-same events
            ∙ ap (λ before. before ++ spelling event ∷ []) (wrote.events trusted.tells);
        tables = moved.tables ∙ ap (λ (d : Option Job). after_event event d old.jobs.tables.desk) (sym none-decked);
        stands = stands-so;
        entries = entries-so (might-before gone.might) (content new.store.disk) same_records;
        committed = settled-committed told content may_leave event layout new later settled (coming (might-before gone.might)).last stands-so;
        entries_left = settled-entries told content may_leave event layout new later settled (entries-so (might-before gone.might) (content new.store.disk) same_records);
      }

      pub taken-fits : turn_fits (state_of content old) turn answer ≡ true
      unfolding turn_fits
      taken-fits =
          ap (has_room (room_of old.store.book)) event-turn
          ∙ le-leb (need_of event) (room_of old.store.book) (subst (λ room. need_of event ≤ room) room-same gone.fits)

      opens-behind : OpensBehind content may_leave (Some event) mid new → (left : List ℕ) → may_leave new.store.disk left → Opens layout (length left) (λ records. records ≡ event_records layout image ++ spelling event ∷ []) left
      opens-behind opens left may =
          let by : Opens layout (length left) (λ records. records ≡ event_records layout after ++ spelling event ∷ []) left =
          subst (λ (l : Layout). Opens l (length left) (λ records. records ≡ event_records l after ++ spelling event ∷ []) left) layout-same (opens left may) in
          record { head = by.head; list = by.list ∙ ap (λ before. before ++ spelling event ∷ []) (wrote.events trusted.tells); closed = by.closed }

      pub taken-trusted : OpensBehind content may_leave (Some event) mid new → IsTrusted told content may_leave new
      taken-trusted opens = trusted-behind told content may_leave event old new later (coming (might-before gone.might)) behind-so (opens-behind opens) trusted

      pub taken-state : state_of content new ≡ behind_turn (state_of content old) turn answer
      unfolding behind_turn
      taken-state =
          ap (λ (d : DeskModel). state_as d (room_of new.store.book)) (sym (desk-behind told content may_leave event old new later (coming (might-before gone.might)) behind-so))
          ∙ ap (state_as later) (let e : room_of new.store.book ≡ room_of old.store.book - (length (spelling event) + 5) = omega (arith, gone.room, room-same) in e)
          ∙ ap (λ (e : Option Event). state_as later (room_behind (room_of old.store.book) e)) (sym event-turn)
          ∙ ap (λ (d : TurnDone). state_as d.desk (room_behind (room_of old.store.book) (event_of_turn (state_of content old) turn answer))) (sym (turned-take told content may_leave size old trusted turn its run planned answer))
        where
          state_as : DeskModel → ℕ → RoomyDesk
          state_as d room = record { desk = d; room = room }

      pub taken-events : event_records layout (content new.store.disk) ≡ event_records layout image ++ spelled (event_of_turn (state_of content old) turn answer)
      taken-events = behind-so.events ∙ ap (λ (e : Option Event). event_records layout image ++ spelled e) (sym event-turn)

    -- ---- what a stop leaves meanwhile

    abbrev came : List (List ℕ)
    came = spelling event ∷ []

    abbrev before : List (List ℕ)
    before = event_records layout image

    module _ (sized : size mid.store.disk ≡ size old.store.disk) where
      head-so : (left : List ℕ) → header_of (take 512 left) (size mid.store.disk) ≡ Ok mid.store.layout → header_of (take 512 left) (size old.store.disk) ≡ Ok layout
      head-so left head = ap (header_of (take 512 left)) (sym sized) ∙ head ∙ ap Ok layout-same

      closed-so : (left : List ℕ) → ends_closed (part 512 mid.store.layout.book left) → ends_closed (part 512 layout.book left)
      closed-so left closed = subst (λ (l : Layout). ends_closed (part 512 l.book left)) layout-same closed

      records-so : (left : List ℕ) (more : List (List ℕ)) → event_records mid.store.layout left ≡ event_records mid.store.layout after ++ more → event_records layout left ≡ before ++ more
      records-so left more same = subst (λ (l : Layout). event_records l left ≡ event_records l after ++ more) layout-same same ∙ ap (λ records. records ++ more) (wrote.events trusted.tells)

      opens-so : (left : List ℕ) → OpensSame content size mid left → OpensSame content size old left
      opens-so left opens = record {
        head = head-so left opens.head;
        list = subst (λ (l : Layout). event_records l left ≡ event_records l after) layout-same opens.list ∙ wrote.events trusted.tells;
        closed = closed-so left opens.closed;
      }

      -- without the event
      same-kept : (left : List ℕ) → OpensSame content size mid left → HasSameRecords layout after left → HasKept layout (size old.store.disk) before came left
      same-kept left opens same =
          kept-whole told content may_leave size old trusted came left (opens-so left opens)
          (committed-moves layout office after left trusted.stands.is_desk.kept same (committed-after told content may_leave moment left_since size old trusted turn its run planned made is mid wrote))
          (same-has told content may_leave old trusted after left (entries-after told content may_leave moment left_since size old trusted turn its run planned made is mid wrote) same)

      told-kept : (left : List ℕ) → may_keep event None mid ≡ true → Opens mid.store.layout (size mid.store.disk) (IsBeforeOrAfter (event_records mid.store.layout after) (spelling event)) left
          → HasSameRecords mid.store.layout after left → HasKept layout (size old.store.disk) before came left
      told-kept left might opens keeps =
          let same : HasSameRecords layout after left = subst (λ (l : Layout). HasSameRecords l after left) layout-same keeps in
          ⊎_elim
          (λ (was : event_records mid.store.layout left ≡ event_records mid.store.layout after). same-kept left (record { head = opens.head; list = was; closed = opens.closed }) same)
          (λ (now : event_records mid.store.layout left ≡ event_records mid.store.layout after ++ came).
          kept-behind told content may_leave size old trusted event later (coming (might-before might)) left (record { head = head-so left opens.head; list = records-so left came now; closed = closed-so left opens.closed })
          (again-so layout later.office (Some event) left (coming (might-before might)).last (committed-so left same)) (entries-so (might-before might) left same))
          opens.list

      image-kept : (left : List ℕ) → IsLeftBy content may_leave size event None mid left → HasKept layout (size old.store.disk) before came left
      image-kept left by = ⊎_elim
          (λ (was : OpensSame content size mid left × may_leave mid.store.disk left).
          same-kept left was.0 (subst (HasSameRecords layout after) (sym (wrote.settled left was.1)) (λ set n stands within. refl)))
          (λ (now : (may_keep event None mid ≡ true) × Opens mid.store.layout (size mid.store.disk) (IsBeforeOrAfter (event_records mid.store.layout after) (spelling event)) left × HasSameRecords mid.store.layout after left).
          told-kept left now.0 now.1 now.2)
          by

      pub taken-kept-within : (new : DeskView D) → EachSince moment left_since old.store.disk mid.store.disk (IsLeftByEntry content may_leave size made old)
          → EachSince moment left_since mid.store.disk new.store.disk (IsLeftBy content may_leave size event None mid)
          → KeepsWithin content moment left_since size old new (spelled (event_of_turn (state_of content old) turn answer))
      taken-kept-within new first second =
          subst (λ (e : Option Event). KeepsWithin content moment left_since size old new (spelled e)) (sym event-turn)
          (and_then moment left_since old.store.disk mid.store.disk new.store.disk (IsLeftByEntry content may_leave size made old) (IsLeftBy content may_leave size event None mid)
          (HasKept layout (size old.store.disk) before came) first second
          (entry-kept told content may_leave moment left_since size old trusted turn its run planned made is came) image-kept)

  -- the reply of code 00
  pub done-reply : (reply : Reply) → IsReplyWith run old Done reply → reply ≡ reply_of (state_of content old) turn answer
  unfolding reply_of
  done-reply reply with_it =
      let its_to = to told content may_leave moment left_since size old trusted turn its run planned made is in
      let its_pair = pair layout old.jobs image desk turn run on its_to in
      reply-for told content may_leave size old trusted turn its run planned on is.found Done reply with_it
      ∙ ap (λ id. let r : Reply = Checkpointed its_pair.going.row.number its_pair.going.start.owned.step.name Done id in r)
      (ap (λ b. if b then Some (next_id its_pair.going.row its_pair.going.start) else None)
      (id-ranged desk its_pair.step its_pair.going trusted.stands.is_desk (fits-ranged office.tables.sets its_pair.going.row its_pair.going.start its_pair.step.progress fits)))
      ∙ sym (ap (λ (done : TurnDone). done.reply) (taken-by layout old.jobs image desk turn run on its_to true fits))
      ∙ sym (ap (λ (done : TurnDone). done.reply) (turned-take told content may_leave size old trusted turn its run planned answer))
