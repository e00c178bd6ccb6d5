-- A turn that works, with the operator's answer if it asks him: the unit of its running step, the desk behind it, and what a stop leaves.
use Rattle.std.proofs.Common.{◌≡◌, ◌≤◌, ◌+◌, ◌-◌, ◌++◌, ◌&&◌, ℕ, List, [], ◌∷◌, true, false, length, take, find, refl, ap, sym, ◌∙◌, subst, ◌⊎◌, ⊎_elim, inl, inr, arith, Option, Some, None, Ok}
use Rattle.std.proofs.lemmas.Bool.{and_from, le-leb}
use Rattle.ckr_base.proofs.Options.{some-not-none}
use Rattle.ckr_book.specs.Book.{room_of}
use Rattle.ckr_base.specs.declared.code.Code.{Code}
use Rattle.ckr_console.specs.declared.question.Answer.{Answer}
use Rattle.ckr_events.specs.declared.event.Event.{Event}
use Rattle.ckr_events.specs.Event.{spelling}
use Rattle.ckr_desk_refines.specs.Memory.RewriteCounts.{may_count}
use Rattle.ckr_jcl.specs.declared.deck.Job.{Job}
use Rattle.ckr_desk_refines.specs.Memory.EventChanges.{is_of_run}
use Rattle.ckr_desk_refines.specs.Memory.Plans.{IsSpelledPlan, told_by}
use Rattle.ckr_desk_refines.specs.Memory.Replay.{deck_of, goes_on, has_few_digits}
use Rattle.ckr_desk.proofs.Turns.Events.{small-digits}
use Rattle.ckr_desk_refines.specs.Memory.View.{RunningStepView, jobs_of, running_of}
use Rattle.ckr_desk_refines.proofs.Entries.Images.{keeping-kept}
use Rattle.ckr_desk_refines.specs.Entries.{HasEntries, OnlyCheckSetsKeep, SameKept}
use Rattle.ckr_meaning.specs.EffectiveJob.{OwnedStep, names_of}
use Rattle.ckr_points.specs.Events.{AreSound, IsNext}
use Rattle.ckr_points.specs.Follows.{follows}
use Rattle.ckr_points.specs.Office.{Office, office_after}
use Rattle.ckr_points.specs.Restart.{after_event, place_of, step_in}
use Rattle.ckr_points.specs.Rows.{RunRow, TablesModel, no_tables, run_of, step_of_run}
use Rattle.ckr_points.specs.Soundness.{AreLaidOut}
use Rattle.ckr_desk_refines.proofs.Standing.Plans.{plans-so}
use Rattle.ckr_desk_refines.proofs.Standing.DeskView.{desk-so}
use Rattle.ckr_desk_refines.specs.RewriteRecord.{HasCommittedAgain, HasLast, last_event}
use Rattle.ckr_desk_refines.specs.Moves.{HasSameRecords, event_in, reply_in}
use Rattle.ckr_desk_refines.specs.Standing.{StandsForDesk, desk_seen}
use Rattle.ckr_steps.specs.declared.step_run.Worked.{Worked as Outcome}
use Rattle.ckr_steps.specs.declared.step_run.Worked.TheVariants.{Abend, Rewrite, Went}
use Rattle.ckr_steps.specs.Writes.{Keeps}
use Rattle.ckr_desk_store.specs.OpenImages.{Opens, event_records}
use Rattle.ckr_desk_store.specs.State.{StoreView}
use Rattle.ckr_desk_turn.proofs.Codes.{by-verdict}
use Rattle.ckr_desk_turn.specs.Codes.{initiator_of, running_reached}
use Rattle.ckr_desk_turn.specs.Inquiries.{decide, is_ask}
use Rattle.ckr_desk_turn.specs.Jobs.{step_name_of}
use Rattle.ckr_desk_turn.specs.declared.plan.Plan.{Plan}
use Rattle.ckr_desk_turn.specs.declared.plan.Plan.TheVariants.{Rest, Tell, Work, Wait}
use Rattle.ckr_points.specs.declared.reply.Reply.{Reply}
use Rattle.ckr_points.specs.declared.reply.Reply.TheVariants.{Worked}
use Rattle.ckr_desk_turn.specs.Turns.{carried_out, MountedTurn, plan_for, turn_of}
use Rattle.ckr_desk_turn.specs.Desk.{DeskModel, TurnDone, work_of, jobs_of as jobs_of_desk}
use Rattle.ckr_desk_turn.specs.Spelling.{IsSpelled}
use Rattle.ckr_volumes.specs.declared.layout.Layout.{Layout}
use Rattle.ckr_volumes.specs.Header.{header_of}
use Rattle.ckr_desk_refines.proofs.Units.Desk.{run-moved, went-stands}
use Rattle.ckr_desk_refines.proofs.Units.StepLists.{IsPair, pair-of}
use Rattle.ckr_desk_refines.proofs.Units.AnyReply.{told-unit}
use Rattle.ckr_desk_refines.proofs.Units.Replies.{TellsSo}
use Rattle.ckr_desk_refines.proofs.Units.Waits.{coded-waits}
use Rattle.ckr_desk_refines.proofs.Units.Turns.{within-so}
use Rattle.ckr_desk_refines.specs.Unit.{IsPutBack, StandsBehindUnit}
use Rattle.ckr_desk_refines.proofs.Entries.Legs.{tables-behind}
use Rattle.ckr_desk.proofs.Units.Events.{Ensues, rewrite-ensues}
use Rattle.ckr_desk.proofs.Images.NextEvent.{deck-none, office-same}
use Rattle.ckr_desk.proofs.Images.Entries.{behind-kept as entries-behind, behind-same as entries-behind-same, checks-then, kept-has, laid-then, same-has}
use Rattle.ckr_desk.proofs.Images.LastRecord.{again-keeping}
use Rattle.ckr_desk.proofs.Images.Soundness.{kept-before}
use Rattle.ckr_desk.proofs.Images.WrittenRecord.{TellsRecord, told-lacking, told-written}
use Rattle.ckr_desk.proofs.Trust.Events.{IsBehind, IsComing, desk-behind, trusted-behind}
use Rattle.ckr_desk.proofs.Trust.Conditions.{goes-out, shows-in, worked-out}
use Rattle.ckr_desk.specs.Requests.{has_room, room_behind}
use Rattle.ckr_desk.specs.Calls.{HasGoneOn, may_keep}
use Rattle.ckr_desk.specs.Rewrite.{IsWrittenBy, LacksAtMost, OpensSame}
use Rattle.ckr_desk.specs.Turn.{asks, behind_turn, event_of_turn, reply_of}
use Rattle.ckr_desk.specs.Units.{HasDoneUnit, HasGoneBehind, HasWrittenBehind, IsLeftByUnit, OpensBehind, StemsFromUnit}
use Rattle.ckr_desk.specs.Opening.{behind_records}
use Rattle.ckr_desk.specs.Soundness.{HasKept, IsTrusted, events_in, last_on, office_on, state_of}
use Rattle.ckr_desk.specs.State.{RoomyDesk, DeskView, need_of}
use Rattle.ckr_desk.proofs.Units.Plans.{spelled-in, waits-by, work-office}
use Rattle.ckr_desk.proofs.Units.CodeEvents.{code-ensues}

module _ {D : Type 0} (told : Type 0) (content : D → List ℕ) (may_leave : D → List ℕ → Type 0) (moment : D → ℕ) (left_since : D → ℕ → List ℕ → Type 0) (size : D → ℕ)
    (old : DeskView D) (trusted : IsTrusted told content may_leave old) (turn : MountedTurn) (run : ℕ)
    (planned : plan_for old.store.layout (jobs_of old.jobs) turn ≡ Work run) (answer : Answer) where
  abbrev layout : Layout
  layout = old.store.layout

  abbrev image : List ℕ
  image = content old.store.disk

  abbrev office : Office
  office = office_on layout image

  abbrev desk : DeskModel
  desk = (state_of content old).desk

  plans-desk : plan_for layout (jobs_of old.jobs) turn ≡ plan_for desk.layout (jobs_of_desk desk) turn
  plans-desk = plans-so layout old.jobs image desk turn trusted.stands

  pub at-desk : plan_for desk.layout (jobs_of_desk desk) turn ≡ Work run
  at-desk = sym plans-desk ∙ planned

  pub turned : turn_of desk turn answer ≡ work_of answer run desk
  unfolding turn_of
  turned = ap (λ p. carried_out answer p desk) at-desk

  -- the run is within a step of its deck
  pub row-within : (row : RunRow) × (own : OwnedStep) × (run_of office.tables run ≡ Some row) × (step_of_run row (step_in (place_of row)) ≡ Some own) × (row.number ≡ run)
  row-within = within-so layout old.jobs image desk turn run trusted.stands at-desk

  abbrev row : RunRow
  row = row-within.0

  -- ---- what a stop within it leaves

  abbrev last_now : Option Event
  last_now = last_on layout image

  stems-committed : (left : List ℕ) → StemsFromUnit may_leave run old left → HasCommittedAgain layout office last_now left
  stems-committed left stems =
      let on : RunningStepView = stems.0 in
      let from : List ℕ = stems.2.0 in
      let pair : IsPair layout office image run on desk.running = pair-of layout office image run on old.jobs.running desk.running trusted.stands.running trusted.stands.is_desk.going stems.1 in
      again-keeping layout office last_now (names_of pair.stands.start.root pair.stands.start.owned) on.sets trusted.stands.is_desk.kept.events.extents pair.stands.sets from left stems.2.2
      (trusted.committed from stems.2.1)

  -- a unit keeps the entries: they stand within what its step has
  keeps-entries : (on : RunningStepView) → find (is_of_run run) old.jobs.running ≡ Some on → (from left : List ℕ) → Keeps layout on.sets from left → HasEntries layout office from → HasEntries layout office left
  keeps-entries on found from left keeps has =
      let pair : IsPair layout office image run on desk.running = pair-of layout office image run on old.jobs.running desk.running trusted.stands.running trusted.stands.is_desk.going found in
      kept-has told content may_leave old trusted from left has
      (keeping-kept layout office.tables.sets trusted.stands.is_desk.kept.events.extents from left (names_of pair.stands.start.root pair.stands.start.owned) on.sets pair.stands.sets keeps)

  left-entries : (left : List ℕ) → IsLeftByUnit content may_leave size run old left → HasEntries layout office left
  left-entries left by = ⊎_elim
      (λ (may : may_leave old.store.disk left). trusted.entries_left left may)
      (λ (stems : StemsFromUnit may_leave run old left). keeps-entries stems.0 stems.1 stems.2.0 left stems.2.2 (trusted.entries_left stems.2.0 stems.2.1)) by.1

  left-committed : (left : List ℕ) → IsLeftByUnit content may_leave size run old left → HasCommittedAgain layout office last_now left
  left-committed left by = ⊎_elim (λ (may : may_leave old.store.disk left). trusted.committed left may) (λ (stems : StemsFromUnit may_leave run old left). stems-committed left stems) by.1

  pub unit-kept : (came : List (List ℕ)) (left : List ℕ) → IsLeftByUnit content may_leave size run old left → HasKept layout (size old.store.disk) (event_records layout image) came left
  unit-kept came left by = kept-before told content may_leave size old trusted came left by.0 (left-committed left by) (left-entries left by)

  module _ (mid : DeskView D) (plan : Plan) (done : HasDoneUnit told content may_leave moment left_since run old mid answer plan)
      (events : event_records old.store.layout (content mid.store.disk) ≡ event_records old.store.layout (content old.store.disk)) (shape : IsSpelledPlan plan)
      (stems : (image : List ℕ) → may_leave mid.store.disk image → IsLeftByUnit content may_leave size run old image) where
    abbrev after : List ℕ
    after = content mid.store.disk

    abbrev on : RunningStepView
    on = done.on

    abbrev moved : RunningStepView
    moved = done.moved

    -- on this disk
    pub unit-done : StandsBehindUnit layout old.jobs image after desk turn run on moved done.worked
    unit-done = record {
      stands = trusted.stands;
      planned = at-desk;
      found = done.found;
      same_run = done.same_run;
      same_code = done.same_code;
      did = worked-out told trusted.tells image after layout on.step moved.step on.sets moved.sets done.worked done.did;
      goes = λ start taken stood shows.
          goes-out told trusted.tells after layout start taken on.step moved.step moved.sets done.worked
          (done.goes trusted.tells start taken stood (shows-in told trusted.tells image layout _ _ on.sets shows));
      keeps = done.keeps.reads trusted.tells;
    }

    entries-after : HasEntries layout office after
    entries-after = keeps-entries on done.found image after unit-done.keeps trusted.entries

    put-back : IsPutBack run moved old.jobs mid.jobs
    put-back = record { tables = done.tables; failed = done.failed; running = done.running; points = done.points }

    pub layout-same : mid.store.layout ≡ layout
    layout-same = ap (λ (store : StoreView D). store.layout) done.store

    room-same : room_of mid.store.book ≡ room_of old.store.book
    room-same = ap (λ (store : StoreView D). room_of store.book) done.store

    -- ---- what the turn tells of it

    run-same : moved.run ≡ run
    run-same = run-moved layout old.jobs image after desk turn run on moved done.worked unit-done

    pub plan-so : plan ≡ decide answer (told_by layout office.tables row (running_of office.tables moved) done.worked)
    plan-so =
        done.planned row row-within.1 (ap (λ (tables : TablesModel). run_of tables moved.run) trusted.stands.tables ∙ ap (run_of office.tables) run-same ∙ row-within.2) row-within.3
        ∙ ap (λ (tables : TablesModel). decide answer (told_by layout tables row (running_of tables moved) done.worked)) trusted.stands.tables

    told-so : TellsSo answer run desk (told_by layout office.tables row (running_of office.tables moved) done.worked)
    told-so = told-unit layout old.jobs image after desk turn run on moved done.worked answer unit-done row row-within.2

    pub reply-so : reply_in plan ≡ reply_of (state_of content old) turn answer
    unfolding reply_of
    reply-so = ap reply_in plan-so ∙ told-so.0 ∙ sym (ap (λ (d : TurnDone). d.reply) turned)

    work-event : event_in plan ≡ (work_of answer run desk).event
    work-event = ap event_in plan-so ∙ told-so.1

    pub event-so : event_in plan ≡ event_of_turn (state_of content old) turn answer
    unfolding event_of_turn
    event-so = work-event ∙ sym (ap (λ (d : TurnDone). d.event) turned)

    -- ---- where no event comes

    -- a code is told, or the run waits with it, whatever the rules say
    coded-waits-so : (code : Code) → event_in (decide answer (told_by layout office.tables row (running_of office.tables moved) (Abend code))) ≡ None
        → decide answer (told_by layout office.tables row (running_of office.tables moved) (Abend code)) ≡ Wait run code
    coded-waits-so code =
        by-verdict (λ its. event_in (decide answer its) ≡ None → decide answer its ≡ Wait run code) layout office.tables row (initiator_of row) true code (running_reached (running_of office.tables moved))
        (λ rule ends none. absurd (some-not-none _ none))
        (λ judged none. waits-by answer row (initiator_of row) code (running_reached (running_of office.tables moved)) None 0 none ∙ ap (λ n. let waits : Plan = Wait n code in waits) row-within.4)
        (λ entry judged found none.
        waits-by answer row (initiator_of row) code (running_reached (running_of office.tables moved)) (Some entry.kept.id) entry.point.taken none ∙ ap (λ n. let waits : Plan = Wait n code in waits) row-within.4)

    -- the step went on
    pub record HasGone : Type 0 where
      pub taken : ℕ
      pub worked : done.worked ≡ Went taken

    -- it ended with a code, and the operator doesn't answer
    pub record HasStopped : Type 0 where
      pub code : Code
      pub worked : done.worked ≡ Abend code
      pub waits : decide answer (told_by layout office.tables row (running_of office.tables moved) (Abend code)) ≡ Wait run code

    gone-or-stopped : event_in plan ≡ None → HasGone ⊎ HasStopped
    gone-or-stopped none = by done.worked refl
      where
        at : (worked : Outcome) → done.worked ≡ worked → event_in (decide answer (told_by layout office.tables row (running_of office.tables moved) worked)) ≡ None
        at worked is = sym (ap (λ (w : Outcome). event_in (decide answer (told_by layout office.tables row (running_of office.tables moved) w))) is) ∙ sym (ap event_in plan-so) ∙ none

        by : (worked : Outcome) → done.worked ≡ worked → HasGone ⊎ HasStopped
        by (Went taken) is = inl (record { taken = taken; worked = is })
        by (Rewrite place bytes taken) is = absurd (some-not-none _ (at (Rewrite place bytes taken) is))
        by (Abend code) is = inr (record { code = code; worked = is; waits = coded-waits-so code (at (Abend code) is) })

    plan-by : (worked : Outcome) → done.worked ≡ worked → plan ≡ decide answer (told_by layout office.tables row (running_of office.tables moved) worked)
    plan-by worked is = plan-so ∙ ap (λ (w : Outcome). decide answer (told_by layout office.tables row (running_of office.tables moved) w)) is

    -- the operator isn't asked where the step went on
    pub went-asks : (reply : Reply) → plan ≡ Rest reply → asks (state_of content old) turn answer ≡ false
    unfolding asks
    went-asks reply is = ap (λ (d : TurnDone). d.asked) turned ∙ sym told-so.2 ∙ by (gone-or-stopped (ap event_in is))
      where
        by : HasGone ⊎ HasStopped → is_ask (told_by layout office.tables row (running_of office.tables moved) done.worked) ≡ false
        by (inl gone) = ap (λ (w : Outcome). is_ask (told_by layout office.tables row (running_of office.tables moved) w)) gone.worked
        by (inr stopped) = let differs : Rest reply ≡ Wait run stopped.code = sym is ∙ plan-by (Abend stopped.code) stopped.worked ∙ stopped.waits in cc

    office-after : office_on layout after ≡ office
    office-after = office-same layout image after events

    last-after : last_on layout after ≡ last_now
    unfolding last_on
    last-after = ap (λ records. last_event (events_in records)) events

    -- the unit is done, and its run waits if it has stopped
    module _ (new : DeskView D) (gone : HasGoneBehind told content may_leave plan mid new) (none : event_in plan ≡ None) where
      gone-by : (other : Plan) → plan ≡ other → HasGoneBehind told content may_leave other mid new
      gone-by other is = subst (λ (p : Plan). HasGoneBehind told content may_leave p mid new) is gone

      abbrev IsRested : Type 0
      IsRested = StandsForDesk layout new.jobs after (work_of answer run desk).desk × (new.jobs.tables.desk ≡ mid.jobs.tables.desk) × (new.store ≡ mid.store)

      rested : IsRested
      rested = by (gone-or-stopped none)
        where
          by : HasGone ⊎ HasStopped → IsRested
          by (inl on_it) =
              let went : StandsBehindUnit layout old.jobs image after desk turn run on moved (Went on_it.taken) = subst (StandsBehindUnit layout old.jobs image after desk turn run on moved) on_it.worked unit-done in
              let same : new ≡ mid = gone-by (Rest (Worked row.number (step_name_of row) (running_of office.tables moved).taken)) (plan-by (Went on_it.taken) on_it.worked) in (
                subst (λ (s : DeskView D). StandsForDesk layout s.jobs after (work_of answer run desk).desk) (sym same)
                    (went-stands layout old.jobs image after desk turn run on moved on_it.taken went answer mid.jobs put-back),
                ap (λ (s : DeskView D). s.jobs.tables.desk) same,
                ap (λ (s : DeskView D). s.store) same,
              )
          by (inr stopped) =
              let ended : StandsBehindUnit layout old.jobs image after desk turn run on moved (Abend stopped.code) = subst (StandsBehindUnit layout old.jobs image after desk turn run on moved) stopped.worked unit-done in
              let its : HasGoneBehind told content may_leave (Wait run stopped.code) mid new = gone-by (Wait run stopped.code) (plan-by (Abend stopped.code) stopped.worked ∙ stopped.waits) in (
                coded-waits layout old.jobs image after desk turn run on moved stopped.code answer ended mid.jobs put-back row row-within.2 stopped.waits new.jobs its.0,
                its.0.tables,
                its.1,
              )

      rest-office : (work_of answer run desk).desk.office ≡ office
      rest-office = work-office answer run desk (sym work-event ∙ none)

      layout-then : new.store.layout ≡ layout
      layout-then = ap (λ (store : StoreView D). store.layout) rested.2 ∙ layout-same

      reads-then : content new.store.disk ≡ after
      reads-then = ap (λ (store : StoreView D). content store.disk) rested.2

      office-then : office_on layout (content new.store.disk) ≡ office
      office-then = ap (office_on layout) reads-then ∙ office-after

      last-then : last_on layout (content new.store.disk) ≡ last_now
      last-then = ap (last_on layout) reads-then ∙ last-after

      rest-desk : (work_of answer run desk).desk ≡ (state_of content new).desk
      rest-desk =
          desk-so layout new.jobs after (work_of answer run desk).desk rested.0
          ∙ ap (λ (o : Office). desk_seen layout o new.jobs) (rest-office ∙ sym office-then)
          ∙ ap (λ (l : Layout). desk_seen l (office_on l (content new.store.disk)) new.jobs) (sym layout-then)

      entries-rest : (left : List ℕ) → HasEntries layout office left → HasEntries new.store.layout (office_on new.store.layout (content new.store.disk)) left
      entries-rest left has =
          subst (λ (l : Layout). HasEntries l (office_on l (content new.store.disk)) left) (sym layout-then)
          (subst (λ (o : Office). HasEntries layout o left) (sym office-then) has)

      stems-then : (left : List ℕ) → may_leave new.store.disk left → IsLeftByUnit content may_leave size run old left
      stems-then left may = stems left (subst (λ (store : StoreView D). may_leave store.disk left) rested.2 may)

      opens-rest : (left : List ℕ) → length left ≡ size old.store.disk → OpensSame content size old left → Opens new.store.layout (length left) (λ records. records ≡ event_records new.store.layout (content new.store.disk)) left
      opens-rest left long its =
          subst (λ (l : Layout). Opens l (length left) (λ records. records ≡ event_records l (content new.store.disk)) left) (sym layout-then)
          (record { head = ap (header_of (take 512 left)) long ∙ its.head; list = its.list ∙ sym events ∙ sym (ap (event_records layout) reads-then); closed = its.closed })

      pub rest-trusted : ((left : List ℕ) → may_leave new.store.disk left → length left ≡ size old.store.disk) → IsTrusted told content may_leave new
      rest-trusted long = record {
        tells = trusted.tells;
        opens = subst (λ (l : Layout). behind_records l no_tables 0 (event_records l (content new.store.disk)) ≡ Ok new.jobs.tables.desk) (sym layout-then)
            (ap (λ bytes. behind_records layout no_tables 0 (event_records layout bytes)) reads-then
            ∙ ap (λ records. behind_records layout no_tables 0 records) events ∙ trusted.opens ∙ ap Ok (sym done.tables) ∙ ap Ok (sym rested.1));
        events = subst (λ (l : Layout). AreSound l (events_in (event_records l (content new.store.disk)))) (sym layout-then)
            (subst (λ bytes. AreSound layout (events_in (event_records layout bytes))) (sym reads-then)
            (subst (λ records. AreSound layout (events_in records)) (sym events) trusted.events));
        stands = subst (λ (d : DeskModel). StandsForDesk new.store.layout new.jobs (content new.store.disk) d) rest-desk
            (subst (λ (l : Layout). StandsForDesk l new.jobs (content new.store.disk) (work_of answer run desk).desk) (sym layout-then)
            (subst (λ bytes. StandsForDesk layout new.jobs bytes (work_of answer run desk).desk) (sym reads-then) rested.0));
        last = subst (λ (l : Layout). HasLast (office_on l (content new.store.disk)) (last_on l (content new.store.disk))) (sym layout-then)
            (subst (λ bytes. HasLast (office_on layout bytes) (last_on layout bytes)) (sym reads-then)
            (subst (λ (o : Office). HasLast o (last_on layout after)) (sym office-after) (subst (HasLast office) (sym last-after) trusted.last)));
        opens_left = λ left may. opens-rest left (long left may) (stems-then left may).0;
        committed = λ left may.
            subst (λ (l : Layout). HasCommittedAgain l (office_on l (content new.store.disk)) (last_on l (content new.store.disk)) left) (sym layout-then)
            (subst (λ (o : Office). HasCommittedAgain layout o (last_on layout (content new.store.disk)) left) (sym office-then)
            (subst (λ (e : Option Event). HasCommittedAgain layout office e left) (sym last-then) (left-committed left (stems-then left may))));
        entries = entries-rest (content new.store.disk) (subst (HasEntries layout office) (sym reads-then) entries-after);
        entries_left = λ left may. entries-rest left (left-entries left (stems-then left may));
      }

      pub rest-state : state_of content new ≡ behind_turn (state_of content old) turn answer
      unfolding behind_turn
      rest-state =
          ap (λ (d : DeskModel). state_as d (room_of new.store.book)) (sym rest-desk)
          ∙ ap (state_as (work_of answer run desk).desk) (ap (λ (store : StoreView D). room_of store.book) rested.2 ∙ room-same)
          ∙ ap (λ (e : Option Event). state_as (work_of answer run desk).desk (room_behind (room_of old.store.book) e)) (sym none ∙ event-so)
          ∙ ap (λ (d : TurnDone). state_as d.desk (room_behind (room_of old.store.book) (event_of_turn (state_of content old) turn answer))) (sym turned)
        where
          state_as : DeskModel → ℕ → RoomyDesk
          state_as d room = record { desk = d; room = room }

    -- ---- where an event comes

    module _ (event : Event) (is : event_in plan ≡ Some event) where
      abbrev then : DeskModel
      then = (work_of answer run desk).desk

      spelled-so : IsSpelled event
      spelled-so = spelled-in plan shape event is

      none-decked : deck_of event ≡ None
      none-decked = deck-none event spelled-so.small

      event-then : (work_of answer run desk).event ≡ Some event
      event-then = sym work-event ∙ is

      abbrev event_by : Outcome → Option Event
      event_by worked = event_in (decide answer (told_by layout office.tables row (running_of office.tables moved) worked))

      pub ensues : Ensues mid.jobs after desk run answer event
      ensues = by done.worked refl
        where
          by : (worked : Outcome) → done.worked ≡ worked → Ensues mid.jobs after desk run answer event
          by (Went count) same = absurd (some-not-none event (sym is ∙ ap event_in plan-so ∙ ap event_by same))
          by (Rewrite place bytes count) same =
              rewrite-ensues old.jobs image after desk turn run on moved place bytes count (subst (StandsBehindUnit layout old.jobs image after desk turn run on moved) same unit-done) mid.jobs put-back answer event event-then
          by (Abend code) same =
              code-ensues old.jobs image after desk turn run on moved code (subst (StandsBehindUnit layout old.jobs image after desk turn run on moved) same unit-done) mid.jobs put-back answer row row-within.4 event event-then
              (sym (ap event_by same) ∙ sym (ap event_in plan-so) ∙ is)

      pub tables-mid : mid.jobs.tables.desk ≡ office.tables
      tables-mid = done.tables ∙ trusted.stands.tables

      event-is : event_of_turn (state_of content old) turn answer ≡ Some event
      event-is = sym event-so ∙ is

      pub unit-has_room : (new : DeskView D) → HasGoneOn event None mid new → has_room (room_of old.store.book) (event_of_turn (state_of content old) turn answer) ≡ true
      unit-has_room new gone =
          ap (has_room (room_of old.store.book)) event-is
          ∙ le-leb (need_of event) (room_of old.store.book) (subst (λ room. need_of event ≤ room) room-same gone.fits)

      -- ---- the desk behind it

      pub coming : may_keep event None mid ≡ true → IsComing told content may_leave event old then
      coming might = record {
        is_event = spelled-so.event;
        goes = subst (λ (d : Option Job). goes_on layout old.jobs.tables.desk event d ≡ true) (sym none-decked)
            (and_from (has_few_digits event) _ (small-digits event spelled-so.small)
            (ap (λ (tables : TablesModel). follows layout tables event None && may_count event tables.sets) (sym done.tables)
            ∙ ap (λ (l : Layout). follows l mid.jobs.tables.desk event None && may_count event mid.jobs.tables.desk.sets) (sym layout-same)
            ∙ might));
        next = subst (λ (d : Option Job). IsNext layout office (event, d)) (sym none-decked) ensues.comes;
        office = ensues.office ∙ ap (λ (d : Option Job). office_after (event, d) office) (sym none-decked);
        layout_is = ensues.layout_is;
        is_desk = ensues.is_desk;
        last = ensues.last;
      }

      -- the entries of an image that has the records of the unit, behind the event
      tables-then : after_event event None office.tables ≡ then.office.tables
      tables-then = sym (ap (λ (o : Office). o.tables) ensues.office ∙ tables-behind office event None)

      pub entries-told : (told_on : List ℕ) → HasSameRecords layout after told_on → HasEntries layout office told_on
      entries-told told_on same = same-has told content may_leave old trusted after told_on entries-after same

      pub entries-same : may_keep event None mid ≡ true → (left : List ℕ) → HasSameRecords layout after left → HasEntries layout then.office left
      entries-same might left same = entries-behind-same told content may_leave old trusted event then (coming might) after left (ensues.takes layout office after) entries-after same

      -- and where the record that the event tells is written, or lacks at most
      entries-changed : may_keep event None mid ≡ true → (told_on left : List ℕ) → HasSameRecords layout after told_on
          → ((tables : TablesModel) → AreLaidOut layout tables.sets → OnlyCheckSetsKeep tables.sets → after_event event None office.tables ≡ tables → SameKept layout tables.sets told_on left)
          → HasEntries layout then.office left
      entries-changed might told_on left same changes =
          entries-behind told content may_leave old trusted event then (coming might) told_on left (ensues.takes layout office told_on) (entries-told told_on same)
          (changes then.office.tables (laid-then told content may_leave old trusted event then (coming might)) (checks-then told content may_leave old trusted event then (coming might)) tables-then)

      entries-written : may_keep event None mid ≡ true → (told_on left : List ℕ) → HasSameRecords layout after told_on → IsWrittenBy layout (after_event event None office.tables) event told_on left → HasEntries layout then.office left
      entries-written might told_on left same written =
          entries-changed might told_on left same
          (λ tables laid checks is.
          told-written layout tables laid checks event (subst (λ (t : TablesModel). TellsRecord t event) is ensues.record_told) told_on left (subst (λ (t : TablesModel). IsWrittenBy layout t event told_on left) is written))

      pub entries-lacking : may_keep event None mid ≡ true → (told_on left : List ℕ) → HasSameRecords layout after told_on → LacksAtMost layout (after_event event None office.tables) event told_on left → HasEntries layout then.office left
      entries-lacking might told_on left same lacks =
          entries-changed might told_on left same
          (λ tables laid checks is.
          told-lacking layout tables laid checks event (subst (λ (t : TablesModel). TellsRecord t event) is ensues.record_told) told_on left (subst (λ (t : TablesModel). LacksAtMost layout t event told_on left) is lacks))

      module _ (new : DeskView D) (same : new.store.layout ≡ old.store.layout) (reply : Reply) (gone : HasGoneBehind told content may_leave (Tell reply event) mid new) where
        written : HasWrittenBehind content may_leave event mid new
        written = gone.1 trusted.tells

        tables-so : new.jobs.tables.desk ≡ after_event event None office.tables
        tables-so = gone.0.moved.tables ∙ ap (after_event event None) tables-mid

        same-told : HasSameRecords layout after written.told_on
        same-told = subst (λ (l : Layout). HasSameRecords l after written.told_on) layout-same written.same

        written-so : IsWrittenBy layout (after_event event None office.tables) event written.told_on (content new.store.disk)
        written-so =
            subst (λ (l : Layout). IsWrittenBy l (after_event event None office.tables) event written.told_on (content new.store.disk)) layout-same
            (subst (λ (tables : TablesModel). IsWrittenBy mid.store.layout tables event written.told_on (content new.store.disk)) tables-so written.written)

        -- a stop leaves what was told on, or lacks at most the record
        by-image : (P : List ℕ → Type 0) → P written.told_on → ((left : List ℕ) → LacksAtMost layout (after_event event None office.tables) event written.told_on left → P left)
            → (left : List ℕ) → may_leave new.store.disk left → P left
        by-image P whole lacking left may = ⊎_elim
            (λ (same_bytes : left ≡ written.told_on). subst P (sym same_bytes) whole)
            (λ (lacks : LacksAtMost mid.store.layout new.jobs.tables.desk event written.told_on left).
            lacking left
            (subst (λ (l : Layout). LacksAtMost l (after_event event None office.tables) event written.told_on left) layout-same
            (subst (λ (tables : TablesModel). LacksAtMost mid.store.layout tables event written.told_on left) tables-so lacks)))
            (written.left left may)

        behind-so : IsBehind told content may_leave event old new then
        behind-so = record {
          layout = same;
          events = subst (λ (l : Layout). event_records l (content new.store.disk) ≡ event_records l after ++ spelling event ∷ []) layout-same written.events ∙ ap (λ records. records ++ spelling event ∷ []) events;
          tables = gone.0.moved.tables ∙ ap (after_event event None) done.tables ∙ ap (λ (d : Option Job). after_event event d old.jobs.tables.desk) (sym none-decked);
          stands = ensues.stands new.jobs gone.0.moved written.told_on (content new.store.disk) same-told written-so;
          entries = entries-written gone.0.might written.told_on (content new.store.disk) same-told written-so;
          committed = by-image (HasCommittedAgain layout then.office (Some event)) (ensues.same written.told_on same-told) (λ left lacks. ensues.lacking written.told_on left same-told lacks);
          entries_left = by-image (HasEntries layout then.office) (entries-same gone.0.might written.told_on same-told) (λ left lacks. entries-lacking gone.0.might written.told_on left same-told lacks);
        }

        opens-behind : OpensBehind content may_leave (Some event) mid new → (left : List ℕ) → may_leave new.store.disk left
            → Opens layout (length left) (λ records. records ≡ event_records layout image ++ spelling event ∷ []) left
        opens-behind opens left may =
            let its : Opens layout (length left) (λ records. records ≡ event_records layout after ++ spelling event ∷ []) left =
            subst (λ (l : Layout). Opens l (length left) (λ records. records ≡ event_records l after ++ spelling event ∷ []) left) layout-same (opens left may) in
            record { head = its.head; list = its.list ∙ ap (λ records. records ++ spelling event ∷ []) events; closed = its.closed }

        pub unit-trusted : OpensBehind content may_leave (Some event) mid new → IsTrusted told content may_leave new
        unit-trusted opens = trusted-behind told content may_leave event old new then (coming gone.0.might) behind-so (opens-behind opens) trusted

        pub unit-state : state_of content new ≡ behind_turn (state_of content old) turn answer
        unfolding behind_turn
        unit-state =
            ap (λ (d : DeskModel). state_as d (room_of new.store.book)) (sym (desk-behind told content may_leave event old new then (coming gone.0.might) behind-so))
            ∙ ap (state_as then) (let e : room_of new.store.book ≡ room_of old.store.book - (length (spelling event) + 5) = omega (arith, gone.0.room, room-same) in e)
            ∙ ap (λ (e : Option Event). state_as then (room_behind (room_of old.store.book) e)) (sym event-is)
            ∙ ap (λ (d : TurnDone). state_as d.desk (room_behind (room_of old.store.book) (event_of_turn (state_of content old) turn answer))) (sym turned)
          where
            state_as : DeskModel → ℕ → RoomyDesk
            state_as d room = record { desk = d; room = room }
