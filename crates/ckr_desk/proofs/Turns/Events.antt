-- A turn that tells an event without a unit, with the operator's answer if he is asked: the desk behind it, and what a stop leaves.
use Rattle.std.proofs.Common.{◌≡◌, ◌+◌, ◌-◌, ℕ, List, [], ◌∷◌, Bool, true, false, length, refl, ap, sym, ◌∙◌, subst, ◌⊎◌, ⊎_elim, arith, Some, None}
use Rattle.std.proofs.lemmas.Bool.{and_from, false≢true, le-leb}
use Rattle.ckr_base.proofs.Options.{some-not-none}
use Rattle.ckr_book.specs.Book.{IsBeforeOrAfter, room_of}
use Rattle.ckr_console.specs.declared.question.Answer.{Answer}
use Rattle.ckr_events.specs.declared.event.Event.{Event}
use Rattle.ckr_events.specs.declared.event.Event.TheVariants.{Checkpointed, Submitted, Rewritten}
use Rattle.ckr_events.specs.Event.{IsSmall, spelling}
use Rattle.ckr_desk_refines.specs.Memory.Replay.{deck_of, goes_on, has_few_digits}
use Rattle.ckr_desk_refines.specs.Memory.View.{jobs_of}
use Rattle.ckr_desk_turn.proofs.Turns.Initiator.{turn-keeps}
use Rattle.ckr_desk_turn.specs.NextEvents.{EventComes}
use Rattle.ckr_desk_turn.specs.Turns.{carried_out, IsMountedTurnOf, MountedTurn, plan_for, turn_of}
use Rattle.ckr_desk_turn.specs.Invariant.{IsDesk}
use Rattle.ckr_outside.specs.Disk.{Only}
use Rattle.ckr_points.specs.Events.{IsNext}
use Rattle.ckr_points.specs.Office.{Office, office_after}
use Rattle.ckr_points.specs.Restart.{after_event}
use Rattle.ckr_points.specs.Rows.{TablesModel}
use Rattle.ckr_desk_refines.proofs.Standing.Plans.{plans-so}
use Rattle.ckr_desk_refines.specs.Entries.{HasEntries}
use Rattle.ckr_desk_refines.specs.RewriteRecord.{RewriteRecord, rewrite_of}
use Rattle.ckr_desk_refines.specs.Moves.{HasSameRecords, KnowsItsEntry}
use Rattle.ckr_desk_refines.specs.Standing.{StandsForDesk}
use Rattle.ckr_desk_store.specs.OpenImages.{Opens, event_records}
use Rattle.ckr_desk_refines.proofs.Events.Turns.{told-committed, told-stands}
use Rattle.ckr_desk_turn.specs.declared.plan.Plan.{Plan}
use Rattle.ckr_desk_turn.specs.declared.plan.Plan.TheVariants.{Rest, Tell, Work, Pass, Take, Ask, Wait}
use Rattle.ckr_points.specs.declared.reply.Reply.{Reply}
use Rattle.ckr_desk_turn.specs.Desk.{DeskModel, TurnDone, behind, done_by, jobs_of as jobs_of_desk}
use Rattle.ckr_desk_turn.specs.Inquiries.{decide, is_ask}
use Rattle.ckr_desk_turn.specs.Spelling.{IsSpelled}
use Rattle.ckr_volumes.specs.declared.layout.Layout.{Layout}
use Rattle.ckr_desk.proofs.Images.NextEvent.{deck-none}
use Rattle.ckr_desk.proofs.Images.Entries.{HasNewOne, behind-same}
use Rattle.ckr_desk.proofs.Images.LastRecord.{again-so}
use Rattle.ckr_desk.proofs.Images.Soundness.{kept-behind, kept-left, kept-same}
use Rattle.ckr_desk.proofs.Images.WrittenRecord.{TellsRecord}
use Rattle.ckr_desk.proofs.Turns.QuietEvents.{IsQuietPlan, decided-quiet, is_quiet, plan-quiet}
use Rattle.ckr_desk.proofs.Trust.Events.{IsBehind, IsComing, desk-behind, settled-committed, settled-entries}
use Rattle.ckr_desk.specs.Requests.{has_room, room_behind}
use Rattle.ckr_desk.specs.Calls.{HasGoneOn, IsLeftBy, may_keep}
use Rattle.ckr_desk.specs.Rewrite.{IsWrittenBy, LacksAtMost, OpensSame}
use Rattle.ckr_desk.specs.Turn.{behind_turn, event_of_turn, turn_fits}
use Rattle.ckr_desk.specs.Units.{HasGoneBehind, HasWrittenBehind, IsLeftBehind, IsSettledPlan}
use Rattle.ckr_desk.specs.Soundness.{HasKept, IsTrusted, office_on, state_of}
use Rattle.ckr_desk.specs.State.{RoomyDesk, DeskView, need_of}

-- what is done by a plan that is settled, and whether the operator was asked
abbrev pub done_so : Plan → Bool → DeskModel → TurnDone
done_so plan asked desk = record (done_by plan desk) { asked = asked }

settled-done : (answer : Answer) (plan : Plan) (desk : DeskModel) → IsSettledPlan (decide answer plan) → carried_out answer plan desk ≡ done_so (decide answer plan) (is_ask plan) desk
settled-done answer (Rest reply) desk settled = refl
settled-done answer (Tell reply event) desk settled = refl
settled-done answer (Work job) desk settled = absurd settled
settled-done answer (Pass job reply) desk settled = absurd settled
settled-done answer (Take job) desk settled = absurd settled
settled-done answer (Ask inquiry) desk settled = refl
settled-done answer (Wait job code) desk settled = refl

-- an event that isn't Rewritten tells no record, and is no submission
pub quiet-rewrites : (event : Event) → is_quiet event ≡ true → (tables : _) → rewrite_of tables event ≡ None
quiet-rewrites (Rewritten job taken writes lengths place image) quiet tables = absurd (subst (λ (b : Bool). elim b as (λ _. Type 0) [ true ↦ ⊥ | false ↦ Unit {0} ]) quiet tt)
quiet-rewrites _ quiet tables = refl

pub quiet-written : (event : Event) → is_quiet event ≡ true → (layout : Layout) (tables : _) (before after : List ℕ) → IsWrittenBy layout tables event before after → after ≡ before
quiet-written (Rewritten job taken writes lengths place image) quiet layout tables before after is = absurd (subst (λ (b : Bool). elim b as (λ _. Type 0) [ true ↦ ⊥ | false ↦ Unit {0} ]) quiet tt)
quiet-written _ quiet layout tables before after is = is

pub quiet-lacks : (event : Event) → is_quiet event ≡ true → (layout : Layout) (tables : _) (before after : List ℕ) → LacksAtMost layout tables event before after → ⊥
quiet-lacks (Rewritten job taken writes lengths place image) quiet layout tables before after lacks = absurd (subst (λ (b : Bool). elim b as (λ _. Type 0) [ true ↦ ⊥ | false ↦ Unit {0} ]) quiet tt)
quiet-lacks _ quiet layout tables before after lacks = lacks

pub quiet-left : (event : Event) → is_quiet event ≡ true → (layout : Layout) (tables : _) (before image : List ℕ) → (image ≡ before) ⊎ LacksAtMost layout tables event before image → image ≡ before
quiet-left event quiet layout tables before image either = ⊎_elim (λ same. same) (λ lacks. absurd (quiet-lacks event quiet layout tables before image lacks)) either

pub quiet-takes : (event : Event) → is_quiet event ≡ true → (layout : Layout) (now : Office) (image : List ℕ) → HasNewOne layout now event image
quiet-takes (Checkpointed job id taken writes lengths place bytes) quiet layout now image = absurd (false≢true quiet)
quiet-takes _ quiet layout now image = tt

pub quiet-tells : (event : Event) → is_quiet event ≡ true → (tables : TablesModel) → TellsRecord tables event
quiet-tells (Rewritten job taken writes lengths place image) quiet tables = absurd (false≢true quiet)
quiet-tells _ quiet tables = tt

-- one that submits no deck has no number of many digits
pub small-digits : (event : Event) → IsSmall event → has_few_digits event ≡ true
small-digits (Submitted job cards) small = absurd small
small-digits _ small = refl

module _ {D : Type 0} (told : Type 0) (content : D → List ℕ) (may_leave : D → List ℕ → Type 0) (size : D → ℕ)
    (old : DeskView D) (trusted : IsTrusted told content may_leave old) (turn : MountedTurn) (its : IsMountedTurnOf old.store.layout turn) where
  abbrev layout : Layout
  layout = old.store.layout

  abbrev desk : DeskModel
  desk = (state_of content old).desk

  -- the plan by the jobs in memory is that of the desk
  pub plans-desk : plan_for layout (jobs_of old.jobs) turn ≡ plan_for desk.layout (jobs_of_desk desk) turn
  plans-desk = plans-so layout old.jobs (content old.store.disk) desk turn trusted.stands

  pub turned : (answer : Answer) (plan : Plan) → plan_for layout (jobs_of old.jobs) turn ≡ plan → turn_of desk turn answer ≡ carried_out answer plan desk
  unfolding turn_of
  turned answer plan is = ap (λ p. carried_out answer p desk) (sym plans-desk ∙ is)

  -- a turn whose plan is settled by the answer comes to that
  pub turned-settled : (answer : Answer) (plan : Plan) → decide answer (plan_for layout (jobs_of old.jobs) turn) ≡ plan → IsSettledPlan plan
      → turn_of desk turn answer ≡ done_so plan (is_ask (plan_for layout (jobs_of old.jobs) turn)) desk
  turned-settled answer plan is settled =
      turned answer (plan_for layout (jobs_of old.jobs) turn) refl
      ∙ settled-done answer (plan_for layout (jobs_of old.jobs) turn) desk (subst IsSettledPlan (sym is) settled)
      ∙ ap (λ p. done_so p (is_ask (plan_for layout (jobs_of old.jobs) turn)) desk) is

  module _ (answer : Answer) (reply : Reply) (event : Event) (planned : decide answer (plan_for layout (jobs_of old.jobs) turn) ≡ Tell reply event) (shape : IsSpelled event) where
    pub quiet-so : is_quiet event ≡ true
    quiet-so = subst IsQuietPlan planned (decided-quiet answer (plan_for layout (jobs_of old.jobs) turn) (plan-quiet layout (jobs_of old.jobs) turn))

    pub told-so : turn_of desk turn answer ≡ done_so (Tell reply event) (is_ask (plan_for layout (jobs_of old.jobs) turn)) desk
    told-so = turned-settled answer (Tell reply event) planned tt

    none : deck_of event ≡ None
    none = deck-none event shape.small

    rewrites-none : (tables : _) (rewrite : RewriteRecord) → rewrite_of tables event ≡ Some rewrite → ⊥
    rewrites-none tables rewrite is = some-not-none rewrite (sym is ∙ quiet-rewrites event quiet-so tables)

    at-desk : decide answer (plan_for desk.layout (jobs_of_desk desk) turn) ≡ Tell reply event
    at-desk = ap (decide answer) (sym plans-desk) ∙ planned

    kept-so : IsDesk (behind event None desk)
    kept-so = subst (λ (done : TurnDone). IsDesk done.desk) told-so (turn-keeps desk turn answer trusted.stands.is_desk its.above its.below).kept

    comes : EventComes desk (Some event)
    comes = subst (λ (done : TurnDone). EventComes desk done.event) told-so (turn-keeps desk turn answer trusted.stands.is_desk its.above its.below).comes

    pub coming-turn : may_keep event None old ≡ true → IsComing told content may_leave event old (behind event None desk)
    coming-turn might = record {
      is_event = shape.event;
      goes = subst (λ d. goes_on layout old.jobs.tables.desk event d ≡ true) (sym none)
          (and_from (has_few_digits event) _ (small-digits event shape.small) might);
      next = subst (λ d. IsNext layout desk.office (event, d)) (sym none) comes;
      office = ap (λ d. office_after (event, d) (office_on layout (content old.store.disk))) (sym none);
      layout_is = refl;
      is_desk = kept-so;
      last = λ rewrite is. absurd (rewrites-none (behind event None desk).office.tables rewrite is);
    }

    -- an image with the same records has the entries behind it
    entries-so : may_keep event None old ≡ true → (image : List ℕ) → HasSameRecords layout (content old.store.disk) image → HasEntries layout (behind event None desk).office image
    entries-so might image same =
        behind-same told content may_leave old trusted event (behind event None desk) (coming-turn might) (content old.store.disk) image
        (quiet-takes event quiet-so layout desk.office (content old.store.disk)) trusted.entries same

    pub behind-turn-so : KnowsItsEntry event desk old.jobs.points → (new : DeskView D) → new.store.layout ≡ layout → told → HasGoneBehind told content may_leave (Tell reply event) old new
        → IsBehind told content may_leave event old new (behind event None desk)
    behind-turn-so knows new same tells gone =
        let written : HasWrittenBehind content may_leave event old new = gone.1 tells in
        let same_bytes : content new.store.disk ≡ written.told_on = quiet-written event quiet-so layout new.jobs.tables.desk written.told_on (content new.store.disk) written.written in
        let settled : Only (content new.store.disk) (may_leave new.store.disk) = λ image may. quiet-left event quiet-so layout new.jobs.tables.desk written.told_on image (written.left image may) ∙ sym same_bytes in
        let same_records : HasSameRecords layout (content old.store.disk) (content new.store.disk) = subst (λ bytes. HasSameRecords layout (content old.store.disk) bytes) (sym same_bytes) written.same in
        let stands : StandsForDesk layout new.jobs (content new.store.disk) (behind event None desk) =
        told-stands layout old.jobs new.jobs (content old.store.disk) (content new.store.disk) desk turn answer reply event trusted.stands its at-desk knows gone.0.moved same_records in
        let entries : HasEntries layout (behind event None desk).office (content new.store.disk) = entries-so gone.0.might (content new.store.disk) same_records in
        record {
          layout = same;
          events = written.events;
          tables = gone.0.moved.tables ∙ ap (λ d. after_event event d old.jobs.tables.desk) (sym none);
          stands = stands;
          entries = entries;
          committed = settled-committed told content may_leave event layout new (behind event None desk) settled (coming-turn gone.0.might).last stands;
          entries_left = settled-entries told content may_leave event layout new (behind event None desk) settled entries;
        }

    fits-so : (new : DeskView D) → HasGoneOn event None old new → has_room (room_of old.store.book) (Some event) ≡ true
    fits-so new gone = le-leb (need_of event) (room_of old.store.book) gone.fits

    pub event-so : event_of_turn (state_of content old) turn answer ≡ Some event
    unfolding event_of_turn
    event-so = ap (λ (done : TurnDone). done.event) told-so

    pub turn-fits-so : (new : DeskView D) → HasGoneOn event None old new → turn_fits (state_of content old) turn answer ≡ true
    unfolding turn_fits
    turn-fits-so new gone = ap (has_room (room_of old.store.book)) event-so ∙ fits-so new gone

    pub state-behind : (new : DeskView D) → may_keep event None old ≡ true → HasGoneOn event None old new → IsBehind told content may_leave event old new (behind event None desk) → state_of content new ≡ behind_turn (state_of content old) turn answer
    unfolding behind_turn
    state-behind new might gone is =
        ap (λ (d : DeskModel). state_as d (room_of new.store.book)) (sym (desk-behind told content may_leave event old new (behind event None desk) (coming-turn might) is))
        ∙ ap (state_as (behind event None desk)) (let e : room_of new.store.book ≡ room_of old.store.book - (length (spelling event) + 5) = omega (arith, gone.room) in e)
        ∙ ap (λ e. state_as (behind event None desk) (room_behind (room_of old.store.book) e)) (sym event-so)
        ∙ ap (λ (done : TurnDone). state_as done.desk (room_behind (room_of old.store.book) (event_of_turn (state_of content old) turn answer))) (sym told-so)
      where
        state_as : DeskModel → ℕ → RoomyDesk
        state_as d room = record { desk = d; room = room }

    -- ---- what a stop leaves

    pub image-kept : (image : List ℕ) → IsLeftBehind content may_leave size (Some event) old image
        → HasKept layout (size old.store.disk) (event_records layout (content old.store.disk)) (spelling event ∷ []) image
    image-kept image left = ⊎_elim
        (λ (by : IsLeftBy content may_leave size event None old image). ⊎_elim
        (λ (was : OpensSame content size old image × may_leave old.store.disk image). kept-left told content may_leave size old trusted (spelling event ∷ []) image was.0 was.1)
        (λ (now : (may_keep event None old ≡ true) × Opens layout (size old.store.disk) (IsBeforeOrAfter (event_records layout (content old.store.disk)) (spelling event)) image × HasSameRecords layout (content old.store.disk) image).
        ⊎_elim
        (λ same. kept-same told content may_leave size old trusted (spelling event ∷ []) image (record { head = now.1.head; list = same; closed = now.1.closed }) now.2)
        (λ more. kept-behind told content may_leave size old trusted event (behind event None desk) (coming-turn now.0) image (record { head = now.1.head; list = more; closed = now.1.closed })
        (again-so layout (behind event None desk).office (Some event) image (coming-turn now.0).last
        (told-committed layout old.jobs (content old.store.disk) desk turn answer reply event trusted.stands its at-desk image now.2)) (entries-so now.0 image now.2))
        now.1.list)
        by)
        (λ lacks. absurd (quiet-lacks event quiet-so layout _ lacks.told_on image lacks.lacks))
        left
