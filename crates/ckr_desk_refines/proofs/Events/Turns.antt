-- The jobs in memory stand for the desk behind the event of a turn, or the wait for the operator's word, of another call, and of a code: the end of a run,
-- its hold and its restart.
use Rattle.std.proofs.Common.{◌≡◌, ◌≤◌, ℕ, suc, Bool, List, length, refl, ap, sym, subst, Some, None, Ok}
use Rattle.arrayvec.specs.ArrayVec.{ArrayVec}
use Rattle.ckr_base.specs.declared.code.Code.{Code}
use Rattle.ckr_base.proofs.Options.{some-not-none}
use Rattle.ckr_console.specs.declared.question.Answer.{Answer}
use Rattle.ckr_events.specs.declared.event.Ending.TheVariants.{Coded}
use Rattle.ckr_events.specs.declared.event.Event.{Event}
use Rattle.ckr_events.specs.declared.event.Event.TheVariants.{Ended, Held, Purged, Released, Restarted, Submitted}
use Rattle.ckr_jcl.specs.declared.deck.Job.{Job}
use Rattle.ckr_jcl_decks.specs.Deck.{stored_deck}
use Rattle.ckr_desk_memory.specs.View.{JobsView}
use Rattle.ckr_desk_turn.specs.NextEvents.{Comes, EventComes}
use Rattle.ckr_desk_turn.specs.Turns.{carried_out, IsMountedTurnOf, MountedTurn, plan_for, turn_of}
use Rattle.ckr_desk_turn.specs.Invariant.{IsDesk, Keeps}
use Rattle.ckr_desk_turn.proofs.Select.{purged-keeps, released-keeps, stored-keeps}
use Rattle.ckr_desk_turn.proofs.Turns.Initiator.{turn-keeps}
use Rattle.ckr_desk_refines.specs.Commits.{HasCommitted, HasWithinRun}
use Rattle.ckr_desk_refines.proofs.Durable.Events.{quiet-stays}
use Rattle.ckr_desk_refines.proofs.Durable.Fellows.{others-coded}
use Rattle.ckr_desk_refines.proofs.Durable.Restart.{restarted-stays}
use Rattle.ckr_points.specs.declared.run.RunState.TheVariants.{Held as HeldRun, Queued}
use Rattle.ckr_points.specs.Office.{office_after}
use Rattle.ckr_points.specs.Rows.{RunRow, run_of}
use Rattle.ckr_desk_refines.specs.Moves.{HasSameRecords, HasWaited, HaveMoved, KnowsItsEntry, event_in}
use Rattle.ckr_desk_refines.specs.Standing.{OwnStands, StandsBut, StandsForDesk}
use Rattle.ckr_desk_turn.specs.Cards.{kept_of_stored}
use Rattle.ckr_desk_turn.specs.declared.plan.Plan.{Plan}
use Rattle.ckr_desk_turn.specs.declared.plan.Plan.TheVariants.{Rest, Tell, Work, Pass, Take, Ask, Wait}
use Rattle.ckr_points.specs.declared.reply.Reply.{Reply}
use Rattle.ckr_desk_turn.specs.Desk.{DeskModel, behind, done_by, jobs_of, purged, released, submitted, waiting}
use Rattle.ckr_desk_turn.specs.Inquiries.{decide}
use Rattle.ckr_volumes.specs.declared.layout.Layout.{Layout}
use Rattle.ckr_desk_refines.proofs.Events.Desk.{ended-stands, entered-stands, hold-stands, out-stands, restart-stands}
use Rattle.ckr_desk_refines.proofs.Events.TurnEvents.{BehindStands, IsCommitted, coded-committed, each-committed, each-stands, held-committed}
use Rattle.ckr_desk_refines.proofs.Events.Commits.{committed-moves}
use Rattle.ckr_desk_refines.proofs.Events.Plans.{OfPlan, answer-tells, turn-tells}
use Rattle.ckr_desk_refines.proofs.Events.OtherRows.{EntersOut, ended-leaves, purged-enters, released-enters, released-run, submitted-enters}
use Rattle.ckr_desk_refines.proofs.Events.OffRuns.{released-stands}
use Rattle.ckr_desk_refines.proofs.Standing.Points.{idle-stands}
use Rattle.ckr_desk_refines.proofs.Standing.Waits.{waited-stands}
use Rattle.ckr_desk_refines.proofs.Events.IdleRuns.{ended-idle}

-- ---- a turn

-- an answer by which an event is told
carried-event : (answer : Answer) (plan : Plan) (desk : DeskModel) (reply : Reply) (event : Event) → decide answer plan ≡ Tell reply event → (carried_out answer plan desk).event ≡ Some event
carried-event answer (Ask inquiry) desk reply event tells = ap (λ (plan : Plan). (done_by plan desk).event) tells
carried-event answer (Tell other its) desk reply event tells = ap (λ (plan : Plan). (done_by plan desk).event) tells
carried-event answer (Rest other) desk reply event tells = absurd (some-not-none event (sym (ap event_in tells)))
carried-event answer (Work job) desk reply event tells = absurd (some-not-none event (sym (ap event_in tells)))
carried-event answer (Pass job other) desk reply event tells = absurd (some-not-none event (sym (ap event_in tells)))
carried-event answer (Take job) desk reply event tells = absurd (some-not-none event (sym (ap event_in tells)))
carried-event answer (Wait job code) desk reply event tells = absurd (some-not-none event (sym (ap event_in tells)))

carried-desk : (answer : Answer) (plan : Plan) (desk : DeskModel) (reply : Reply) (event : Event) → decide answer plan ≡ Tell reply event → (carried_out answer plan desk).desk ≡ behind event None desk
carried-desk answer (Ask inquiry) desk reply event tells = ap (λ (plan : Plan). (done_by plan desk).desk) tells
carried-desk answer (Tell other its) desk reply event tells = ap (λ (plan : Plan). (done_by plan desk).desk) tells
carried-desk answer (Rest other) desk reply event tells = absurd (some-not-none event (sym (ap event_in tells)))
carried-desk answer (Work job) desk reply event tells = absurd (some-not-none event (sym (ap event_in tells)))
carried-desk answer (Pass job other) desk reply event tells = absurd (some-not-none event (sym (ap event_in tells)))
carried-desk answer (Take job) desk reply event tells = absurd (some-not-none event (sym (ap event_in tells)))
carried-desk answer (Wait job code) desk reply event tells = absurd (some-not-none event (sym (ap event_in tells)))

turn-comes : (desk : DeskModel) (turn : MountedTurn) (answer : Answer) (reply : Reply) (event : Event) → IsDesk desk → IsMountedTurnOf desk.layout turn → decide answer (plan_for desk.layout (jobs_of desk) turn) ≡ Tell reply event → Comes desk event × IsDesk (behind event None desk)
unfolding turn_of
turn-comes desk turn answer reply event is its tells =
    let plan : Plan = plan_for desk.layout (jobs_of desk) turn in
    let keeps : Keeps desk (carried_out answer plan desk) = turn-keeps desk turn answer is its.above its.below in
    (subst (EventComes desk) (carried-event answer plan desk reply event tells) keeps.comes, subst IsDesk (carried-desk answer plan desk reply event tells) keeps.kept)

pub told-committed : (layout : Layout) (jobs : JobsView) (before : List ℕ) (desk : DeskModel) (turn : MountedTurn) (answer : Answer) (reply : Reply) (event : Event) → StandsForDesk layout jobs before desk → IsMountedTurnOf desk.layout turn → decide answer (plan_for desk.layout (jobs_of desk) turn) ≡ Tell reply event
    → (image : List ℕ) → HasSameRecords desk.layout before image → HasCommitted desk.layout (behind event None desk).office image
told-committed layout jobs before desk turn answer reply event stands its tells image same =
    let comes = turn-comes desk turn answer reply event stands.is_desk its tells in
    let so : IsCommitted desk before event =
    subst (OfPlan (IsCommitted desk before)) tells
    (answer-tells (IsCommitted desk before) answer (plan_for desk.layout (jobs_of desk) turn)
    (turn-tells desk stands.is_desk before jobs.running stands.running stands.committed (IsCommitted desk before) (each-committed desk stands.is_desk before stands.committed) turn its)) in
    committed-moves desk.layout (behind event None desk).office before image comes.1.kept same (so comes.0 comes.1)

pub told-stands : (layout : Layout) (old new : JobsView) (before after : List ℕ) (desk : DeskModel) (turn : MountedTurn) (answer : Answer) (reply : Reply) (event : Event) → StandsForDesk layout old before desk → IsMountedTurnOf desk.layout turn → decide answer (plan_for desk.layout (jobs_of desk) turn) ≡ Tell reply event
    → KnowsItsEntry event desk old.points → HaveMoved event None old new → HasSameRecords desk.layout before after → StandsForDesk layout new after (behind event None desk)
told-stands layout old new before after desk turn answer reply event stands its tells knows moved same =
    let comes = turn-comes desk turn answer reply event stands.is_desk its tells in
    let so : BehindStands layout old new before after desk stands same event =
    subst (OfPlan (BehindStands layout old new before after desk stands same)) tells
    (answer-tells (BehindStands layout old new before after desk stands same) answer (plan_for desk.layout (jobs_of desk) turn)
    (turn-tells desk stands.is_desk before old.running stands.running stands.committed (BehindStands layout old new before after desk stands same) (each-stands layout old new before after desk stands same) turn its)) in
    so comes.0 comes.1 knows moved (told-committed layout old before desk turn answer reply event stands its tells after same)

-- and one by which the run waits
carried-waits : (answer : Answer) (plan : Plan) (desk : DeskModel) (job : ℕ) (code : Code) → decide answer plan ≡ Wait job code → (carried_out answer plan desk).desk ≡ waiting job code desk
carried-waits answer (Ask inquiry) desk job code waits = ap (λ (plan : Plan). (done_by plan desk).desk) waits
carried-waits answer (Wait other its) desk job code waits = ap (λ (plan : Plan). (done_by plan desk).desk) waits
carried-waits answer _ desk job code waits = cc

pub turn-waits : (layout : Layout) (old new : JobsView) (image : List ℕ) (desk : DeskModel) (turn : MountedTurn) (answer : Answer) (job : ℕ) (code : Code) → StandsForDesk layout old image desk → IsMountedTurnOf desk.layout turn → decide answer (plan_for desk.layout (jobs_of desk) turn) ≡ Wait job code
    → HasWaited job code old new → StandsForDesk layout new image (turn_of desk turn answer).desk
unfolding turn_of
turn-waits layout old new image desk turn answer job code stands its waits waited =
    subst (StandsForDesk layout new image) (sym (carried-waits answer (plan_for desk.layout (jobs_of desk) turn) desk job code waits)) (waited-stands layout old new image desk job code stands waited)

-- ---- the other calls

pub submitted-committed : (layout : Layout) (jobs : JobsView) (before : List ℕ) (desk : DeskModel) (cards : List ℕ) (deck : Job) → StandsForDesk layout jobs before desk → suc (length desk.office.tables.runs) ≤ 9999999 → 81 ≤ length cards → stored_deck cards ≡ Ok deck
    → (image : List ℕ) → HasSameRecords desk.layout before image → HasCommitted desk.layout (submitted (kept_of_stored cards) deck desk).office image
submitted-committed layout jobs before desk cards deck stands few some accepted image same =
    let later : IsDesk (submitted (kept_of_stored cards) deck desk) = stored-keeps desk stands.is_desk cards deck few some accepted in
    committed-moves desk.layout (submitted (kept_of_stored cards) deck desk).office before image later.kept same
    (quiet-stays desk.layout desk.office before (Submitted (suc (length desk.office.tables.runs)) (kept_of_stored cards)) (Some deck) refl stands.is_desk.kept later.kept stands.committed)

pub submitted-stands : (layout : Layout) (old new : JobsView) (before after : List ℕ) (desk : DeskModel) (cards : List ℕ) (deck : Job) → StandsForDesk layout old before desk → suc (length desk.office.tables.runs) ≤ 9999999 → 81 ≤ length cards → stored_deck cards ≡ Ok deck
    → HaveMoved (Submitted (suc (length desk.office.tables.runs)) (kept_of_stored cards)) (Some deck) old new → HasSameRecords desk.layout before after → StandsForDesk layout new after (submitted (kept_of_stored cards) deck desk)
submitted-stands layout old new before after desk cards deck stands few some accepted moved same =
    let out : EntersOut desk.office (submitted (kept_of_stored cards) deck desk).office = submitted-enters desk.office (kept_of_stored cards) deck in
    entered-stands layout old new before after desk (Submitted (suc (length desk.office.tables.runs)) (kept_of_stored cards)) (Some deck) stands moved same refl
    (stored-keeps desk stands.is_desk cards deck few some accepted) out.enters moved.running refl moved.points
    (out-stands desk.office (submitted (kept_of_stored cards) deck desk).office out old.points)
    (submitted-committed layout old before desk cards deck stands few some accepted after same)

pub purged-committed : (layout : Layout) (jobs : JobsView) (before : List ℕ) (desk : DeskModel) (job : ℕ) (row : RunRow) → StandsForDesk layout jobs before desk → run_of desk.office.tables job ≡ Some row → row.state ≡ Queued
    → (image : List ℕ) → HasSameRecords desk.layout before image → HasCommitted desk.layout (purged job desk).office image
purged-committed layout jobs before desk job row stands at queued image same =
    let later : IsDesk (purged job desk) = purged-keeps desk stands.is_desk job row at queued in
    committed-moves desk.layout (purged job desk).office before image later.kept same
    (quiet-stays desk.layout desk.office before (Purged job) None refl stands.is_desk.kept later.kept stands.committed)

pub purged-stands : (layout : Layout) (old new : JobsView) (before after : List ℕ) (desk : DeskModel) (job : ℕ) (row : RunRow) → StandsForDesk layout old before desk → run_of desk.office.tables job ≡ Some row → row.state ≡ Queued
    → HaveMoved (Purged job) None old new → HasSameRecords desk.layout before after → StandsForDesk layout new after (purged job desk)
purged-stands layout old new before after desk job row stands at queued moved same =
    let out : EntersOut desk.office (purged job desk).office = purged-enters desk.layout desk.office job row stands.is_desk.kept.events at queued in
    entered-stands layout old new before after desk (Purged job) None stands moved same refl
    (purged-keeps desk stands.is_desk job row at queued) out.enters moved.running refl moved.points (out-stands desk.office (purged job desk).office out old.points)
    (purged-committed layout old before desk job row stands at queued after same)

pub released-committed : (layout : Layout) (jobs : JobsView) (before : List ℕ) (desk : DeskModel) (job : ℕ) (row : RunRow) → StandsForDesk layout jobs before desk → run_of desk.office.tables job ≡ Some row → row.state ≡ HeldRun
    → (image : List ℕ) → HasSameRecords desk.layout before image → HasCommitted desk.layout (released job desk).office image
released-committed layout jobs before desk job row stands at held image same =
    let later : IsDesk (released job desk) = released-keeps desk stands.is_desk job row at held in
    committed-moves desk.layout (released job desk).office before image later.kept same
    (quiet-stays desk.layout desk.office before (Released job) None refl stands.is_desk.kept later.kept stands.committed)

pub release-stands : (layout : Layout) (old new : JobsView) (before after : List ℕ) (desk : DeskModel) (job : ℕ) (row : RunRow) → StandsForDesk layout old before desk → run_of desk.office.tables job ≡ Some row → row.state ≡ HeldRun
    → HaveMoved (Released job) None old new → HasSameRecords desk.layout before after → StandsForDesk layout new after (released job desk)
release-stands layout old new before after desk job row stands at held moved same =
    entered-stands layout old new before after desk (Released job) None stands moved same refl
    (released-keeps desk stands.is_desk job row at held) (released-enters desk.layout desk.office job row stands.is_desk.kept.events at held) moved.running refl moved.points
    (subst (OwnStands (office_after (Released job, None) desk.office) old.points) (sym (released-run desk.layout desk.office job row stands.is_desk.kept.events at held))
    (released-stands desk.layout desk.office stands.is_desk.kept.events stands.is_desk.ready old.points stands.points job row at held))
    (released-committed layout old before desk job row stands at held after same)

-- ---- a code, whatever the step of its run has come to

pub code-committed : (layout : Layout) (jobs : JobsView) (before : List ℕ) (desk : DeskModel) (run rule writes : ℕ) (code : Code) (lengths : ArrayVec ℕ) → StandsBut run layout jobs before desk → Comes desk (Ended run (Coded code rule writes lengths))
    → IsDesk (behind (Ended run (Coded code rule writes lengths)) None desk) → HasWithinRun desk.layout desk.office run writes before
    → (image : List ℕ) → HasSameRecords desk.layout before image → HasCommitted desk.layout (behind (Ended run (Coded code rule writes lengths)) None desk).office image
code-committed layout jobs before desk run rule writes code lengths stands comes later has image same =
    committed-moves desk.layout (behind (Ended run (Coded code rule writes lengths)) None desk).office before image later.kept same
    (coded-committed desk stands.is_desk before stands.committed run rule writes code lengths has comes later)

pub code-stands : (layout : Layout) (old new : JobsView) (before after : List ℕ) (desk : DeskModel) (run rule writes : ℕ) (code : Code) (lengths : ArrayVec ℕ) → StandsBut run layout old before desk → Comes desk (Ended run (Coded code rule writes lengths))
    → IsDesk (behind (Ended run (Coded code rule writes lengths)) None desk) → HasWithinRun desk.layout desk.office run writes before
    → HaveMoved (Ended run (Coded code rule writes lengths)) None old new → HasSameRecords desk.layout before after → StandsForDesk layout new after (behind (Ended run (Coded code rule writes lengths)) None desk)
code-stands layout old new before after desk run rule writes code lengths stands comes later has moved same =
    ended-stands layout old new before after desk (Ended run (Coded code rule writes lengths)) run refl stands.layout_is stands.is_desk stands.tables stands.failed stands.differ_so stands.points
    (idle-stands (office_after (Ended run (Coded code rule writes lengths), None) desk.office) new.points run
    (ended-idle desk.layout desk.office stands.is_desk.kept.events stands.is_desk.ready run (Coded code rule writes lengths))) stands.running moved same refl later
    (ended-leaves desk.layout desk.office run (Coded code rule writes lengths) stands.is_desk.kept.events)
    (others-coded desk.layout desk.office run rule writes code lengths None stands.is_desk.kept comes.may comes.carried) moved.running refl
    (code-committed layout old before desk run rule writes code lengths stands comes later has after same)

-- ---- a hold, whatever the step has come to

pub hold-committed : (layout : Layout) (jobs : JobsView) (before : List ℕ) (desk : DeskModel) (run writes : ℕ) (code : Code) (lengths : ArrayVec ℕ) → StandsBut run layout jobs before desk → Comes desk (Held run code writes lengths)
    → IsDesk (behind (Held run code writes lengths) None desk) → HasWithinRun desk.layout desk.office run writes before
    → (image : List ℕ) → HasSameRecords desk.layout before image → HasCommitted desk.layout (behind (Held run code writes lengths) None desk).office image
hold-committed layout jobs before desk run writes code lengths stands comes later has image same =
    committed-moves desk.layout (behind (Held run code writes lengths) None desk).office before image later.kept same
    (held-committed desk stands.is_desk before stands.committed run writes code lengths has comes later)

pub held-stands : (layout : Layout) (old new : JobsView) (before after : List ℕ) (desk : DeskModel) (run writes : ℕ) (code : Code) (lengths : ArrayVec ℕ) → StandsBut run layout old before desk → Comes desk (Held run code writes lengths)
    → IsDesk (behind (Held run code writes lengths) None desk) → HasWithinRun desk.layout desk.office run writes before
    → HaveMoved (Held run code writes lengths) None old new → HasSameRecords desk.layout before after → StandsForDesk layout new after (behind (Held run code writes lengths) None desk)
held-stands layout old new before after desk run writes code lengths stands comes later has moved same =
    hold-stands layout old new before after desk run writes code lengths stands.layout_is stands.is_desk stands.tables stands.failed stands.differ_so stands.points stands.running moved same comes later
    (hold-committed layout old before desk run writes code lengths stands comes later has after same)

-- ---- a restart, whatever the step has come to

pub restart-committed : (layout : Layout) (jobs : JobsView) (before : List ℕ) (desk : DeskModel) (run initiator : ℕ) (code : Code) (checkpoint : Bool) → StandsBut run layout jobs before desk → Comes desk (Restarted run initiator code checkpoint)
    → IsDesk (behind (Restarted run initiator code checkpoint) None desk)
    → (image : List ℕ) → HasSameRecords desk.layout before image → HasCommitted desk.layout (behind (Restarted run initiator code checkpoint) None desk).office image
restart-committed layout jobs before desk run initiator code checkpoint stands comes later image same =
    committed-moves desk.layout (behind (Restarted run initiator code checkpoint) None desk).office before image later.kept same
    (restarted-stays desk.layout desk.office before run initiator code checkpoint None stands.is_desk.kept later.kept stands.committed)

pub restarted-stands : (layout : Layout) (old new : JobsView) (before after : List ℕ) (desk : DeskModel) (run initiator : ℕ) (code : Code) (checkpoint : Bool) → StandsBut run layout old before desk → Comes desk (Restarted run initiator code checkpoint)
    → IsDesk (behind (Restarted run initiator code checkpoint) None desk)
    → HaveMoved (Restarted run initiator code checkpoint) None old new → HasSameRecords desk.layout before after → StandsForDesk layout new after (behind (Restarted run initiator code checkpoint) None desk)
restarted-stands layout old new before after desk run initiator code checkpoint stands comes later moved same =
    restart-stands layout old new before after desk run initiator code checkpoint stands.layout_is stands.is_desk stands.tables stands.failed stands.differ_so stands.points stands.running moved same comes later
    (restart-committed layout old before desk run initiator code checkpoint stands comes later after same)
