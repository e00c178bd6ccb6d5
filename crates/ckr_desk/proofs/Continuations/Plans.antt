-- A plan by which a run goes on at a checkpoint of an earlier one: what it tells, what follows in its place, and what it comes to on a trusted disk.
use Rattle.std.proofs.Common.{◌≡◌, ◌==◌, ◌&&◌, ◌++◌, ℕ, zero, suc, not, Bool, true, false, cond, List, [], find, append-nil, ap, sym, ◌∙◌, subst, Option, Some, None, Result, Ok, Err, arith}
use Rattle.std.specs.Prelude.{option_and_then}
use Rattle.std.specs.Option.{is_some, option_map, option_map_or}
use Rattle.std.proofs.lemmas.Option.{same_Some}
use Rattle.std.proofs.lemmas.Bool.{and_from}
use Rattle.ckr_base.proofs.Bools.{bool-cases}
use Rattle.ckr_base.proofs.Numbers.{equal-true, zero-not-suc}
use Rattle.ckr_base.proofs.Options.{some-not-none}
use Rattle.ckr_console.specs.declared.question.Answer.{Answer}
use Rattle.ckr_events.specs.declared.event.Event.{Event}
use Rattle.ckr_events.specs.declared.event.Event.TheVariants.{Selected}
use Rattle.ckr_meaning.specs.EffectiveJob.{OwnedStep}
use Rattle.ckr_points.specs.Events.{AreSound, IsNext}
use Rattle.ckr_points.specs.Follows.{is_in_state, of_run}
use Rattle.ckr_points.specs.Rows.{RunRow, TablesModel, step_of_run}
use Rattle.ckr_points.specs.Soundness.{AreLaidOut}
use Rattle.ckr_points.specs.declared.run.RunState.TheVariants.{Queued}
use Rattle.ckr_points_invariant.specs.KeptEvents.{AreKept}
use Rattle.ckr_points_invariant.specs.EarlierRuns.{MayContinue}
use Rattle.ckr_points_invariant.proofs.Continuations.Follows.{may-continue}
use Rattle.ckr_rules.specs.declared.cases.Rule.{Rule}
use Rattle.ckr_volumes.specs.declared.layout.Layout.{Layout}
use Rattle.ckr_desk_refines.specs.Memory.EventChanges.{is_point_of}
use Rattle.ckr_desk_refines.specs.Memory.OwnSteps.{KnowsItsPoint, PlanFollows}
use Rattle.ckr_desk_refines.specs.Memory.Plans.{NeedsRoom}
use Rattle.ckr_desk_refines.specs.Memory.View.{PointView, jobs_of}
use Rattle.ckr_desk_turn.proofs.Turns.Initiator.{turn-keeps}
use Rattle.ckr_desk_turn.specs.Desk.{DeskModel, TurnDone}
use Rattle.ckr_desk_turn.specs.Turns.{IsMountedTurnOf, MountedTurn, plan_for}
use Rattle.ckr_desk_turn.specs.Invariant.{IsDesk}
use Rattle.ckr_desk_turn.specs.NextEvents.{EventComes}
use Rattle.ckr_desk_turn.specs.declared.plan.Plan.{Plan}
use Rattle.ckr_desk_turn.specs.declared.plan.Plan.TheVariants.{Tell}
use Rattle.ckr_points.specs.declared.reply.Reply.{Reply}
use Rattle.ckr_desk_refines.specs.Entries.{AreOwned, AreWithin}
use Rattle.ckr_desk_refines.specs.InEffect.{AreInEffect}
use Rattle.ckr_desk_refines.specs.Moves.{KnowsItsEntry}
use Rattle.ckr_desk_refines.proofs.Entries.SoundEvents.{sound-entries, sound-owners}
use Rattle.ckr_desk_refines.proofs.Standing.Continuation.{wanted-stands}
use Rattle.ckr_desk_store.specs.OpenImages.{event_records}
use Rattle.ckr_desk.proofs.Continuations.Entries.{point-program}
use Rattle.ckr_desk.proofs.Continuations.Trusted.{HasItsPoint, at_checkpoint, has-point}
use Rattle.ckr_desk.proofs.Turns.Events.{turned}
use Rattle.ckr_desk.specs.Continuation.{IsEntryPoint, PlanKnows, PlanStandsAt, continuation_by, continuation_in, denial_plan, judged_plan, judged_point, plan_by, program_in}
use Rattle.ckr_desk.specs.Soundness.{IsTrusted, events_in, office_on, state_of}
use Rattle.ckr_desk.specs.State.{DeskView}
use Rattle.ckr_desk.specs.declared.continuation.Continuation.{Continuation}

-- ---- what it tells

-- the event of a plan that goes on at a checkpoint
pub record Continues (plan : Plan) (at : Continuation) : Type 0 where
  pub reply : Reply
  pub initiator : ℕ
  pub before : ℕ
  pub earlier : at.earlier ≡ suc before
  pub told : plan ≡ Tell reply (Selected at.job initiator (suc before) at.step (Some at.id))

-- an earlier run has a number from 1 on
past-none : (before : ℕ) (there : Option Continuation) → cond (suc before == 0) None there ≡ there
past-none before there =
    ap (λ (b : Bool). cond b None there)
    (bool-cases (suc before == 0) (λ none. absurd (zero-not-suc before (sym (equal-true (suc before) 0 none)))) (λ some. some))

past-zero : (before : ℕ) → not (suc before == 0) ≡ true
past-zero before = bool-cases (suc before == 0) (λ none. absurd (zero-not-suc before (sym (equal-true (suc before) 0 none)))) (λ some. ap not some)

told-so : (reply : Reply) (event : Event) (at : Continuation) → continuation_by event ≡ Some at → Continues (Tell reply event) at
told-so reply (Selected job initiator zero step id) at is = absurd (some-not-none at (sym is))
told-so reply (Selected job initiator (suc before) step None) at is = absurd (some-not-none at (sym is ∙ past-none before None))
told-so reply (Selected job initiator (suc before) step (Some id)) at is =
    let same : at_checkpoint job before step id ≡ at = same_Some (at_checkpoint job before step id) at (sym (past-none before (Some (at_checkpoint job before step id))) ∙ is) in
    record {
      reply = reply;
      initiator = initiator;
      before = before;
      earlier = sym (ap (λ (a : Continuation). a.earlier) same);
      told = ap (λ (a : Continuation). Tell reply (Selected a.job initiator (suc before) a.step (Some a.id))) same;
    }
told-so reply _ at is = absurd (some-not-none at (sym is))

pub continues-so : (plan : Plan) (at : Continuation) → continuation_in plan ≡ Some at → Continues plan at
continues-so (Tell reply event) at is = told-so reply event at is
continues-so _ at is = absurd (some-not-none at (sym is))

-- it needs memory
pub continues-needs : (plan : Plan) (at : Continuation) → continuation_in plan ≡ Some at → NeedsRoom plan
continues-needs plan at is =
    let its : Continues plan at = continues-so plan at is in
    subst NeedsRoom (sym its.told) (past-zero its.before)

-- another plan asks nothing of the points
event-stands : (event : Event) (desk : DeskModel) (points : List PointView) → continuation_by event ≡ None → KnowsItsEntry event desk points
event-stands (Selected job initiator zero step id) desk points none = tt
event-stands (Selected job initiator (suc before) step None) desk points none = tt
event-stands (Selected job initiator (suc before) step (Some id)) desk points none = absurd (some-not-none (at_checkpoint job before step id) (sym (past-none before (Some (at_checkpoint job before step id))) ∙ none))
event-stands _ desk points none = tt

pub aside-stands : (plan : Plan) (desk : DeskModel) (points : List PointView) → continuation_in plan ≡ None → PlanStandsAt desk points plan
aside-stands (Tell reply event) desk points none = event-stands event desk points none
aside-stands _ desk points none = tt

event-knows : (event : Event) (tables : TablesModel) (points : List PointView) → continuation_by event ≡ None → KnowsItsPoint event tables points
event-knows (Selected job initiator zero step id) tables points none = tt
event-knows (Selected job initiator (suc before) step None) tables points none = tt
event-knows (Selected job initiator (suc before) step (Some id)) tables points none = absurd (some-not-none (at_checkpoint job before step id) (sym (past-none before (Some (at_checkpoint job before step id))) ∙ none))
event-knows _ tables points none = tt

pub aside-knows : (plan : Plan) (tables : TablesModel) (points : List PointView) → continuation_in plan ≡ None → PlanKnows tables points plan
aside-knows (Tell reply event) tables points none = event-knows event tables points none
aside-knows _ tables points none = tt

-- ---- what is judged

module _ (layout : Layout) (tables : TablesModel) (image : List ℕ) (plan : Plan) where
  -- a plan that goes on at no checkpoint stays
  pub judged-aside : continuation_in plan ≡ None → plan ≡ judged_plan layout tables image plan
  judged-aside none = sym (ap (λ (o : Option Continuation). option_map_or (λ (at : Continuation). plan_by plan at.job (judged_point layout tables image at)) o plan) none)

  -- one that does is as its entry is found
  pub judged-found : (at : Continuation) (found : Result PointView Rule) → continuation_in plan ≡ Some at → found ≡ judged_point layout tables image at → plan_by plan at.job found ≡ judged_plan layout tables image plan
  judged-found at found is same =
      ap (plan_by plan at.job) same
      ∙ sym (ap (λ (o : Option Continuation). option_map_or (λ (at : Continuation). plan_by plan at.job (judged_point layout tables image at)) o plan) is)

-- ---- on any disk

module _ (layout : Layout) (tables : TablesModel) (plan : Plan) (at : Continuation) (is : continuation_in plan ≡ Some at) (follow : PlanFollows layout tables plan) where
  its : Continues plan at
  its = continues-so plan at is

  may : MayContinue layout tables at.job its.initiator (suc its.before) at.step (Some at.id)
  may =
      may-continue layout tables at.job its.initiator (suc its.before) at.step (Some at.id) (λ none. (let no : ⊥ = omega (arith, none) in no))
      (subst (PlanFollows layout tables) its.told follow)

  -- the run waits in the queue
  pub queued-so : of_run tables at.job (is_in_state Queued) ≡ true
  queued-so = ap (λ (o : Option RunRow). option_map_or (is_in_state Queued) o false) may.row_at ∙ may.queued

  -- its restart may be denied
  pub denial-follows : (rule : Rule) → PlanFollows layout tables (denial_plan at.job rule)
  denial-follows rule =
      ap (λ (o : Option RunRow). option_map_or (λ (row : RunRow). is_in_state Queued row && is_some row.deck.restart) o false) may.row_at
      ∙ and_from (is_in_state Queued may.row) (is_some may.row.deck.restart) may.queued (ap is_some may.has)

  -- a point that was found of its entry is known then
  pub found-knows : (point : PointView) (points : List PointView) → IsEntryPoint at.job (program_in tables at.earlier at.step) point → find (is_point_of at.job) points ≡ Some point → PlanKnows tables points plan
  found-knows point points of_entry found =
      subst (PlanKnows tables points) (sym its.told)
      (λ row owned row_at step_at.
      record {
        point = point;
        found = found;
        program = point-program at.job owned.step.program (program_in tables at.earlier at.step) point
            (ap (λ (run : ℕ). program_in tables run at.step) its.earlier
            ∙ ap (λ (o : Option RunRow). option_map (λ (owned : OwnedStep). owned.step.program) (option_and_then (λ (row : RunRow). step_of_run row at.step) o)) row_at
            ∙ ap (option_map (λ (owned : OwnedStep). owned.step.program)) step_at)
            of_entry;
      })

-- ---- on a trusted disk

pub ok-point : (one other : PointView) → ◌≡◌ {A = Result PointView Rule} (Ok one) (Ok other) → one ≡ other
ok-point one other same = cc

pub not-ok : (rule : Rule) (point : PointView) → ◌≡◌ {A = Result PointView Rule} (Err rule) (Ok point) → ⊥
not-ok rule point same = cc

module _ {D : Type 0} (told : Type 0) (content : D → List ℕ) (may_leave : D → List ℕ → Type 0) (size : D → ℕ) (old : DeskView D) (trusted : IsTrusted told content may_leave old)
    (laid : AreLaidOut old.store.layout old.jobs.tables.desk.sets) (turn : MountedTurn) (its_turn : IsMountedTurnOf old.store.layout turn) (answer : Answer)
    (plan : Plan) (planned : plan_for old.store.layout (jobs_of old.jobs) turn ≡ plan) (follow : PlanFollows old.store.layout old.jobs.tables.desk plan) (at : Continuation) (is : continuation_in plan ≡ Some at) where
  abbrev pub layout : Layout
  layout = old.store.layout

  abbrev pub image : List ℕ
  image = content old.store.disk

  abbrev pub desk : DeskModel
  desk = (state_of content old).desk

  abbrev pub tells : Continues plan at
  tells = continues-so plan at is

  abbrev pub event : Event
  event = Selected at.job tells.initiator (suc tells.before) at.step (Some at.id)

  are : AreKept layout desk.office
  are =
      let is_desk : IsDesk desk = trusted.stands.is_desk in
      record { kept = is_desk.kept; pointed = is_desk.pointed; ready = is_desk.ready; begun = is_desk.begun; written = is_desk.written }

  sound : AreSound layout (events_in (event_records layout image) ++ [])
  sound = subst (AreSound layout) (sym (append-nil (events_in (event_records layout image)))) trusted.events

  kept-within : AreWithin desk.office.tables.sets × AreInEffect desk.office
  unfolding office_on
  kept-within = sound-entries layout (events_in (event_records layout image)) [] sound

  kept-owners : AreOwned desk.office
  unfolding office_on
  kept-owners = sound-owners layout (events_in (event_records layout image)) [] sound

  -- the event of the plan may come
  comes : IsNext layout desk.office (event, None)
  comes =
      subst (λ (done : TurnDone). EventComes desk done.event) (turned told content may_leave size old trusted turn its_turn answer (Tell tells.reply event) (planned ∙ tells.told))
      (turn-keeps desk turn answer trusted.stands.is_desk its_turn.above its_turn.below).comes

  may-so : MayContinue layout desk.office.tables at.job tells.initiator (suc tells.before) at.step (Some at.id)
  unfolding its
  may-so = subst (λ (tables : TablesModel). MayContinue layout tables at.job tells.initiator (suc tells.before) at.step (Some at.id)) trusted.stands.tables (may layout old.jobs.tables.desk plan at is follow)

  pub point-there : HasItsPoint layout desk.office image at.job tells.before at.step at.id
  point-there =
      has-point layout desk.office (subst (λ (tables : TablesModel). AreLaidOut layout tables.sets) trusted.stands.tables laid) kept-within.0 image trusted.entries are.kept.events.numbered at.job tells.initiator tells.before at.step at.id may-so

  -- it is what was judged
  pub judged-there : judged_point layout old.jobs.tables.desk image at ≡ Ok point-there.point
  judged-there =
      ap (λ (tables : TablesModel). judged_point layout tables image at) trusted.stands.tables
      ∙ ap (λ (n : ℕ). judged_point layout desk.office.tables image (record at { earlier = n })) tells.earlier
      ∙ point-there.judged

  -- and stands for the entry behind the event
  pub stands-there : (point : PointView) (points : List PointView) → find (is_point_of at.job) points ≡ Some point → point ≡ point-there.point → PlanStandsAt desk points plan
  stands-there point points found same =
      subst (PlanStandsAt desk points) (sym tells.told)
      (wanted-stands layout desk.office are kept-within.0 kept-owners kept-within.1 at.job tells.initiator tells.before at.step at.id None comes image trusted.entries points
      (point-there.wanted points (found ∙ ap (λ (p : PointView). Some p) same)))
