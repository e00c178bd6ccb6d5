use Rattle.std.proofs.Common.{◌≡◌, ◌∙◌, find, true, ap, refl, subst, sym}
use Rattle.std.specs.Option.{is_some}
use Rattle.ckr_desk_refines.specs.Memory.EventChanges.{is_point_of}
use Rattle.ckr_desk_refines.specs.Memory.Plans.{HasDue, NeedsRoom}
use Rattle.ckr_desk_refines.specs.Memory.View.{jobs_of}
use Rattle.ckr_desk_turn.proofs.Mounts.{taken-stays}
use Rattle.ckr_desk_turn.specs.Plans.{plan_of}
use Rattle.ckr_desk_turn.specs.Turns.{IsMountedTurnOf}
use Rattle.ckr_desk_turn.specs.declared.plan.Plan.TheVariants.{Work}
use Rattle.ckr_queue.specs.Mounts.{held_at}
use Rattle.ckr_volumes.specs.declared.layout.Layout.{Layout}
use Rattle.ckr_desk.proofs.Attendances.{attempt-at, attended-before, attended-not, attended-plainly, held-at-hand, lacks-so, needs-lacks, reading-room}
use Rattle.ckr_desk.proofs.Calls.Stops.{now-left, read-left}
use Rattle.ckr_desk.proofs.Layouts.{kept-stay}
use Rattle.ckr_desk.proofs.Trust.Sameness.{IsAsBefore, state-same}
use Rattle.ckr_desk.proofs.Turns.Plans.{reading-fails}
use Rattle.ckr_desk.proofs.Turns.Preparation.{planned-before, twice-stayed}
use Rattle.ckr_desk.proofs.Units.Preparation.{err-is}
use Rattle.ckr_desk.specs.Attendance.{HasAttended, attended, attended_event, untaken}
use Rattle.ckr_desk.specs.Continuation.{PlanStandsAt}
use Rattle.ckr_desk.specs.NoChange.{HaveStayed}
use Rattle.ckr_desk.specs.Soundness.{state_of}
use Rattle.ckr_desk.specs.State.{DeskView, RoomyDesk}
use Rattle.ckr_desk.specs.Units.{IsPlanned}
use Rattle.ckr_desk.specs.declared.error.DeskError.TheVariants.{NoMemory}
use Rattle.ckr_desk.proofs.desk.Desk.open_turn.Goals as goal

pub invariant_of-self : goal.invariant_of-self
invariant_of-self g c =
    record {
      jobs =
          kept-stay c.self.inside.store.layout c.self.inside.store.layout c.self.inside.jobs c.plan.new.self refl c.plan.ensures.tables c.plan.ensures.running c.plan.ensures.failed c.plan.ensures.points c.self.invariant.jobs;
      store = c.self.invariant.store;
    }

pub invariant_of-self-2 : goal.invariant_of-self-2
invariant_of-self-2 g c =
    record {
      jobs =
          kept-stay c.self.inside.store.layout c.self.inside.store.layout c.self.inside.jobs c.plan.new.self refl c.plan.ensures.tables c.plan.ensures.running c.plan.ensures.failed c.plan.ensures.points c.self.invariant.jobs;
      store = c.self.invariant.store;
    }

pub unit_due-requires : goal.unit_due-requires
unit_due-requires g c = c.self.invariant.jobs.are.rows

pub work-requires-clause-due : goal.work-requires-clause-due
work-requires-clause-due g c κs within =
    subst (λ (s : DeskView g.row.D.Denot). HasDue s.jobs (Work c.in-Some.job)) c.self.view_is (c.in-Some.ensures.due c.self.inside.store.layout)

-- ---- a unit of a step that holds its volumes

pub returns-in-Some-clause-attended : goal.returns-in-Some-clause-attended
returns-in-Some-clause-attended g c = λ trusted.
    let d = g.D.Disk in
    let now = c.args.self.now in
    let turn = c.args.turn in
    let p : IsPlanned d.told d.content d.may_leave now (untaken turn) (Work c.in-Some.job) = record {
      trusted = trusted;
      its = c.requires.initiator;
      planned = taken-stays now.store.layout (jobs_of now.jobs).tables (plan_of now.store.layout (jobs_of now.jobs) turn)
          ∙ subst (λ (s : DeskView g.row.D.Denot). plan_of now.store.layout (jobs_of s.jobs) turn ≡ Work c.in-Some.job) c.self.view_is (c.in-Some.ensures.plan now.store.layout);
    }
    in
    let held : is_some (held_at now.machine_room.mounts turn.initiator) ≡ true =
    ap (λ (s : DeskView g.row.D.Denot). is_some (held_at s.machine_room.mounts turn.initiator)) (sym c.self.view_is) ∙ sym c.holds.ensures ∙ c.if-holds.true
    in
    attended-plainly d.told d.content d.may_leave d.moment d.left_since d.size now turn
    (attempt-at d.told d.content d.may_leave now turn (Work c.in-Some.job) p
    ∙ held-at-hand now.store.layout now.jobs.tables.desk turn.initiator (Work c.in-Some.job) now.machine_room.mounts now.machine_room.operator held)
    c.work.new.self c.work.result (c.work.ensures.turned (untaken turn) p) (c.work.ensures.answered (untaken turn) p)

-- ---- any other turn

pub returns-in_err-planned-clause-attended : goal.returns-in_err-planned-clause-attended
returns-in_err-planned-clause-attended g c =
    let d = g.D.Disk in
    let old : DeskView g.row.D.Denot = record { store = c.self.inside.store; jobs = c.self.inside.jobs; machine_room = c.self.inside.machine_room } in
    let one : DeskView g.row.D.Denot = record { store = c.self.inside.store; jobs = c.plan.new.self; machine_room = c.self.inside.machine_room } in
    let turn = untaken c.args.turn in
    let stayed : HaveStayed old.jobs one.jobs = record { tables = c.plan.ensures.tables; running = c.plan.ensures.running; failed = c.plan.ensures.failed; points = λ run off. ap (find (is_point_of run)) c.plan.ensures.points } in
    let laws = g.met.D.Disk g.world.𝓛 g.world.𝓜 g.world.𝓡 ((λ s x. x), (λ x. x), (λ x. x), λ x. x) in
    let is_open = ap (λ (s : DeskView g.row.D.Denot). s.store.fault) c.self.view_is ∙ c.requires.is_open in
    let first : IsAsBefore d.told d.content d.may_leave old one = record { jobs = stayed; layout = refl; room = refl; reads = refl; none_new = λ image may. may } in
    let at_once = now-left d.told d.content d.may_leave d.moment d.left_since d.size old c.self.invariant.store is_open (laws.only_now old.store.disk) in
    let its = subst (λ (s : DeskView g.row.D.Denot). IsMountedTurnOf s.store.layout turn) (sym c.self.view_is) c.requires.initiator in
    let same = taken-stays old.store.layout (jobs_of old.jobs).tables (plan_of old.store.layout (jobs_of old.jobs) c.args.turn) in
    let plan = plan_of old.store.layout (jobs_of old.jobs) c.args.turn in
    rw (← c.self.view_is)
    (λ trusted.
    let p : IsPlanned d.told d.content d.may_leave old turn plan = record { trusted = trusted; its = its; planned = same } in
    subst (HasAttended d.told d.content d.may_leave d.moment d.left_since d.size c.args.turn old one) (sym (err-is c.from_residual.result NoMemory c.from_residual.ensures.1))
    (attended-not d.told d.content d.may_leave d.moment d.left_since d.size old one first refl at_once refl c.args.turn trusted NoMemory tt
    (needs-lacks d.told d.content d.may_leave d.moment d.left_since d.size d.faults old c.args.turn plan p
    (subst (λ (l : Layout). NeedsRoom (plan_of l (jobs_of c.self.inside.jobs) c.args.turn)) c.layout.ensures.layout c.in_err-planned.ensures.takes)) refl))

pub returns-in_err-plan-clause-attended : goal.returns-in_err-plan-clause-attended
returns-in_err-plan-clause-attended g c =
    let d = g.D.Disk in
    let old : DeskView g.row.D.Denot = record { store = c.self.inside.store; jobs = c.self.inside.jobs; machine_room = c.self.inside.machine_room } in
    let one : DeskView g.row.D.Denot = record { store = c.self.inside.store; jobs = c.plan.new.self; machine_room = c.self.inside.machine_room } in
    let turn = untaken c.args.turn in
    let stayed : HaveStayed old.jobs one.jobs = record { tables = c.plan.ensures.tables; running = c.plan.ensures.running; failed = c.plan.ensures.failed; points = λ run off. ap (find (is_point_of run)) c.plan.ensures.points } in
    let laws = g.met.D.Disk g.world.𝓛 g.world.𝓜 g.world.𝓡 ((λ s x. x), (λ x. x), (λ x. x), λ x. x) in
    let is_open = ap (λ (s : DeskView g.row.D.Denot). s.store.fault) c.self.view_is ∙ c.requires.is_open in
    let first : IsAsBefore d.told d.content d.may_leave old one = record { jobs = stayed; layout = refl; room = refl; reads = refl; none_new = λ image may. may } in
    let at_once = now-left d.told d.content d.may_leave d.moment d.left_since d.size old c.self.invariant.store is_open (laws.only_now old.store.disk) in
    let its = subst (λ (s : DeskView g.row.D.Denot). IsMountedTurnOf s.store.layout turn) (sym c.self.view_is) c.requires.initiator in
    let same = taken-stays old.store.layout (jobs_of old.jobs).tables (plan_of old.store.layout (jobs_of old.jobs) c.args.turn) in
    let mid : DeskView g.row.D.Denot = c.judged.new.self in
    let second : IsAsBefore d.told d.content d.may_leave one mid = record {
      jobs = c.judged.ensures.jobs;
      layout = c.judged.ensures.layout;
      room = c.judged.ensures.room;
      reads = c.judged.ensures.only_reads.same;
      none_new = c.judged.ensures.only_reads.none_new;
    }
    in
    let is : IsAsBefore d.told d.content d.may_leave old mid = record {
      jobs = twice-stayed old.jobs one.jobs mid.jobs stayed c.judged.ensures.jobs;
      layout = c.judged.ensures.layout;
      room = c.judged.ensures.room;
      reads = c.judged.ensures.only_reads.same;
      none_new = c.judged.ensures.only_reads.none_new;
    }
    in
    let since = read-left d.told d.content d.may_leave d.moment d.left_since d.size old mid.store.disk c.self.invariant.store is_open c.judged.ensures.only_reads in
    let plan = plan_of old.store.layout (jobs_of old.jobs) c.args.turn in
    let error = c.in_err-plan.field-0.0 in
    rw (← c.self.view_is)
    (λ trusted.
    let p : IsPlanned d.told d.content d.may_leave old turn plan = record { trusted = trusted; its = its; planned = same } in
    subst (HasAttended d.told d.content d.may_leave d.moment d.left_since d.size c.args.turn old mid) (sym (err-is c.from_residual-in_err-plan.result error c.from_residual-in_err-plan.ensures.1))
    (attended-not d.told d.content d.may_leave d.moment d.left_since d.size old mid is c.judged.ensures.size since c.judged.ensures.machine_room c.args.turn trusted error
    (reading-fails d.faults one.store mid.store (state_of d.content old).room (attended_event (attended d.content old) c.args.turn) error c.in_err-plan.ensures.cause)
    (lacks-so d.told d.content d.may_leave d.moment d.left_since d.size d.faults old c.args.turn plan p
    (needs-lacks d.told d.content d.may_leave d.moment d.left_since d.size d.faults old c.args.turn plan p
    (subst NeedsRoom (c.in_ok-planned.ensures.plan ∙ ap (λ (l : Layout). plan_of l (jobs_of c.self.inside.jobs) c.args.turn) c.layout.ensures.layout) c.in_err-plan.ensures.takes)) error)
    (reading-room (attended d.content old) c.args.turn d.faults one.store mid.store mid.machine_room error c.in_err-plan.ensures.cause c.judged.ensures.machine_room)))

pub returns-clause-attended : goal.returns-clause-attended
returns-clause-attended g c =
    let d = g.D.Disk in
    let old : DeskView g.row.D.Denot = record { store = c.self.inside.store; jobs = c.self.inside.jobs; machine_room = c.self.inside.machine_room } in
    let one : DeskView g.row.D.Denot = record { store = c.self.inside.store; jobs = c.plan.new.self; machine_room = c.self.inside.machine_room } in
    let turn = untaken c.args.turn in
    let stayed : HaveStayed old.jobs one.jobs = record { tables = c.plan.ensures.tables; running = c.plan.ensures.running; failed = c.plan.ensures.failed; points = λ run off. ap (find (is_point_of run)) c.plan.ensures.points } in
    let laws = g.met.D.Disk g.world.𝓛 g.world.𝓜 g.world.𝓡 ((λ s x. x), (λ x. x), (λ x. x), λ x. x) in
    let is_open = ap (λ (s : DeskView g.row.D.Denot). s.store.fault) c.self.view_is ∙ c.requires.is_open in
    let first : IsAsBefore d.told d.content d.may_leave old one = record { jobs = stayed; layout = refl; room = refl; reads = refl; none_new = λ image may. may } in
    let at_once = now-left d.told d.content d.may_leave d.moment d.left_since d.size old c.self.invariant.store is_open (laws.only_now old.store.disk) in
    let its = subst (λ (s : DeskView g.row.D.Denot). IsMountedTurnOf s.store.layout turn) (sym c.self.view_is) c.requires.initiator in
    let same = taken-stays old.store.layout (jobs_of old.jobs).tables (plan_of old.store.layout (jobs_of old.jobs) c.args.turn) in
    let mid : DeskView g.row.D.Denot = c.judged.new.self in
    let second : IsAsBefore d.told d.content d.may_leave one mid = record {
      jobs = c.judged.ensures.jobs;
      layout = c.judged.ensures.layout;
      room = c.judged.ensures.room;
      reads = c.judged.ensures.only_reads.same;
      none_new = c.judged.ensures.only_reads.none_new;
    }
    in
    let is : IsAsBefore d.told d.content d.may_leave old mid = record {
      jobs = twice-stayed old.jobs one.jobs mid.jobs stayed c.judged.ensures.jobs;
      layout = c.judged.ensures.layout;
      room = c.judged.ensures.room;
      reads = c.judged.ensures.only_reads.same;
      none_new = c.judged.ensures.only_reads.none_new;
    }
    in
    let since = read-left d.told d.content d.may_leave d.moment d.left_since d.size old mid.store.disk c.self.invariant.store is_open c.judged.ensures.only_reads in
    let planned = c.in_ok-planned.planned in
    rw (← c.self.view_is)
    (λ trusted.
    let p : IsPlanned d.told d.content d.may_leave old turn planned = record {
      trusted = trusted;
      its = its;
      planned = same ∙ ap (λ (l : Layout). plan_of l (jobs_of c.self.inside.jobs) c.args.turn) (sym c.layout.ensures.layout) ∙ sym c.in_ok-planned.ensures.plan;
    }
    in
    let there = c.in_ok-plan.ensures.trusted turn (planned-before d.told d.content d.may_leave d.moment d.left_since d.size old one first refl at_once turn planned p) in
    attended-before d.told d.content d.may_leave d.moment d.left_since d.size old mid is c.judged.ensures.size since c.judged.ensures.machine_room c.args.turn trusted c.attend.new.self c.attend.result
    (c.attend.ensures.attended c.args.turn refl
    (subst (IsPlanned d.told d.content d.may_leave mid turn) (sym there.same)
    (planned-before d.told d.content d.may_leave d.moment d.left_since d.size old mid is c.judged.ensures.size since turn planned p))
    (subst (PlanStandsAt (state_of d.content mid).desk mid.jobs.points) (sym there.same)
    (subst (λ (s : RoomyDesk). PlanStandsAt s.desk mid.jobs.points planned) (sym (state-same d.told d.content d.may_leave one mid second)) there.point))))
