use Rattle.std.proofs.Common.{◌∙◌, IfErr, ap, sym, subst}
use Rattle.ckr_book.specs.Book.{room_of}
use Rattle.ckr_desk_turn.specs.declared.plan.Plan.TheVariants.{Work}
use Rattle.ckr_desk.proofs.Turns.Preparation.{planned-before, seen-alike, turned-before, turned-not}
use Rattle.ckr_desk.proofs.Calls.FullBooks.{of-disk-numbers}
use Rattle.ckr_desk.proofs.Calls.Requests.{if-err}
use Rattle.ckr_desk.proofs.Calls.Stops.{reads-left}
use Rattle.ckr_desk.proofs.Units.Preparation.{err-is}
use Rattle.ckr_desk.proofs.Units.Failures.{unworked-cause, unworked-numbers, unworked-stands, unworked-takes}
use Rattle.ckr_desk.proofs.Trust.Sameness.{IsAsBefore}
use Rattle.ckr_desk.proofs.Turns.Answers.{stands-before}
use Rattle.ckr_desk.specs.Requests.{TellsNumbers}
use Rattle.ckr_desk.specs.Soundness.{state_of}
use Rattle.ckr_desk.specs.Turn.{AnswerStands, asks, event_of_turn, reply_of}
use Rattle.ckr_console.specs.Answering.{restart_answer}
use Rattle.ckr_desk_turn.specs.MachineRoom.{MachineRoomView}
use Rattle.ckr_desk.specs.Units.{HasTurned}
use Rattle.ckr_desk.proofs.desk.Desk.work.Goals as goal

pub returns-in_err-unit-clause-turned : goal.returns-in_err-unit-clause-turned
returns-in_err-unit-clause-turned g c turn p =
    let d = g.D.Disk in
    let now = c.args.self.now in
    let new = c.work_out.new.self in
    let e = c.work_out.ensures in
    let is : IsAsBefore d.told d.content d.may_leave now new = record {
      jobs = seen-alike now new e.jobs;
      layout = e.layout;
      room = e.room;
      reads = e.only_reads.same;
      none_new = e.only_reads.none_new;
    }
    in
    let since = reads-left d.told d.content d.may_leave d.moment d.left_since d.size now new.store.disk e.any_moment e.only_reads in
    let later = planned-before d.told d.content d.may_leave d.moment d.left_since d.size now new is e.size since turn (Work c.args.run) p in
    subst (HasTurned d.told d.content d.may_leave d.moment d.left_since d.size turn (restart_answer now.machine_room.operator) now new) (sym (err-is c.from_residual.result c.in_err-unit.field-0.0 c.from_residual.ensures.1))
    (turned-not d.told d.content d.may_leave d.moment d.left_since d.size now new is e.size since turn (restart_answer now.machine_room.operator) p.trusted c.in_err-unit.field-0.0
    (unworked-cause d.faults now new _ _ c.in_err-unit.field-0.0 c.in_err-unit.ensures.cause)
    (unworked-takes d.faults now new (reply_of (state_of d.content now) turn (restart_answer now.machine_room.operator)) (event_of_turn (state_of d.content now) turn (restart_answer now.machine_room.operator)) (asks (state_of d.content now) turn (restart_answer now.machine_room.operator)) c.in_err-unit.field-0.0 c.in_err-unit.ensures.cause))

pub returns-in-Went-clause-turned : goal.returns-in-Went-clause-turned
returns-in-Went-clause-turned g c turn p =
    let d = g.D.Disk in
    let now = c.args.self.now in
    let mid = c.work_out.new.self in
    let e = c.work_out.ensures in
    let is : IsAsBefore d.told d.content d.may_leave now mid = record {
      jobs = seen-alike now mid e.jobs;
      layout = e.layout;
      room = e.room;
      reads = e.only_reads.same;
      none_new = e.only_reads.none_new;
    }
    in
    let since = reads-left d.told d.content d.may_leave d.moment d.left_since d.size now mid.store.disk e.any_moment e.only_reads in
    turned-before d.told d.content d.may_leave d.moment d.left_since d.size now mid is e.size since turn (restart_answer now.machine_room.operator) p.trusted c.went.new.self c.went.result
    (c.went.ensures.turned turn (restart_answer now.machine_room.operator) (planned-before d.told d.content d.may_leave d.moment d.left_since d.size now mid is e.size since turn (Work c.args.run) p))

pub returns-in_default-clause-turned : goal.returns-in_default-clause-turned
returns-in_default-clause-turned g c turn p =
    let d = g.D.Disk in
    let now = c.args.self.now in
    let mid = c.work_out.new.self in
    let e = c.work_out.ensures in
    let is : IsAsBefore d.told d.content d.may_leave now mid = record {
      jobs = seen-alike now mid e.jobs;
      layout = e.layout;
      room = e.room;
      reads = e.only_reads.same;
      none_new = e.only_reads.none_new;
    }
    in
    let since = reads-left d.told d.content d.may_leave d.moment d.left_since d.size now mid.store.disk e.any_moment e.only_reads in
    turned-before d.told d.content d.may_leave d.moment d.left_since d.size now mid is e.size since turn (restart_answer now.machine_room.operator) p.trusted c.tell_unit.new.self c.tell_unit.result
    (subst (λ (o : MachineRoomView). HasTurned d.told d.content d.may_leave d.moment d.left_since d.size turn (restart_answer o.operator) mid c.tell_unit.new.self c.tell_unit.result) e.machine_room
    (c.tell_unit.ensures.turned turn (planned-before d.told d.content d.may_leave d.moment d.left_since d.size now mid is e.size since turn (Work c.args.run) p)))

pub returns-in_err-unit-clause-full : goal.returns-in_err-unit-clause-full
returns-in_err-unit-clause-full g c =
    let d = g.D.Disk in
    let now = c.args.self.now in
    subst (λ r. IfErr r (TellsNumbers (room_of now.store.book))) (sym (err-is c.from_residual.result c.in_err-unit.field-0.0 c.from_residual.ensures.1))
    (unworked-numbers d.faults now c.work_out.new.self (room_of now.store.book) c.in_err-unit.field-0.0 c.in_err-unit.ensures.cause)

pub returns-in-Went-clause-full : goal.returns-in-Went-clause-full
returns-in-Went-clause-full g c = if-err (of-disk-numbers (room_of c.args.self.now.store.book)) c.went.result c.went.ensures.of_disk

-- ---- the operator's answer

pub returns-in_err-unit-clause-answered : goal.returns-in_err-unit-clause-answered
returns-in_err-unit-clause-answered g c turn p =
    let d = g.D.Disk in
    let now = c.args.self.now in
    let new = c.work_out.new.self in
    subst (AnswerStands (asks (state_of d.content now) turn (restart_answer now.machine_room.operator)) now.machine_room new.machine_room) (sym (err-is c.from_residual.result c.in_err-unit.field-0.0 c.from_residual.ensures.1))
    (unworked-stands d.faults now new (asks (state_of d.content now) turn (restart_answer now.machine_room.operator)) c.in_err-unit.field-0.0 c.in_err-unit.ensures.cause)

pub returns-in-Went-clause-answered : goal.returns-in-Went-clause-answered
returns-in-Went-clause-answered g c turn p =
    let d = g.D.Disk in
    let now = c.args.self.now in
    let mid = c.work_out.new.self in
    let e = c.work_out.ensures in
    let is : IsAsBefore d.told d.content d.may_leave now mid = record {
      jobs = seen-alike now mid e.jobs;
      layout = e.layout;
      room = e.room;
      reads = e.only_reads.same;
      none_new = e.only_reads.none_new;
    }
    in
    let since = reads-left d.told d.content d.may_leave d.moment d.left_since d.size now mid.store.disk e.any_moment e.only_reads in
    let later = planned-before d.told d.content d.may_leave d.moment d.left_since d.size now mid is e.size since turn (Work c.args.run) p in
    stands-before d.told d.content d.may_leave now mid c.went.new.self is e.machine_room turn c.went.result (c.went.ensures.answered turn (restart_answer mid.machine_room.operator) later)

pub returns-in_default-clause-answered : goal.returns-in_default-clause-answered
returns-in_default-clause-answered g c turn p =
    let d = g.D.Disk in
    let now = c.args.self.now in
    let mid = c.work_out.new.self in
    let e = c.work_out.ensures in
    let is : IsAsBefore d.told d.content d.may_leave now mid = record {
      jobs = seen-alike now mid e.jobs;
      layout = e.layout;
      room = e.room;
      reads = e.only_reads.same;
      none_new = e.only_reads.none_new;
    }
    in
    let since = reads-left d.told d.content d.may_leave d.moment d.left_since d.size now mid.store.disk e.any_moment e.only_reads in
    let later = planned-before d.told d.content d.may_leave d.moment d.left_since d.size now mid is e.size since turn (Work c.args.run) p in
    stands-before d.told d.content d.may_leave now mid c.tell_unit.new.self is e.machine_room turn c.tell_unit.result (c.tell_unit.ensures.answered turn later)

pub returns-in_err-unit-clause-mounts : goal.returns-in_err-unit-clause-mounts
returns-in_err-unit-clause-mounts g c = ap (λ (room : MachineRoomView). room.mounts) c.work_out.ensures.machine_room

pub returns-in-Went-clause-mounts : goal.returns-in-Went-clause-mounts
returns-in-Went-clause-mounts g c = ap (λ (room : MachineRoomView). room.mounts) (c.went.ensures.machine_room ∙ c.work_out.ensures.machine_room)

pub returns-in_default-clause-mounts : goal.returns-in_default-clause-mounts
returns-in_default-clause-mounts g c = c.tell_unit.ensures.mounts ∙ ap (λ (room : MachineRoomView). room.mounts) c.work_out.ensures.machine_room
