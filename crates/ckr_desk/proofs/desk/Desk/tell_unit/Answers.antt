use Rattle.std.proofs.Common.{◌≤◌, ◌∙◌, IfErr, Result, Err, ap, sym, subst}
use Rattle.ckr_book.specs.Book.{room_of}
use Rattle.ckr_desk_store.specs.State.{StoreView}
use Rattle.ckr_desk_turn.specs.declared.plan.Plan.TheVariants.{Work}
use Rattle.ckr_volumes.specs.declared.layout.Layout.{Layout}
use Rattle.ckr_desk.proofs.Turns.Preparation.{as-before, planned-before, same-unchanged, turned-before, turned-not}
use Rattle.ckr_desk.proofs.Calls.FullBooks.{of-disk-numbers, unlooked-numbers}
use Rattle.ckr_desk.proofs.Calls.Requests.{if-err}
use Rattle.ckr_desk.proofs.Calls.Stops.{now-left, same-left}
use Rattle.ckr_desk.proofs.Units.Preparation.{err-is, look-cause, look-takes}
use Rattle.ckr_desk.proofs.Trust.Counts.{book-short}
use Rattle.ckr_desk.specs.Requests.{TellsNumbers}
use Rattle.ckr_desk.specs.Rewrite.{OpensSame}
use Rattle.ckr_desk_turn.specs.MachineRoom.{MachineRoomView}
use Rattle.ckr_desk.proofs.Turns.Answers.{given-stands, stands-as}
use Rattle.ckr_desk.proofs.Units.Questions.{asks-ahead, at-step}
use Rattle.ckr_desk.specs.Preparation.{asks_behind}
use Rattle.ckr_desk.specs.Soundness.{state_of}
use Rattle.ckr_desk.specs.Turn.{AnswerStands, asks}
use Rattle.ckr_desk.specs.Units.{HasTurned}
use Rattle.ckr_desk.specs.declared.error.DeskError.{DeskError}
use Rattle.ckr_console.specs.Answering.{restart_answer}
use Rattle.ckr_points.specs.declared.reply.Reply.{Reply}
use Rattle.ckr_desk.proofs.desk.Desk.tell_unit.Goals as goal

abbrev failed : DeskError → Result Reply DeskError
failed error = Err error

pub returns-in_err-ahead-clause-turned : goal.returns-in_err-ahead-clause-turned
returns-in_err-ahead-clause-turned g c turn p =
    let d = g.D.Disk in
    let now = c.args.self.now in
    let new = c.look.new.self in
    let e = c.look.ensures in
    let is = as-before d.content d.may_leave now new d.told (same-unchanged d.content d.may_leave now new e.jobs e.store) in
    let laws = g.met.D.Disk g.world.𝓛 g.world.𝓜 g.world.𝓡 ((λ s x. x), (λ x. x), (λ x. x), λ x. x) in
    let since = same-left d.moment d.left_since now.store new.store (λ image. OpensSame d.content d.size now image × d.may_leave now.store.disk image) e.store
    (now-left d.told d.content d.may_leave d.moment d.left_since d.size now c.requires.sound c.requires.is_open (laws.only_now now.store.disk)) in
    let sized = ap (λ (s : StoreView g.row.D.Denot). d.size s.disk) e.store in
    let later = planned-before d.told d.content d.may_leave d.moment d.left_since d.size now new is sized since turn (Work c.args.run) p in
    subst (HasTurned d.told d.content d.may_leave d.moment d.left_since d.size turn (restart_answer now.machine_room.operator) now new) (sym (err-is c.from_residual.result c.in_err-ahead.field-0.0 c.from_residual.ensures.1))
    (turned-not d.told d.content d.may_leave d.moment d.left_since d.size now new is sized since turn (restart_answer now.machine_room.operator) p.trusted c.in_err-ahead.field-0.0
    (look-cause d.told d.content d.may_leave d.moment d.left_since d.size c.args.run (restart_answer now.machine_room.operator) now new turn p later is c.in_err-ahead.field-0.0 c.in_err-ahead.ensures.cause)
    (look-takes d.told d.content d.may_leave d.moment d.left_since d.size c.args.run (restart_answer now.machine_room.operator) now new turn later is (subst (λ (l : Layout). l.book ≤ 4294967295) (sym (ap (λ (s : StoreView g.row.D.Denot). s.layout) e.store)) (book-short now.store.layout (d.size now.store.disk) c.requires.sound.header)) c.in_err-ahead.field-0.0 c.in_err-ahead.ensures.cause))

pub returns-clause-turned : goal.returns-clause-turned
returns-clause-turned g c turn p =
    let d = g.D.Disk in
    let now = c.args.self.now in
    let mid = c.look.new.self in
    let e = c.look.ensures in
    let is = as-before d.content d.may_leave now mid d.told (same-unchanged d.content d.may_leave now mid e.jobs e.store) in
    let laws = g.met.D.Disk g.world.𝓛 g.world.𝓜 g.world.𝓡 ((λ s x. x), (λ x. x), (λ x. x), λ x. x) in
    let since = same-left d.moment d.left_since now.store mid.store (λ image. OpensSame d.content d.size now image × d.may_leave now.store.disk image) e.store
    (now-left d.told d.content d.may_leave d.moment d.left_since d.size now c.requires.sound c.requires.is_open (laws.only_now now.store.disk)) in
    let sized = ap (λ (s : StoreView g.row.D.Denot). d.size s.disk) e.store in
    turned-before d.told d.content d.may_leave d.moment d.left_since d.size now mid is sized since turn (restart_answer now.machine_room.operator) p.trusted c.work_on.new.self c.work_on.result
    (c.work_on.ensures.turned turn (restart_answer now.machine_room.operator) (planned-before d.told d.content d.may_leave d.moment d.left_since d.size now mid is sized since turn (Work c.args.run) p) c.in_ok-ahead.ensures.ahead)

pub returns-in_err-ahead-clause-full : goal.returns-in_err-ahead-clause-full
returns-in_err-ahead-clause-full g c =
    let d = g.D.Disk in
    let now = c.args.self.now in
    subst (λ r. IfErr r (TellsNumbers (room_of now.store.book))) (sym (err-is c.from_residual.result c.in_err-ahead.field-0.0 c.from_residual.ensures.1))
    (unlooked-numbers now c.look.new.self d.told d.content c.args.run (restart_answer now.machine_room.operator) (ap (λ (s : StoreView g.row.D.Denot). room_of s.book) c.look.ensures.store) c.in_err-ahead.field-0.0 c.in_err-ahead.ensures.cause)

pub returns-clause-full : goal.returns-clause-full
returns-clause-full g c = if-err (of-disk-numbers (room_of c.args.self.now.store.book)) c.work_on.result c.work_on.ensures.of_disk

-- whether he is asked in the turn is seen of the unit that was worked out
pub returns-in_err-ahead-clause-answered : goal.returns-in_err-ahead-clause-answered
returns-in_err-ahead-clause-answered g c turn p =
    let d = g.D.Disk in
    let now = c.args.self.now in
    let new = c.look.new.self in
    let answer = restart_answer now.machine_room.operator in
    let unit = c.args.unit in
    let at = at-step d.told d.content d.may_leave d.moment d.left_since d.size now p.trusted turn c.args.run p.planned unit c.requires.unit answer in
    subst (AnswerStands (asks (state_of d.content now) turn answer) now.machine_room new.machine_room) (sym (err-is c.from_residual.result c.in_err-ahead.field-0.0 c.from_residual.ensures.1))
    (stands-as (asks_behind now at.0 c.requires.unit.on unit) (asks (state_of d.content now) turn answer) now.machine_room new.machine_room (failed c.in_err-ahead.field-0.0)
    (asks-ahead d.told d.content d.may_leave d.moment d.left_since d.size now p.trusted turn c.args.run p.planned unit c.requires.unit answer c.requires.tells c.requires.unit.on at.0 at.1 at.2)
    (c.in_err-ahead.ensures.answered c.requires.unit.on at.0 at.1 at.2))

pub returns-clause-answered : goal.returns-clause-answered
returns-clause-answered g c turn p =
    let d = g.D.Disk in
    let now = c.args.self.now in
    let mid = c.look.new.self in
    let new = c.work_on.new.self in
    let answer = restart_answer now.machine_room.operator in
    let unit = c.args.unit in
    let at = at-step d.told d.content d.may_leave d.moment d.left_since d.size now p.trusted turn c.args.run p.planned unit c.requires.unit answer in
    stands-as (asks_behind now at.0 c.requires.unit.on unit) (asks (state_of d.content now) turn answer) now.machine_room new.machine_room c.work_on.result
    (asks-ahead d.told d.content d.may_leave d.moment d.left_since d.size now p.trusted turn c.args.run p.planned unit c.requires.unit answer c.requires.tells c.requires.unit.on at.0 at.1 at.2)
    (given-stands (asks_behind now at.0 c.requires.unit.on unit) now.machine_room new.machine_room (c.work_on.ensures.machine_room ∙ c.in_ok-ahead.ensures.answered c.requires.unit.on at.0 at.1 at.2) c.work_on.result c.work_on.ensures.of_disk)

pub work_on-requires-clause-ahead : goal.work_on-requires-clause-ahead
work_on-requires-clause-ahead g c κs within = (restart_answer c.args.self.now.machine_room.operator, c.in_ok-ahead.ensures.ahead)

pub returns-clause-mounts : goal.returns-clause-mounts
returns-clause-mounts g c = ap (λ (room : MachineRoomView). room.mounts) c.work_on.ensures.machine_room ∙ c.look.ensures.mounts
