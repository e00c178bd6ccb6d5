use Rattle.std.proofs.Common.{◌≡◌, ◌≤◌, ◌∙◌, ⊎_elim, false, IfErr, OnOk, ap, sym, subst}
use Rattle.ckr_book.specs.Book.{room_of}
use Rattle.ckr_console.specs.Answering.{restart_answer}
use Rattle.ckr_desk_refines.specs.Memory.Plans.{IsWent}
use Rattle.ckr_desk_store.specs.State.{StoreView}
use Rattle.ckr_desk_turn.specs.declared.plan.Plan.TheVariants.{Work}
use Rattle.ckr_desk_turn.specs.Inquiries.{decide, is_ask}
use Rattle.ckr_desk_refines.specs.Moves.{event_in}
use Rattle.ckr_volumes.specs.declared.layout.Layout.{Layout}
use Rattle.ckr_desk.proofs.Calls.FullBooks.{of-disk-numbers, unsettled-numbers}
use Rattle.ckr_desk.proofs.Calls.Requests.{if-err}
use Rattle.ckr_desk.proofs.Calls.Stops.{now-left, same-left}
use Rattle.ckr_desk.proofs.Trust.Counts.{book-short}
use Rattle.ckr_desk.proofs.Trust.Sameness.{state-same}
use Rattle.ckr_desk.proofs.Turns.Answers.{full-stands, given-stands, stands-as}
use Rattle.ckr_desk.proofs.Turns.Mounts.{answer-mounts, of-disk-memory, unfit-memory, unfit-unsettled}
use Rattle.ckr_desk.proofs.Turns.Plans.{unsettled-stays}
use Rattle.ckr_desk.proofs.Turns.Preparation.{as-before, planned-before, same-unchanged, turned-before, turned-not}
use Rattle.ckr_desk.proofs.Units.Mounts.{ahead-with, none-fits, told-asks-behind, unlooked-with, went-cases, went-stands, went-told}
use Rattle.ckr_desk.proofs.Units.Preparation.{err-is, look-cause, look-takes}
use Rattle.ckr_desk.proofs.Units.Questions.{asks-ahead, at-step}
use Rattle.ckr_desk.specs.NoChange.{StaysBy}
use Rattle.ckr_desk.specs.Requests.{MayFail, TellsNumbers}
use Rattle.ckr_desk.specs.Rewrite.{OpensSame}
use Rattle.ckr_desk.specs.Soundness.{state_of}
use Rattle.ckr_desk.specs.State.{RoomyDesk}
use Rattle.ckr_desk_turn.specs.MachineRoom.{MachineRoomView}
use Rattle.ckr_desk.specs.Turn.{AnswerStands, AnswerStandsBy, asks, room_behind_answer}
use Rattle.ckr_desk.specs.Units.{HasTurned}
use Rattle.ckr_desk.specs.declared.error.DeskError.TheVariants.{NoMemory}
use Rattle.ckr_desk.proofs.desk.Desk.work_with.Goals as goal

pub work_on-requires-clause-ahead : goal.work_on-requires-clause-ahead
work_on-requires-clause-ahead g c κs within =
    let d = g.D.Disk in
    let now = c.args.self.now in
    let mid = c.settle_with.new.self in
    let e = c.settle_with.ensures in
    let answer = restart_answer now.machine_room.operator in
    let unit = c.args.unit in
    let said = c.args.told in
    let ahead = ahead-with d.told d.content c.args.run now mid unit said answer c.requires.unit c.requires.told e.store e.jobs c.in_ok-plan.plan c.in_ok-plan.ensures.decided c.in_ok-plan.ensures.spelled c.in_ok-plan.ready c.in_ok-plan.ensures.ready in
    (answer, ahead)

-- ---- what it comes to

pub returns-in_err-plan-clause-turned : goal.returns-in_err-plan-clause-turned
returns-in_err-plan-clause-turned g c turn p =
    let d = g.D.Disk in
    let now = c.args.self.now in
    let mid = c.settle_with.new.self in
    let e = c.settle_with.ensures in
    let answer = restart_answer now.machine_room.operator in
    let unit = c.args.unit in
    let said = c.args.told in
    let is = as-before d.content d.may_leave now mid d.told (same-unchanged d.content d.may_leave now mid e.jobs e.store) in
    let laws = g.met.D.Disk g.world.𝓛 g.world.𝓜 g.world.𝓡 ((λ s x. x), (λ x. x), (λ x. x), λ x. x) in
    let since = same-left d.moment d.left_since now.store mid.store (λ image. OpensSame d.content d.size now image × d.may_leave now.store.disk image) e.store
    (now-left d.told d.content d.may_leave d.moment d.left_since d.size now c.requires.sound c.requires.is_open (laws.only_now now.store.disk)) in
    let sized = ap (λ (s : StoreView g.row.D.Denot). d.size s.disk) e.store in
    let error = c.in_err-plan.field-0.0 in
    let unfit = c.in_err-plan.ensures.cause in
    let result = err-is c.from_residual.result error c.from_residual.ensures.1 in
    let unlooked = unlooked-with d.told d.content c.args.run now mid unit said answer c.requires.unit c.requires.told e.store e.jobs error (unfit-unsettled answer said now mid error unfit) in
    let later = planned-before d.told d.content d.may_leave d.moment d.left_since d.size now mid is sized since turn (Work c.args.run) p in
    subst (HasTurned d.told d.content d.may_leave d.moment d.left_since d.size turn answer now mid) (sym result)
    (turned-not d.told d.content d.may_leave d.moment d.left_since d.size now mid is sized since turn answer p.trusted error
    (look-cause d.told d.content d.may_leave d.moment d.left_since d.size c.args.run answer now mid turn p later is error unlooked)
    (look-takes d.told d.content d.may_leave d.moment d.left_since d.size c.args.run answer now mid turn later is (subst (λ (l : Layout). l.book ≤ 4294967295) (sym (ap (λ (s : StoreView g.row.D.Denot). s.layout) e.store)) (book-short now.store.layout (d.size now.store.disk) c.requires.sound.header)) error unlooked))

pub returns-clause-turned : goal.returns-clause-turned
returns-clause-turned g c turn p =
    let d = g.D.Disk in
    let now = c.args.self.now in
    let mid = c.settle_with.new.self in
    let e = c.settle_with.ensures in
    let answer = restart_answer now.machine_room.operator in
    let unit = c.args.unit in
    let said = c.args.told in
    let is = as-before d.content d.may_leave now mid d.told (same-unchanged d.content d.may_leave now mid e.jobs e.store) in
    let laws = g.met.D.Disk g.world.𝓛 g.world.𝓜 g.world.𝓡 ((λ s x. x), (λ x. x), (λ x. x), λ x. x) in
    let since = same-left d.moment d.left_since now.store mid.store (λ image. OpensSame d.content d.size now image × d.may_leave now.store.disk image) e.store
    (now-left d.told d.content d.may_leave d.moment d.left_since d.size now c.requires.sound c.requires.is_open (laws.only_now now.store.disk)) in
    let sized = ap (λ (s : StoreView g.row.D.Denot). d.size s.disk) e.store in
    let ahead = ahead-with d.told d.content c.args.run now mid unit said answer c.requires.unit c.requires.told e.store e.jobs c.in_ok-plan.plan c.in_ok-plan.ensures.decided c.in_ok-plan.ensures.spelled c.in_ok-plan.ready c.in_ok-plan.ensures.ready in
    turned-before d.told d.content d.may_leave d.moment d.left_since d.size now mid is sized since turn answer p.trusted c.work_on.new.self c.work_on.result (c.work_on.ensures.turned turn answer (planned-before d.told d.content d.may_leave d.moment d.left_since d.size now mid is sized since turn (Work c.args.run) p) ahead)

-- ---- the operator's answer

pub returns-in_err-plan-clause-answered : goal.returns-in_err-plan-clause-answered
returns-in_err-plan-clause-answered g c turn p =
    let d = g.D.Disk in
    let now = c.args.self.now in
    let mid = c.settle_with.new.self in
    let e = c.settle_with.ensures in
    let answer = restart_answer now.machine_room.operator in
    let unit = c.args.unit in
    let said = c.args.told in
    let error = c.in_err-plan.field-0.0 in
    let unfit = c.in_err-plan.ensures.cause in
    let result = err-is c.from_residual.result error c.from_residual.ensures.1 in
    let at = at-step d.told d.content d.may_leave d.moment d.left_since d.size now p.trusted turn c.args.run p.planned unit c.requires.unit answer in
    subst (AnswerStands (asks (state_of d.content now) turn answer) now.machine_room mid.machine_room) (sym result)
    (⊎_elim
    (λ (on_it : IsWent unit.worked). absurd (none-fits (event_in (decide answer said)) now mid error (went-told c.args.run now unit said c.requires.told c.requires.unit.on at.0 at.1 at.2 on_it answer).1 unfit))
    (λ (tells : IsWent unit.worked → ⊥).
    subst (λ b. AnswerStandsBy b now.machine_room mid.machine_room error)
    (sym (asks-ahead d.told d.content d.may_leave d.moment d.left_since d.size now p.trusted turn c.args.run p.planned unit c.requires.unit answer tells c.requires.unit.on at.0 at.1 at.2 ∙ told-asks-behind c.args.run now unit said c.requires.told c.requires.unit.on at.0 at.1 at.2))
    (full-stands (is_ask said) now.machine_room mid.machine_room (event_in (decide answer said)) now mid error e.asked unfit))
    (went-cases unit.worked))

pub returns-clause-answered : goal.returns-clause-answered
returns-clause-answered g c turn p =
    let d = g.D.Disk in
    let now = c.args.self.now in
    let mid = c.settle_with.new.self in
    let e = c.settle_with.ensures in
    let answer = restart_answer now.machine_room.operator in
    let unit = c.args.unit in
    let said = c.args.told in
    let is = as-before d.content d.may_leave now mid d.told (same-unchanged d.content d.may_leave now mid e.jobs e.store) in
    let laws = g.met.D.Disk g.world.𝓛 g.world.𝓜 g.world.𝓡 ((λ s x. x), (λ x. x), (λ x. x), λ x. x) in
    let since = same-left d.moment d.left_since now.store mid.store (λ image. OpensSame d.content d.size now image × d.may_leave now.store.disk image) e.store
    (now-left d.told d.content d.may_leave d.moment d.left_since d.size now c.requires.sound c.requires.is_open (laws.only_now now.store.disk)) in
    let sized = ap (λ (s : StoreView g.row.D.Denot). d.size s.disk) e.store in
    let ahead = ahead-with d.told d.content c.args.run now mid unit said answer c.requires.unit c.requires.told e.store e.jobs c.in_ok-plan.plan c.in_ok-plan.ensures.decided c.in_ok-plan.ensures.spelled c.in_ok-plan.ready c.in_ok-plan.ensures.ready in
    let at = at-step d.told d.content d.may_leave d.moment d.left_since d.size now p.trusted turn c.args.run p.planned unit c.requires.unit answer in
    let new = c.work_on.new.self in
    ⊎_elim
    (λ (on_it : IsWent unit.worked).
    went-stands (asks (state_of d.content now) turn answer) now.machine_room new.machine_room
    (c.work_on.ensures.machine_room ∙ e.asked ∙ ap (λ b. room_behind_answer b now.machine_room) (went-told c.args.run now unit said c.requires.told c.requires.unit.on at.0 at.1 at.2 on_it answer).0)
    c.work_on.result
    (subst (λ (s : RoomyDesk). OnOk c.work_on.result (asks s turn answer ≡ false)) (state-same d.told d.content d.may_leave now mid is) (c.work_on.ensures.unasked turn answer (planned-before d.told d.content d.may_leave d.moment d.left_since d.size now mid is sized since turn (Work c.args.run) p) ahead on_it))
    c.work_on.ensures.of_disk)
    (λ (tells : IsWent unit.worked → ⊥).
    stands-as (is_ask said) (asks (state_of d.content now) turn answer) now.machine_room new.machine_room c.work_on.result
    (asks-ahead d.told d.content d.may_leave d.moment d.left_since d.size now p.trusted turn c.args.run p.planned unit c.requires.unit answer tells c.requires.unit.on at.0 at.1 at.2 ∙ told-asks-behind c.args.run now unit said c.requires.told c.requires.unit.on at.0 at.1 at.2)
    (given-stands (is_ask said) now.machine_room new.machine_room (c.work_on.ensures.machine_room ∙ e.asked) c.work_on.result c.work_on.ensures.of_disk))
    (went-cases unit.worked)

pub returns-in_err-plan-clause-mounts : goal.returns-in_err-plan-clause-mounts
returns-in_err-plan-clause-mounts g c = ap (λ (room : MachineRoomView). room.mounts) c.settle_with.ensures.asked ∙ answer-mounts (is_ask c.args.told) c.args.self.now.machine_room

pub returns-clause-mounts : goal.returns-clause-mounts
returns-clause-mounts g c = ap (λ (room : MachineRoomView). room.mounts) (c.work_on.ensures.machine_room ∙ c.settle_with.ensures.asked) ∙ answer-mounts (is_ask c.args.told) c.args.self.now.machine_room

-- ---- why it wasn't done

pub returns-in_err-plan-clause-memory : goal.returns-in_err-plan-clause-memory
returns-in_err-plan-clause-memory g c =
    let d = g.D.Disk in
    let now = c.args.self.now in
    let mid = c.settle_with.new.self in
    let e = c.settle_with.ensures in
    let answer = restart_answer now.machine_room.operator in
    let unit = c.args.unit in
    let said = c.args.told in
    let error = c.in_err-plan.field-0.0 in
    let unfit = c.in_err-plan.ensures.cause in
    let result = err-is c.from_residual.result error c.from_residual.ensures.1 in
    subst (λ r. IfErr r (λ error. error ≡ NoMemory → ⊥)) (sym result) (unfit-memory (event_in (decide answer said)) now mid error unfit)

pub returns-clause-memory : goal.returns-clause-memory
returns-clause-memory g c = if-err of-disk-memory c.work_on.result c.work_on.ensures.of_disk

pub returns-in_err-plan-clause-may_fail : goal.returns-in_err-plan-clause-may_fail
returns-in_err-plan-clause-may_fail g c =
    let d = g.D.Disk in
    let now = c.args.self.now in
    let mid = c.settle_with.new.self in
    let e = c.settle_with.ensures in
    let answer = restart_answer now.machine_room.operator in
    let unit = c.args.unit in
    let said = c.args.told in
    let error = c.in_err-plan.field-0.0 in
    let unfit = c.in_err-plan.ensures.cause in
    let result = err-is c.from_residual.result error c.from_residual.ensures.1 in
    subst (λ r. IfErr r (MayFail (d.faults now.store.disk) (d.faults mid.store.disk) now.store.fault)) (sym result) (unsettled-stays d.content d.may_leave d.faults now mid answer said error (unfit-unsettled answer said now mid error unfit)).1

pub returns-in_err-plan-clause-stays : goal.returns-in_err-plan-clause-stays
returns-in_err-plan-clause-stays g c =
    let d = g.D.Disk in
    let now = c.args.self.now in
    let mid = c.settle_with.new.self in
    let e = c.settle_with.ensures in
    let answer = restart_answer now.machine_room.operator in
    let unit = c.args.unit in
    let said = c.args.told in
    let error = c.in_err-plan.field-0.0 in
    let unfit = c.in_err-plan.ensures.cause in
    let result = err-is c.from_residual.result error c.from_residual.ensures.1 in
    subst (λ r. IfErr r (StaysBy d.content d.may_leave d.faults now mid)) (sym result) (unsettled-stays d.content d.may_leave d.faults now mid answer said error (unfit-unsettled answer said now mid error unfit)).0

pub returns-in_err-plan-clause-full : goal.returns-in_err-plan-clause-full
returns-in_err-plan-clause-full g c =
    let d = g.D.Disk in
    let now = c.args.self.now in
    let mid = c.settle_with.new.self in
    let e = c.settle_with.ensures in
    let answer = restart_answer now.machine_room.operator in
    let unit = c.args.unit in
    let said = c.args.told in
    let error = c.in_err-plan.field-0.0 in
    let unfit = c.in_err-plan.ensures.cause in
    let result = err-is c.from_residual.result error c.from_residual.ensures.1 in
    subst (λ r. IfErr r (TellsNumbers (room_of now.store.book))) (sym result) (unsettled-numbers now mid answer said error (unfit-unsettled answer said now mid error unfit))

pub returns-clause-full : goal.returns-clause-full
returns-clause-full g c = if-err (of-disk-numbers (room_of c.args.self.now.store.book)) c.work_on.result c.work_on.ensures.of_disk
