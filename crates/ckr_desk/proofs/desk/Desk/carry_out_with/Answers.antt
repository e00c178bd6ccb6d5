use Rattle.std.proofs.Common.{◌≡◌, ◌≤◌, ◌∙◌, arith, ap, subst, sym, List, None, IfErr, IfOk, OnOk}
use Rattle.ckr_desk_refines.specs.Memory.Plans.{IsToldReply}
use Rattle.ckr_desk_refines.specs.Memory.OwnSteps.{PlanCommits, PlanFollows, PlanLeaves}
use Rattle.ckr_desk_refines.specs.Memory.View.{PointView, RunningStepView, jobs_of}
use Rattle.ckr_points.specs.Rows.{TablesModel}
use Rattle.ckr_volumes.specs.declared.layout.Layout.{Layout}
use Rattle.ckr_console.specs.Answering.{restart_answer}
use Rattle.ckr_desk_turn.specs.declared.failed_run.FailedRun.{FailedRun}
use Rattle.ckr_desk_turn.specs.Inquiries.{decide, is_ask}
use Rattle.ckr_desk_turn.specs.Turns.{plan_for}
use Rattle.ckr_desk_refines.specs.Moves.{event_in}
use Rattle.ckr_desk_store.specs.State.{IsSound, StoreView}
use Rattle.ckr_book.specs.Book.{room_of}
use Rattle.ckr_desk.proofs.Calls.FullBooks.{of-disk-numbers, unsettled-numbers}
use Rattle.ckr_desk.proofs.Calls.Requests.{if-err, if-err-both, on-ok, on-ok-both}
use Rattle.ckr_desk.proofs.Turns.Preparation.{as-before, came-of-disk, planned-before, same-unchanged, turned-before, turned-not}
use Rattle.ckr_desk.proofs.Turns.Answers.{full-stands, given-stands, stands-as}
use Rattle.ckr_desk.proofs.Turns.Mounts.{answer-mounts, of-disk-memory, telling-rests, unfit-memory, unfit-unsettled}
use Rattle.ckr_desk.proofs.Turns.Decided.{decided-commits, decided-follows, decided-leaves}
use Rattle.ckr_desk.proofs.Turns.Plans.{behind-takes, decided-knows, decided-stands, go-after, go-asks, go-cause, go-fits, go-kept, go-may-fail, go-of-disk, go-reply, go-told, go-trusted, go-unsettled, if-ok, of-disk-stays, settled-so, unsettled-stays, unsettled-takes}
use Rattle.ckr_desk.proofs.Calls.Stops.{now-left, opens-so, same-left}
use Rattle.ckr_desk.proofs.Trust.Counts.{book-short}
use Rattle.ckr_desk.proofs.Trust.Sameness.{state-same}
use Rattle.ckr_desk.proofs.Units.Preparation.{err-is}
use Rattle.ckr_desk.specs.Continuation.{PlanKnows, PlanStandsAt}
use Rattle.ckr_desk.specs.Requests.{MayFail, TellsNumbers}
use Rattle.ckr_desk.specs.Rewrite.{OpensSame}
use Rattle.ckr_desk.specs.Soundness.{state_of}
use Rattle.ckr_desk.specs.State.{RoomyDesk}
use Rattle.ckr_desk_turn.specs.MachineRoom.{MachineRoomView}
use Rattle.ckr_desk.specs.Turn.{AnswerStands, AnswerStandsBy, asks, event_of_turn, reply_of}
use Rattle.ckr_desk.specs.NoChange.{StaysBy}
use Rattle.ckr_desk.specs.declared.error.DeskError.TheVariants.{NoMemory}
use Rattle.ckr_desk.specs.Units.{HasTurned, IsSettledPlan}
use Rattle.ckr_desk.proofs.desk.Desk.carry_out_with.Goals as goal

pub go_on-requires-clause-settled : goal.go_on-requires-clause-settled
go_on-requires-clause-settled g c κs within =
    subst IsSettledPlan (sym c.in_ok-plan.ensures.decided)
    (settled-so (restart_answer c.args.self.now.machine_room.operator) c.args.plan (telling-rests c.args.plan c.requires.telling))

pub go_on-requires-clause-knows : goal.go_on-requires-clause-knows
go_on-requires-clause-knows g c κs within =
    let mid = c.settle_with.new.self in
    subst (PlanKnows mid.jobs.tables.desk mid.jobs.points) (sym c.in_ok-plan.ensures.decided)
    (decided-knows mid.jobs.tables.desk mid.jobs.points (restart_answer c.args.self.now.machine_room.operator) c.args.plan
    (subst (λ (tables : TablesModel). PlanKnows tables mid.jobs.points c.args.plan) (sym c.settle_with.ensures.jobs.tables)
    (subst (λ (points : List PointView). PlanKnows c.args.self.now.jobs.tables.desk points c.args.plan) (sym c.settle_with.ensures.jobs.points) c.requires.knows)))

pub go_on-requires-clause-follows : goal.go_on-requires-clause-follows
go_on-requires-clause-follows g c κs within =
    let now = c.args.self.now in
    subst (PlanFollows c.settle_with.new.self.store.layout c.settle_with.new.self.jobs.tables.desk) (sym c.in_ok-plan.ensures.decided)
    (decided-follows c.settle_with.new.self.store.layout c.settle_with.new.self.jobs.tables.desk (restart_answer now.machine_room.operator) c.args.plan
    (subst (λ (l : Layout). PlanFollows l c.settle_with.new.self.jobs.tables.desk c.args.plan) (sym (ap (λ (s : StoreView g.row.D.Denot). s.layout) c.settle_with.ensures.store))
    (subst (λ (tables : TablesModel). PlanFollows now.store.layout tables c.args.plan) (sym c.settle_with.ensures.jobs.tables) c.requires.follows)))

pub go_on-requires-clause-commits : goal.go_on-requires-clause-commits
go_on-requires-clause-commits g c κs within =
    let now = c.args.self.now in
    let mid = c.settle_with.new.self in
    subst (PlanCommits mid.jobs.tables.desk mid.jobs.running) (sym c.in_ok-plan.ensures.decided)
    (decided-commits mid.jobs.tables.desk mid.jobs.running (restart_answer now.machine_room.operator) c.args.plan
    (subst (λ (tables : TablesModel). PlanCommits tables mid.jobs.running c.args.plan) (sym c.settle_with.ensures.jobs.tables)
    (subst (λ (running : List RunningStepView). PlanCommits now.jobs.tables.desk running c.args.plan) (sym c.settle_with.ensures.jobs.running) c.requires.commits)))

pub go_on-requires-clause-leaves : goal.go_on-requires-clause-leaves
go_on-requires-clause-leaves g c κs within =
    let mid = c.settle_with.new.self in
    subst (PlanLeaves mid.jobs.failed) (sym c.in_ok-plan.ensures.decided)
    (decided-leaves mid.jobs.failed (restart_answer c.args.self.now.machine_room.operator) c.args.plan (subst (λ (failed : List FailedRun). PlanLeaves failed c.args.plan) (sym c.settle_with.ensures.jobs.failed) c.requires.leaves))

pub go_on-requires-clause-ready : goal.go_on-requires-clause-ready
go_on-requires-clause-ready g c κs within = c.in_ok-plan.ensures.ready

pub returns-in_err-plan : goal.returns-in_err-plan
returns-in_err-plan g c =
    let d = g.D.Disk in
    let now = c.args.self.now in
    let mid = c.settle_with.new.self in
    let plan = c.args.plan in
    let answer = restart_answer now.machine_room.operator in
    let settled = settled-so answer plan (telling-rests plan c.requires.telling) in
    let store = c.settle_with.ensures.store in
    let before = as-before d.content d.may_leave now mid d.told (same-unchanged d.content d.may_leave now mid c.settle_with.ensures.jobs store) in
    let sized = ap (λ (s : StoreView g.row.D.Denot). d.size s.disk) store in
    let laws = g.met.D.Disk g.world.𝓛 g.world.𝓜 g.world.𝓡 ((λ s x. x), (λ x. x), (λ x. x), λ x. x) in
    let since = same-left d.moment d.left_since now.store mid.store (λ image. OpensSame d.content d.size now image × d.may_leave now.store.disk image) store
    (now-left d.told d.content d.may_leave d.moment d.left_since d.size now c.requires.sound c.requires.is_open (laws.only_now now.store.disk)) in
    let error = c.in_err-plan.field-0.0 in
    let unfit = c.in_err-plan.ensures.cause in
    let cause = unfit-unsettled answer plan now mid error unfit in
    let result = c.from_residual.result in
    let is = err-is result error c.from_residual.ensures.1 in
    let stays = unsettled-stays d.content d.may_leave d.faults now mid answer plan error cause in
    record {
      turned = λ turn p at.
          subst (HasTurned d.told d.content d.may_leave d.moment d.left_since d.size turn answer now mid) (sym is)
          (turned-not d.told d.content d.may_leave d.moment d.left_since d.size now mid before sized since turn answer p.trusted error
          (go-unsettled d.told d.content d.may_leave d.moment d.left_since d.size d.faults now p.trusted turn p.its answer plan mid error p.planned settled cause)
          (unsettled-takes d.told d.content d.may_leave d.moment d.left_since d.size d.faults now p.trusted turn p.its answer plan mid error (book-short now.store.layout (d.size now.store.disk) c.requires.sound.header) p.planned settled cause));
      answered = λ turn p.
          subst (AnswerStands (asks (state_of d.content now) turn answer) now.machine_room mid.machine_room) (sym is)
          (subst (λ b. AnswerStandsBy b now.machine_room mid.machine_room error)
          (sym (go-asks d.told d.content d.may_leave d.moment d.left_since d.size d.faults now p.trusted turn p.its answer (decide answer plan) (ap (decide answer) p.planned, settled) ∙ ap is_ask p.planned))
          (full-stands (is_ask plan) now.machine_room mid.machine_room (event_in (decide answer plan)) now mid error c.settle_with.ensures.asked unfit));
      asked = c.settle_with.ensures.asked;
      mounts = ap (λ (room : MachineRoomView). room.mounts) c.settle_with.ensures.asked ∙ answer-mounts (is_ask plan) now.machine_room;
      memory = subst (λ r. IfErr r (λ error. error ≡ NoMemory → ⊥)) (sym is) (unfit-memory (event_in (decide answer plan)) now mid error unfit);
      spelled = subst (λ r. IfOk r IsToldReply) (sym is) tt;
      is_open = subst (λ r. OnOk r (mid.store.fault ≡ None)) (sym is) tt;
      layout = ap (λ (s : StoreView g.row.D.Denot). s.layout) store;
      size = sized;
      faults = subst (λ (s : StoreView g.row.D.Denot). d.faults now.store.disk ≤ d.faults s.disk) (sym store) (omega arith);
      may_fail = subst (λ r. IfErr r (MayFail (d.faults now.store.disk) (d.faults mid.store.disk) now.store.fault)) (sym is) stays.1;
      full = subst (λ r. IfErr r (TellsNumbers (room_of now.store.book))) (sym is) (unsettled-numbers now mid answer plan error cause);
      stays = subst (λ r. IfErr r (StaysBy d.content d.may_leave d.faults now mid)) (sym is) stays.0;
    }

pub returns : goal.returns
returns g c =
    let d = g.D.Disk in
    let now = c.args.self.now in
    let mid = c.settle_with.new.self in
    let plan = c.args.plan in
    let answer = restart_answer now.machine_room.operator in
    let its = c.in_ok-plan.plan in
    let shape = c.in_ok-plan.ensures.spelled in
    let decided_so = c.in_ok-plan.ensures.decided in
    let settled = settled-so answer plan (telling-rests plan c.requires.telling) in
    let settled_its = subst IsSettledPlan (sym decided_so) settled in
    let store = c.settle_with.ensures.store in
    let before = as-before d.content d.may_leave now mid d.told (same-unchanged d.content d.may_leave now mid c.settle_with.ensures.jobs store) in
    let sized = ap (λ (s : StoreView g.row.D.Denot). d.size s.disk) store in
    let laws = g.met.D.Disk g.world.𝓛 g.world.𝓜 g.world.𝓡 ((λ s x. x), (λ x. x), (λ x. x), λ x. x) in
    let since = same-left d.moment d.left_since now.store mid.store (λ image. OpensSame d.content d.size now image × d.may_leave now.store.disk image) store
    (now-left d.told d.content d.may_leave d.moment d.left_since d.size now c.requires.sound c.requires.is_open (laws.only_now now.store.disk)) in
    let new = c.go_on.new.self in
    let sound_then = subst (λ (s : StoreView g.row.D.Denot). IsSound d.content d.may_leave d.size s) (sym store) c.requires.sound in
    let opens = opens-so d.told d.content d.may_leave d.moment d.left_since d.size mid sound_then (ap (λ (s : StoreView g.row.D.Denot). s.fault) store ∙ c.requires.is_open) in
    let of_disk = if-err (go-of-disk d.faults mid new its) c.go_on.result c.go_on.ensures.cause in
    record {
      turned = λ turn p at.
          let q = planned-before d.told d.content d.may_leave d.moment d.left_since d.size now mid before sized since turn plan p in
          let comes : (decide answer (plan_for mid.store.layout (jobs_of mid.jobs) turn) ≡ its) × IsSettledPlan its = (ap (decide answer) q.planned ∙ sym decided_so, settled_its) in
          let stands : PlanStandsAt (state_of d.content mid).desk mid.jobs.points its =
          subst (PlanStandsAt (state_of d.content mid).desk mid.jobs.points) (sym decided_so)
          (decided-stands (state_of d.content mid).desk mid.jobs.points answer plan
          (subst (λ (s : RoomyDesk). PlanStandsAt s.desk mid.jobs.points plan) (sym (state-same d.told d.content d.may_leave now mid before))
          (subst (λ (points : List PointView). PlanStandsAt (state_of d.content now).desk points plan) (sym c.settle_with.ensures.jobs.points) at)))
          in
          turned-before d.told d.content d.may_leave d.moment d.left_since d.size now mid before sized since turn answer p.trusted new c.go_on.result
          (record {
            reply = if-ok (λ reply is. is ∙ go-reply d.told d.content d.may_leave d.moment d.left_since d.size d.faults mid q.trusted turn q.its answer its comes) c.go_on.result c.go_on.ensures.reply;
            fits = on-ok (go-fits d.told d.content d.may_leave d.moment d.left_since d.size d.faults mid q.trusted turn q.its answer its new comes shape) c.go_on.result c.go_on.ensures.gone;
            after = on-ok (go-after d.told d.content d.may_leave d.moment d.left_since d.size d.faults mid q.trusted turn q.its answer its new comes stands shape c.go_on.ensures.layout) c.go_on.result c.go_on.ensures.gone;
            events = on-ok (go-told d.told d.content d.may_leave d.moment d.left_since d.size d.faults mid q.trusted turn q.its answer its new comes) c.go_on.result c.go_on.ensures.gone;
            trusted = on-ok-both (go-trusted d.told d.content d.may_leave d.moment d.left_since d.size d.faults mid q.trusted turn q.its answer its new comes stands shape c.go_on.ensures.layout) c.go_on.result c.go_on.ensures.gone
                (c.go_on.ensures.opens p.trusted.tells);
            cause = if-err (λ error not. go-cause d.told d.content d.may_leave d.moment d.left_since d.size d.faults mid q.trusted turn q.its answer its new error not) c.go_on.result c.go_on.ensures.cause;
            takes = if-err (λ error not. behind-takes d.faults mid new its (reply_of (state_of d.content mid) turn answer) (event_of_turn (state_of d.content mid) turn answer) (asks (state_of d.content mid) turn answer) error not) c.go_on.result c.go_on.ensures.cause;
            kept = came-of-disk d.content d.moment d.left_since d.size mid new _ c.go_on.result of_disk
                (go-kept d.told d.content d.may_leave d.moment d.left_since d.size d.faults mid q.trusted turn q.its answer its new comes shape opens (c.go_on.ensures.left p.trusted.tells));
          });
      answered = λ turn p.
          stands-as (is_ask plan) (asks (state_of d.content now) turn answer) now.machine_room new.machine_room c.go_on.result
          (go-asks d.told d.content d.may_leave d.moment d.left_since d.size d.faults now p.trusted turn p.its answer (decide answer plan) (ap (decide answer) p.planned, settled) ∙ ap is_ask p.planned)
          (given-stands (is_ask plan) now.machine_room new.machine_room (c.go_on.ensures.machine_room ∙ c.settle_with.ensures.asked) c.go_on.result of_disk);
      asked = c.go_on.ensures.machine_room ∙ c.settle_with.ensures.asked;
      mounts = ap (λ (room : MachineRoomView). room.mounts) (c.go_on.ensures.machine_room ∙ c.settle_with.ensures.asked) ∙ answer-mounts (is_ask plan) now.machine_room;
      memory = if-err of-disk-memory c.go_on.result of_disk;
      spelled = c.go_on.ensures.spelled;
      is_open = c.go_on.ensures.is_open;
      layout = c.go_on.ensures.layout ∙ ap (λ (s : StoreView g.row.D.Denot). s.layout) store;
      size = c.go_on.ensures.size ∙ sized;
      faults = subst (λ (s : StoreView g.row.D.Denot). d.faults s.disk ≤ d.faults new.store.disk) store c.go_on.ensures.faults;
      may_fail = subst (λ (s : StoreView g.row.D.Denot). IfErr c.go_on.result (MayFail (d.faults s.disk) (d.faults new.store.disk) s.fault)) store
          (if-err (go-may-fail d.faults mid new its) c.go_on.result c.go_on.ensures.cause);
      full = if-err (λ error not. of-disk-numbers (room_of now.store.book) error (go-of-disk d.faults mid new its error not)) c.go_on.result c.go_on.ensures.cause;
      stays = if-err-both (λ error not halted. of-disk-stays d.content d.may_leave d.faults now new error (go-of-disk d.faults mid new its error not) halted) c.go_on.result c.go_on.ensures.cause c.go_on.ensures.halted;
    }
