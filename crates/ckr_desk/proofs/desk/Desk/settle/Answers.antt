use Rattle.std.proofs.Common.{◌∙◌, IfErr, ap, refl, sym, subst, inr, true}
use Rattle.ckr_console.specs.Answering.{answer_in_office, restart_answer}
use Rattle.ckr_console.specs.declared.question.Question.{Question}
use Rattle.ckr_desk_turn.specs.declared.plan.Plan.{Plan}
use Rattle.ckr_desk_turn.specs.Inquiries.{decide, decided, is_ask}
use Rattle.ckr_desk_refines.specs.Moves.{event_in}
use Rattle.ckr_desk.proofs.Layouts.{kept-stay}
use Rattle.ckr_desk.proofs.Turns.Answers.{answer-so, full-stands, unasked, unasked-stands}
use Rattle.ckr_desk.proofs.Turns.Decided.{decided-same, not-ask}
use Rattle.ckr_desk.proofs.Turns.Readiness.{none-ok, prepared-by, unfit-unready}
use Rattle.ckr_desk.proofs.Units.Preparation.{err-is}
use Rattle.ckr_desk.specs.Preparation.{IsPreparedPlan, NotReadyFor, NotSettled}
use Rattle.ckr_desk.specs.State.{DeskView}
use Rattle.ckr_desk_turn.specs.MachineRoom.{MachineRoomView}
use Rattle.ckr_desk.specs.Turn.{AnswerStands, room_behind_answer}
use Rattle.ckr_desk.proofs.desk.Desk.settle.Goals as goal

pub invariant_of-self : goal.invariant_of-self
invariant_of-self g c =
    let e = c.prepare_answers.ensures in
    record {
      jobs =
          kept-stay c.self.inside.store.layout c.self.inside.store.layout c.self.inside.jobs c.prepare_answers.new.self refl e.desk e.running e.failed e.points c.self.invariant.jobs;
      store = c.self.invariant.store;
    }

pub invariant_of-self-in-Ask : goal.invariant_of-self-in-Ask
invariant_of-self-in-Ask g c =
    let e = c.prepare_answers.ensures in
    record {
      jobs =
          kept-stay c.self.inside.store.layout c.self.inside.store.layout c.self.inside.jobs c.prepare_answers.new.self refl e.desk e.running e.failed e.points c.self.invariant.jobs;
      store = c.self.invariant.store;
    }

-- ---- the operator is asked

pub ready_with-requires-clause-prepared : goal.ready_with-requires-clause-prepared
ready_with-requires-clause-prepared g c κs within =
    subst (λ (plan : Plan). IsPreparedPlan c.prepare_answers.new.self plan c.in_ok-prepared-in-Ask.prepared) (sym c.decided-plan.ensures.plan)
    (prepared-by c.prepare_answers.new.self c.ask-answer.result c.in-Ask.inquiry c.in_ok-prepared-in-Ask.prepared c.in_ok-prepared-in-Ask.ensures.ok)

pub returns-in_ok-ready-in-Ask-clause-decided : goal.returns-in_ok-ready-in-Ask-clause-decided
returns-in_ok-ready-in-Ask-clause-decided g c =
    let inquiry = c.in-Ask.inquiry in
    c.decided-plan.ensures.plan
    ∙ ap (λ a. decided a inquiry)
    (c.ask-answer.ensures.answer
    ∙ ap (λ (q : Question). answer_in_office q c.self.inside.machine_room.operator) c.question.ensures
    ∙ answer-so inquiry.job inquiry.step inquiry.id c.self.inside.machine_room.operator
    ∙ ap (λ (s : DeskView g.row.D.Denot). restart_answer s.machine_room.operator) c.self.view_is)
    ∙ sym (ap (decide (restart_answer c.args.self.now.machine_room.operator)) c.in-Ask.is)

pub returns-in_ok-ready-in-Ask-clause-mounts : goal.returns-in_ok-ready-in-Ask-clause-mounts
returns-in_ok-ready-in-Ask-clause-mounts g c =
    ap (λ (room : MachineRoomView). room.mounts)
    (c.ready_with.ensures.machine_room ∙ c.ask-answer.ensures.behind ∙ ap (λ (s : DeskView g.row.D.Denot). room_behind_answer true s.machine_room) c.self.view_is)

pub returns-in_ok-ready-in-Ask-clause-answered : goal.returns-in_ok-ready-in-Ask-clause-answered
returns-in_ok-ready-in-Ask-clause-answered g c =
    c.ready_with.ensures.machine_room
    ∙ c.ask-answer.ensures.behind
    ∙ ap (λ (s : DeskView g.row.D.Denot). room_behind_answer true s.machine_room) c.self.view_is
    ∙ sym (ap (λ (plan : Plan). room_behind_answer (is_ask plan) c.args.self.now.machine_room) c.in-Ask.is)

pub returns-in_err-ready-in-Ask-clause-mounts : goal.returns-in_err-ready-in-Ask-clause-mounts
returns-in_err-ready-in-Ask-clause-mounts g c =
    ap (λ (room : MachineRoomView). room.mounts)
    (c.ready_with.ensures.machine_room ∙ c.ask-answer.ensures.behind ∙ ap (λ (s : DeskView g.row.D.Denot). room_behind_answer true s.machine_room) c.self.view_is)

pub returns-in_err-ready-in-Ask-clause-answered : goal.returns-in_err-ready-in-Ask-clause-answered
returns-in_err-ready-in-Ask-clause-answered g c =
    let now = c.args.self.now in
    let error = c.in_err-ready-in-Ask.field-0.0 in
    subst (AnswerStands (is_ask c.args.plan) now.machine_room c.ready_with.new.self.machine_room) (sym (err-is c.from_residual-in_err-ready-in-Ask.result error c.from_residual-in_err-ready-in-Ask.ensures.1))
    (full-stands (is_ask c.args.plan) now.machine_room c.ready_with.new.self.machine_room _ _ c.ready_with.new.self error
    (c.ready_with.ensures.machine_room
    ∙ c.ask-answer.ensures.behind
    ∙ ap (λ (s : DeskView g.row.D.Denot). room_behind_answer true s.machine_room) c.self.view_is
    ∙ sym (ap (λ (plan : Plan). room_behind_answer (is_ask plan) now.machine_room) c.in-Ask.is))
    c.in_err-ready-in-Ask.ensures.cause)

pub returns-in_err-ready-in-Ask-clause-cause : goal.returns-in_err-ready-in-Ask-clause-cause
returns-in_err-ready-in-Ask-clause-cause g c =
    let now = c.args.self.now in
    let new = c.ready_with.new.self in
    let old : DeskView g.row.D.Denot = record { store = c.self.inside.store; jobs = c.self.inside.jobs; machine_room = c.self.inside.machine_room } in
    let mid : DeskView g.row.D.Denot = record { store = c.self.inside.store; jobs = c.prepare_answers.new.self; machine_room = c.ask-answer.new.self } in
    let inquiry = c.in-Ask.inquiry in
    let e = c.prepare_answers.ensures in
    let error = c.in_err-ready-in-Ask.field-0.0 in
    let decided_so =
    c.decided-plan.ensures.plan
    ∙ ap (λ a. decided a inquiry)
    (c.ask-answer.ensures.answer
    ∙ ap (λ (q : Question). answer_in_office q c.self.inside.machine_room.operator) c.question.ensures
    ∙ answer-so inquiry.job inquiry.step inquiry.id c.self.inside.machine_room.operator
    ∙ ap (λ (s : DeskView g.row.D.Denot). restart_answer s.machine_room.operator) c.self.view_is)
    ∙ sym (ap (decide (restart_answer now.machine_room.operator)) c.in-Ask.is) in
    subst (λ r. IfErr r (NotSettled (restart_answer now.machine_room.operator) c.args.plan now new)) (sym (err-is c.from_residual-in_err-ready-in-Ask.result error c.from_residual-in_err-ready-in-Ask.ensures.1))
    (inr (subst (λ (plan : Plan). NotReadyFor (event_in plan) now new error) decided_so
    (subst (λ (s : DeskView g.row.D.Denot). NotReadyFor (event_in c.decided-plan.result) s new error) c.self.view_is
    (unfit-unready (event_in c.decided-plan.result) old mid new (record { tables = e.desk; running = e.running; failed = e.failed; points = e.points }) refl error c.in_err-ready-in-Ask.ensures.cause))))

-- ---- he isn't

pub returns-in_err-ready-in_default : goal.returns-in_err-ready-in_default
returns-in_err-ready-in_default g c =
    let now = c.args.self.now in
    let new = c.ready_for.new.self in
    let error = c.in_err-ready-in_default.field-0.0 in
    let result = c.from_residual-in_err-ready-in_default.result in
    let is = err-is result error c.from_residual-in_err-ready-in_default.ensures.1 in
    let quiet = not-ask c.args.plan c.in_default.not-Ask in
    record {
      decided = none-ok _ result error is;
      spelled = none-ok _ result error is;
      ready = none-ok _ result error is;
      jobs = c.ready_for.ensures.jobs;
      store = c.ready_for.ensures.store;
      mounts = ap (λ (room : MachineRoomView). room.mounts) c.ready_for.ensures.machine_room;
      answered = unasked-stands (is_ask c.args.plan) now.machine_room new.machine_room quiet c.ready_for.ensures.machine_room result;
      cause = subst (λ r. IfErr r (NotSettled (restart_answer now.machine_room.operator) c.args.plan now new)) (sym is)
          (inr (subst (λ (plan : Plan). NotReadyFor (event_in plan) now new error) (sym (decided-same (restart_answer now.machine_room.operator) c.args.plan quiet)) c.in_err-ready-in_default.ensures.cause));
    }

pub returns-in_ok-ready-in_default : goal.returns-in_ok-ready-in_default
returns-in_ok-ready-in_default g c =
    let now = c.args.self.now in
    let quiet = not-ask c.args.plan c.in_default.not-Ask in
    record {
      decided = sym (decided-same (restart_answer now.machine_room.operator) c.args.plan quiet);
      spelled = c.requires.spelled;
      ready = c.in_ok-ready-in_default.ensures.ready;
      jobs = c.ready_for.ensures.jobs;
      store = c.ready_for.ensures.store;
      mounts = ap (λ (room : MachineRoomView). room.mounts) c.ready_for.ensures.machine_room;
      answered = unasked (is_ask c.args.plan) now.machine_room c.ready_for.new.self.machine_room quiet c.ready_for.ensures.machine_room;
      cause = tt;
    }
