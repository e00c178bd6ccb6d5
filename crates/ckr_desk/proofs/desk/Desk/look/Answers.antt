use Rattle.std.proofs.Common.{◌≡◌, IfErr, ap, sym, ◌∙◌, subst}
use Rattle.ckr_desk_refines.proofs.Memory.Rooms.{stored-fit}
use Rattle.ckr_desk_refines.specs.Memory.OwnSteps.{PlanFollows}
use Rattle.ckr_desk_refines.specs.Memory.Parts.{step_seen}
use Rattle.ckr_desk_refines.specs.Memory.Plans.{behind_unit, told_by}
use Rattle.ckr_desk_refines.specs.Memory.View.{running_of}
use Rattle.ckr_volumes.specs.declared.layout.Layout.{Layout}
use Rattle.ckr_desk.proofs.Units.Codes.{so-coded}
use Rattle.ckr_desk.proofs.Units.Preparation.{asks-old, err-is, is-ahead, not-settled, out-of, short-so, uncoded-of}
use Rattle.ckr_console.specs.Answering.{restart_answer}
use Rattle.ckr_desk_turn.specs.Inquiries.{decide, is_ask}
use Rattle.ckr_desk.specs.Calls.{HasSameJobs}
use Rattle.ckr_desk.specs.Preparation.{IsWorkedOut, NotLooked, NotSettled, asks_behind}
use Rattle.ckr_desk.specs.State.{DeskView}
use Rattle.ckr_desk.specs.Turn.{AnswerStands, AnswerStandsBy, room_behind_answer}
use Rattle.ckr_desk.proofs.desk.Desk.look.Goals as goal

pub told-plan-requires-clause-counted : goal.told-plan-requires-clause-counted
told-plan-requires-clause-counted g c =
    let d = g.D.Disk in
    let old : DeskView g.row.D.Denot = record { store = c.self.inside.store; jobs = c.self.inside.jobs; machine_room = c.self.inside.machine_room } in
    let of = subst (λ (s : DeskView g.row.D.Denot). IsWorkedOut d.told d.content c.args.run s c.args.unit) (sym c.self.view_is) c.requires.unit in
    let out = out-of d.told d.content c.args.run old c.args.unit of (step_seen c.in-Some.on.now) (sym c.in-Some.ensures.step) in
    out.unit.counted

pub told-plan-requires-clause-short : goal.told-plan-requires-clause-short
told-plan-requires-clause-short g c name set is = short-so _ _ (c.in-Some.ensures.runnable c.self.inside.store.layout c.self.invariant.jobs.are).stored name set is

pub told-plan-requires-clause-code : goal.told-plan-requires-clause-code
told-plan-requires-clause-code g c =
    let d = g.D.Disk in
    let old : DeskView g.row.D.Denot = record { store = c.self.inside.store; jobs = c.self.inside.jobs; machine_room = c.self.inside.machine_room } in
    let of = subst (λ (s : DeskView g.row.D.Denot). IsWorkedOut d.told d.content c.args.run s c.args.unit) (sym c.self.view_is) c.requires.unit in
    let out = out-of d.told d.content c.args.run old c.args.unit of (step_seen c.in-Some.on.now) (sym c.in-Some.ensures.step) in
    so-coded c.in-Some.on.now.sets c.in-Some.on.now.step out.heads c.args.unit.worked out.unit.answer

pub returns-clause-ahead : goal.returns-clause-ahead
returns-clause-ahead g c =
    let d = g.D.Disk in
    let old : DeskView g.row.D.Denot = record { store = c.self.inside.store; jobs = c.self.inside.jobs; machine_room = c.self.inside.machine_room } in
    let of = subst (λ (s : DeskView g.row.D.Denot). IsWorkedOut d.told d.content c.args.run s c.args.unit) (sym c.self.view_is) c.requires.unit in
    let out = out-of d.told d.content c.args.run old c.args.unit of (step_seen c.in-Some.on.now) (sym c.in-Some.ensures.step) in
    let on = step_seen c.in-Some.on.now in
    let unit = c.args.unit in
    let runnable = c.in-Some.ensures.runnable c.self.inside.store.layout c.self.invariant.jobs.are in
    rw (← c.self.view_is)
    (is-ahead d.told d.content c.args.run old c.settle.new.self on unit c.told-plan.result (restart_answer old.machine_room.operator)
    (c.settle.ensures.store ∙ ap (λ (s : DeskView g.row.D.Denot). s.store) (sym c.self.view_is))
    (subst (λ (s : DeskView g.row.D.Denot). HasSameJobs s c.settle.new.self) (sym c.self.view_is) c.settle.ensures.jobs)
    (sym c.in-Some.ensures.step) (uncoded-of d.told d.content c.args.run old unit of on (sym c.in-Some.ensures.step)) runnable.there out
    (λ row own at within.
    c.told-plan.ensures.plan row own at within
    ∙ ap (λ (l : Layout). told_by l c.self.inside.jobs.tables.desk row (running_of c.self.inside.jobs.tables.desk (behind_unit on unit)) unit.worked) c.layout.ensures.layout)
    c.in_ok-plan.plan
    (c.in_ok-plan.ensures.decided ∙ ap (λ (s : DeskView g.row.D.Denot). decide (restart_answer s.machine_room.operator) c.told-plan.result) (sym c.self.view_is))
    c.told-plan.ensures.unit c.in_ok-plan.ensures.spelled
    (subst (λ (l : Layout). PlanFollows l c.self.inside.jobs.tables.desk c.told-plan.result) c.layout.ensures.layout
    (c.told-plan.ensures.own out.heads c.self.invariant.jobs.are.placed (c.in-Some.ensures.own c.self.invariant.jobs.own) (stored-fit c.self.inside.store.layout on.sets runnable.stored) runnable.there out.unit))
    (c.told-plan.ensures.commits (c.in-Some.ensures.own c.self.invariant.jobs.own)) (c.told-plan.ensures.of_run (c.in-Some.ensures.own c.self.invariant.jobs.own))
    c.in_ok-plan.ready c.in_ok-plan.ensures.ready)

pub returns-in_err-plan-clause-cause : goal.returns-in_err-plan-clause-cause
returns-in_err-plan-clause-cause g c =
    let d = g.D.Disk in
    let old : DeskView g.row.D.Denot = record { store = c.self.inside.store; jobs = c.self.inside.jobs; machine_room = c.self.inside.machine_room } in
    let of = subst (λ (s : DeskView g.row.D.Denot). IsWorkedOut d.told d.content c.args.run s c.args.unit) (sym c.self.view_is) c.requires.unit in
    let out = out-of d.told d.content c.args.run old c.args.unit of (step_seen c.in-Some.on.now) (sym c.in-Some.ensures.step) in
    let on = step_seen c.in-Some.on.now in
    let unit = c.args.unit in
    let error = c.in_err-plan.field-0.0 in
    rw (← c.self.view_is)
    (subst (λ r. IfErr r (NotLooked d.told d.content c.args.run (restart_answer old.machine_room.operator) old c.settle.new.self)) (sym (err-is c.from_residual.result error c.from_residual.ensures.1))
    (not-settled d.told d.content c.args.run old c.settle.new.self on unit c.told-plan.result (restart_answer old.machine_room.operator)
    (c.settle.ensures.store ∙ ap (λ (s : DeskView g.row.D.Denot). s.store) (sym c.self.view_is))
    (subst (λ (s : DeskView g.row.D.Denot). HasSameJobs s c.settle.new.self) (sym c.self.view_is) c.settle.ensures.jobs)
    (sym c.in-Some.ensures.step) (uncoded-of d.told d.content c.args.run old unit of on (sym c.in-Some.ensures.step)) (c.in-Some.ensures.runnable c.self.inside.store.layout c.self.invariant.jobs.are).there out
    (λ row own at within.
    c.told-plan.ensures.plan row own at within
    ∙ ap (λ (l : Layout). told_by l c.self.inside.jobs.tables.desk row (running_of c.self.inside.jobs.tables.desk (behind_unit on unit)) unit.worked) c.layout.ensures.layout)
    error (subst (λ (s : DeskView g.row.D.Denot). NotSettled (restart_answer s.machine_room.operator) c.told-plan.result s c.settle.new.self error) (sym c.self.view_is) c.in_err-plan.ensures.cause)))

pub returns-clause-answered : goal.returns-clause-answered
returns-clause-answered g c =
    let d = g.D.Disk in
    let old : DeskView g.row.D.Denot = record { store = c.self.inside.store; jobs = c.self.inside.jobs; machine_room = c.self.inside.machine_room } in
    let new = c.settle.new.self in
    let of = subst (λ (s : DeskView g.row.D.Denot). IsWorkedOut d.told d.content c.args.run s c.args.unit) (sym c.self.view_is) c.requires.unit in
    let out = out-of d.told d.content c.args.run old c.args.unit of (step_seen c.in-Some.on.now) (sym c.in-Some.ensures.step) in
    let on = step_seen c.in-Some.on.now in
    let unit = c.args.unit in
    let said = c.told-plan.result in
    rw (← c.self.view_is)
    (λ other row own at.
    let seen = asks-old d.told d.content c.args.run old new on unit said (restart_answer old.machine_room.operator)
    (c.settle.ensures.store ∙ ap (λ (s : DeskView g.row.D.Denot). s.store) (sym c.self.view_is))
    (subst (λ (s : DeskView g.row.D.Denot). HasSameJobs s new) (sym c.self.view_is) c.settle.ensures.jobs)
    (sym c.in-Some.ensures.step) (uncoded-of d.told d.content c.args.run old unit of on (sym c.in-Some.ensures.step)) (c.in-Some.ensures.runnable c.self.inside.store.layout c.self.invariant.jobs.are).there out
    (λ row own at within.
    c.told-plan.ensures.plan row own at within
    ∙ ap (λ (l : Layout). told_by l c.self.inside.jobs.tables.desk row (running_of c.self.inside.jobs.tables.desk (behind_unit on unit)) unit.worked) c.layout.ensures.layout)
    other row own at in
    subst (λ b. new.machine_room ≡ room_behind_answer b old.machine_room) seen
    (c.in_ok-plan.ensures.answered ∙ ap (λ (s : DeskView g.row.D.Denot). room_behind_answer (is_ask said) s.machine_room) (sym c.self.view_is)))

pub returns-in_err-plan-clause-answered : goal.returns-in_err-plan-clause-answered
returns-in_err-plan-clause-answered g c =
    let d = g.D.Disk in
    let old : DeskView g.row.D.Denot = record { store = c.self.inside.store; jobs = c.self.inside.jobs; machine_room = c.self.inside.machine_room } in
    let new = c.settle.new.self in
    let of = subst (λ (s : DeskView g.row.D.Denot). IsWorkedOut d.told d.content c.args.run s c.args.unit) (sym c.self.view_is) c.requires.unit in
    let out = out-of d.told d.content c.args.run old c.args.unit of (step_seen c.in-Some.on.now) (sym c.in-Some.ensures.step) in
    let on = step_seen c.in-Some.on.now in
    let unit = c.args.unit in
    let said = c.told-plan.result in
    rw (← c.self.view_is)
    (λ other row own at.
    let seen = asks-old d.told d.content c.args.run old new on unit said (restart_answer old.machine_room.operator)
    (c.settle.ensures.store ∙ ap (λ (s : DeskView g.row.D.Denot). s.store) (sym c.self.view_is))
    (subst (λ (s : DeskView g.row.D.Denot). HasSameJobs s new) (sym c.self.view_is) c.settle.ensures.jobs)
    (sym c.in-Some.ensures.step) (uncoded-of d.told d.content c.args.run old unit of on (sym c.in-Some.ensures.step)) (c.in-Some.ensures.runnable c.self.inside.store.layout c.self.invariant.jobs.are).there out
    (λ row own at within.
    c.told-plan.ensures.plan row own at within
    ∙ ap (λ (l : Layout). told_by l c.self.inside.jobs.tables.desk row (running_of c.self.inside.jobs.tables.desk (behind_unit on unit)) unit.worked) c.layout.ensures.layout)
    other row own at in
    let error = c.in_err-plan.field-0.0 in
    subst (AnswerStands (asks_behind old row other unit) old.machine_room new.machine_room) (sym (err-is c.from_residual.result error c.from_residual.ensures.1))
    (subst (λ b. AnswerStandsBy b old.machine_room new.machine_room error) seen
    (subst (λ (s : DeskView g.row.D.Denot). AnswerStandsBy (is_ask said) s.machine_room new.machine_room error) (sym c.self.view_is) c.in_err-plan.ensures.answered)))
