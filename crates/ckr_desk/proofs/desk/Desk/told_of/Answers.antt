use Rattle.std.proofs.Common.{◌∙◌, ap, sym, subst}
use Rattle.ckr_desk_refines.proofs.Memory.Rooms.{stored-fit}
use Rattle.ckr_desk_refines.specs.Memory.OwnSteps.{PlanFollows}
use Rattle.ckr_desk_refines.specs.Memory.Parts.{step_seen}
use Rattle.ckr_desk_refines.specs.Memory.Plans.{behind_unit, told_by}
use Rattle.ckr_desk_refines.specs.Memory.View.{running_of}
use Rattle.ckr_volumes.specs.declared.layout.Layout.{Layout}
use Rattle.ckr_desk.proofs.Units.Codes.{so-coded}
use Rattle.ckr_desk.proofs.Units.Mounts.{is-told}
use Rattle.ckr_desk.proofs.Units.Preparation.{out-of, short-so}
use Rattle.ckr_desk.specs.Preparation.{IsToldByUnit, IsWorkedOut}
use Rattle.ckr_desk.specs.State.{DeskView}
use Rattle.ckr_desk.proofs.desk.Desk.told_of.Goals as goal

pub told-requires-clause-counted : goal.told-requires-clause-counted
told-requires-clause-counted g c =
    let d = g.D.Disk in
    let old : DeskView g.row.D.Denot = record { store = c.self.inside.store; jobs = c.self.inside.jobs; machine_room = c.self.inside.machine_room } in
    let of = subst (λ (s : DeskView g.row.D.Denot). IsWorkedOut d.told d.content c.args.run s c.args.unit.now) (sym c.self.view_is) c.requires.unit in
    let out = out-of d.told d.content c.args.run old c.args.unit.now of (step_seen c.in-Some.on.now) (sym c.in-Some.ensures.step) in
    out.unit.counted

pub told-requires-clause-short : goal.told-requires-clause-short
told-requires-clause-short g c name set is = short-so _ _ (c.in-Some.ensures.runnable c.self.inside.store.layout c.self.invariant.jobs.are).stored name set is

pub told-requires-clause-code : goal.told-requires-clause-code
told-requires-clause-code g c =
    let d = g.D.Disk in
    let old : DeskView g.row.D.Denot = record { store = c.self.inside.store; jobs = c.self.inside.jobs; machine_room = c.self.inside.machine_room } in
    let of = subst (λ (s : DeskView g.row.D.Denot). IsWorkedOut d.told d.content c.args.run s c.args.unit.now) (sym c.self.view_is) c.requires.unit in
    let out = out-of d.told d.content c.args.run old c.args.unit.now of (step_seen c.in-Some.on.now) (sym c.in-Some.ensures.step) in
    so-coded c.in-Some.on.now.sets c.in-Some.on.now.step out.heads c.args.unit.now.worked out.unit.answer

pub returns-clause-told : goal.returns-clause-told
returns-clause-told g c =
    let d = g.D.Disk in
    let old : DeskView g.row.D.Denot = record { store = c.self.inside.store; jobs = c.self.inside.jobs; machine_room = c.self.inside.machine_room } in
    let unit = c.args.unit.now in
    let of = subst (λ (s : DeskView g.row.D.Denot). IsWorkedOut d.told d.content c.args.run s unit) (sym c.self.view_is) c.requires.unit in
    let out = out-of d.told d.content c.args.run old unit of (step_seen c.in-Some.on.now) (sym c.in-Some.ensures.step) in
    let on = step_seen c.in-Some.on.now in
    let runnable = c.in-Some.ensures.runnable c.self.inside.store.layout c.self.invariant.jobs.are in
    let own = c.in-Some.ensures.own c.self.invariant.jobs.own in
    subst (λ (s : DeskView g.row.D.Denot). IsToldByUnit c.args.run s unit c.told.result) c.self.view_is
    (is-told c.args.run old on unit c.told.result (sym c.in-Some.ensures.step)
    (λ row own at within.
    c.told.ensures.plan row own at within
    ∙ ap (λ (l : Layout). told_by l c.self.inside.jobs.tables.desk row (running_of c.self.inside.jobs.tables.desk (behind_unit on unit)) unit.worked) c.layout.ensures.layout)
    c.told.ensures.unit c.told.ensures.spelled
    (subst (λ (l : Layout). PlanFollows l c.self.inside.jobs.tables.desk c.told.result) c.layout.ensures.layout
    (c.told.ensures.own out.heads c.self.invariant.jobs.are.placed own (stored-fit c.self.inside.store.layout on.sets runnable.stored) runnable.there out.unit))
    (c.told.ensures.commits own) (c.told.ensures.of_run own))
