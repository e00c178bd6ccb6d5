use Rattle.std.proofs.Common.{◌≡◌, ◌∙◌, arith, sym, subst, ap, false, OnOk, Result, Err}
use Rattle.ckr_book.specs.Book.{room_of}
use Rattle.ckr_desk_refines.specs.Memory.OwnSteps.{PlanFollows}
use Rattle.ckr_desk_refines.proofs.Memory.OwnUnits.{told-leaves}
use Rattle.ckr_outside.specs.Moments.{at_the_end}
use Rattle.ckr_desk_store.specs.State.{StoreView}
use Rattle.ckr_desk_refines.specs.Tables.View.{RoomyTables}
use Rattle.ckr_volumes.specs.declared.layout.Layout.{Layout}
use Rattle.ckr_points.specs.declared.reply.Reply.{Reply}
use Rattle.ckr_desk.specs.declared.error.DeskError.{DeskError}
use Rattle.ckr_desk.proofs.Layouts.{kept-moved}
use Rattle.ckr_desk.proofs.Units.Results.{done-after, done-cause, done-fits, done-kept, done-reply, done-told, done-trusted, unit-cause, unit-keeps, unit-takes}
use Rattle.ckr_desk.proofs.Units.Preparation.{err-is}
use Rattle.ckr_desk.proofs.Turns.Plans.{behind-takes, go-of-disk}
use Rattle.ckr_desk.proofs.Turns.Preparation.{came-of-disk}
use Rattle.ckr_desk.proofs.Units.Questions.{went-rests}
use Rattle.ckr_desk.proofs.Units.Turn.{went-asks}
use Rattle.ckr_desk.proofs.Units.Readiness.{ready-behind, settled-so, unit-knows}
use Rattle.ckr_desk.specs.Requests.{came_by, spelled}
use Rattle.ckr_desk.specs.Soundness.{KeepsWithin, state_of}
use Rattle.ckr_desk.specs.State.{DeskView}
use Rattle.ckr_desk.specs.Turn.{asks, event_of_turn, reply_of}
use Rattle.ckr_desk.specs.Units.{HasTurned, IsLeftByUnit}
use Rattle.ckr_desk.proofs.desk.Desk.work_on.Goals as goal

pub returns-in_err-done_unit-clause-turned : goal.returns-in_err-done_unit-clause-turned
returns-in_err-done_unit-clause-turned g c turn answer p ahead =
    let d = g.D.Disk in
    let now = c.args.self.now in
    subst (HasTurned d.told d.content d.may_leave d.moment d.left_since d.size turn answer now c.done_unit.new.self) (sym (err-is c.from_residual.result c.in_err-done_unit.field-0.0 c.from_residual.ensures.1))
    (record {
      reply = tt;
      fits = tt;
      after = tt;
      events = tt;
      trusted = tt;
      cause = unit-cause d.told d.content d.may_leave d.moment d.left_since d.size now p.trusted turn c.args.run p.planned answer _ _ _ _ c.in_err-done_unit.field-0.0 c.in_err-done_unit.ensures.cause;
      takes = unit-takes d.told d.content d.may_leave d.moment d.left_since d.size now p.trusted turn c.args.run p.planned answer _ _ (reply_of (state_of d.content now) turn answer) (event_of_turn (state_of d.content now) turn answer) (asks (state_of d.content now) turn answer) c.in_err-done_unit.field-0.0 c.in_err-done_unit.ensures.cause;
      kept = unit-keeps d.told d.content d.may_leave d.moment d.left_since d.size now p.trusted turn c.args.run p.planned answer _ c.done_unit.new.self c.done_unit.ensures.left;
    })

pub done_unit-requires-clause-unit : goal.done_unit-requires-clause-unit
done_unit-requires-clause-unit g c κs within = c.requires.ahead.1.looked.of

pub go_on-requires-clause-spelled : goal.go_on-requires-clause-spelled
go_on-requires-clause-spelled g c κs within = c.requires.ahead.1.looked.spelled

pub go_on-requires-clause-settled : goal.go_on-requires-clause-settled
go_on-requires-clause-settled g c κs within = settled-so c.args.ahead.plan c.requires.ahead.1.looked.shape c.requires.ahead.1.looked.settled

pub go_on-requires-clause-knows : goal.go_on-requires-clause-knows
go_on-requires-clause-knows g c κs within = unit-knows _ _ c.args.ahead.plan c.requires.ahead.1.looked.shape

pub go_on-requires-clause-follows : goal.go_on-requires-clause-follows
go_on-requires-clause-follows g c κs within =
    subst (λ (l : Layout). PlanFollows l c.done_unit.new.self.jobs.tables.desk c.args.ahead.plan) (sym c.done_unit.ensures.layout)
    (subst (λ (tables : RoomyTables). PlanFollows c.args.self.now.store.layout tables.desk c.args.ahead.plan) (sym c.in_ok-done_unit.ensures.tables) c.requires.ahead.1.looked.follows)

pub go_on-requires-clause-commits : goal.go_on-requires-clause-commits
go_on-requires-clause-commits g c κs within = c.in_ok-done_unit.ensures.commits c.requires.ahead.0 c.args.ahead.plan c.requires.ahead.1.looked

pub go_on-requires-clause-leaves : goal.go_on-requires-clause-leaves
go_on-requires-clause-leaves g c κs within = told-leaves c.done_unit.new.self.jobs.failed c.args.ahead.plan c.requires.ahead.1.looked.shape

pub go_on-requires-clause-ready : goal.go_on-requires-clause-ready
go_on-requires-clause-ready g c κs within =
    ready-behind c.args.self.now c.done_unit.new.self c.in_ok-done_unit.ensures.tables c.in_ok-done_unit.ensures.points c.in_ok-done_unit.ensures.place (ap (λ (s : StoreView g.row.D.Denot). room_of s.book) c.in_ok-done_unit.ensures.kept)
    c.args.ahead.plan c.requires.ahead.1.looked.shape c.args.ahead.ready c.requires.ahead.1.ready

pub invariant_of-self : goal.invariant_of-self
invariant_of-self g c =
    let layout = c.self.inside.store.layout in
    let kept = c.self.invariant.jobs in
    record {
      jobs =
          kept-moved layout c.self.inside.jobs c.take_step.new.self (ap (λ (t : RoomyTables). t.desk) c.take_step.ensures.tables) c.take_step.ensures.failed
          (c.take_step.ensures.jobs layout kept.are) (c.take_step.ensures.own kept.own) kept;
      store = c.self.invariant.store;
    }

pub returns-in-Ok-clause-turned : goal.returns-in-Ok-clause-turned
returns-in-Ok-clause-turned g c turn answer p ahead =
    let d = g.D.Disk in
    let now = c.args.self.now in
    let mid = c.done_unit.new.self in
    let new = c.go_on.new.self in
    let plan = c.args.ahead.plan in
    let done = (c.in_ok-done_unit.ensures.done answer c.args.ahead.plan ahead.looked) in
    let events = c.in_ok-done_unit.ensures.events p.trusted.tells in
    let shape = ahead.looked.spelled in
    let laws = g.met.D.Disk g.world.𝓛 g.world.𝓜 g.world.𝓡 ((λ s x. x), (λ x. x), (λ x. x), λ x. x) in
    let stems = at_the_end d.moment d.may_leave d.left_since now.store.disk mid.store.disk (IsLeftByUnit d.content d.may_leave d.size c.args.run now) c.done_unit.ensures.left (laws.counts_now mid.store.disk) in
    let disk = new.store.disk in
    let layout = c.go_on.ensures.layout ∙ c.done_unit.ensures.layout in
    record {
      reply = c.in-Ok.ensures.reply ∙ done-reply d.told d.content d.may_leave d.moment d.left_since d.size now p.trusted turn c.args.run p.planned answer mid plan done events shape stems;
      fits = done-fits d.told d.content d.may_leave d.moment d.left_since d.size now p.trusted turn c.args.run p.planned answer mid plan done events shape stems new c.in-Ok.ensures.gone;
      after = done-after d.told d.content d.may_leave d.moment d.left_since d.size now p.trusted turn c.args.run p.planned answer mid plan done events shape stems new c.in-Ok.ensures.gone layout;
      events = done-told d.told d.content d.may_leave d.moment d.left_since d.size now p.trusted turn c.args.run p.planned answer mid plan done events shape stems new c.in-Ok.ensures.gone;
      trusted = done-trusted d.told d.content d.may_leave d.moment d.left_since d.size now p.trusted turn c.args.run p.planned answer mid plan done events shape stems new c.in-Ok.ensures.gone layout
          (c.in-Ok.ensures.opens p.trusted.tells)
          (λ image may. laws.sized disk (d.moment disk) image (laws.counts_now disk (d.moment disk) image (omega arith) may) ∙ c.go_on.ensures.size ∙ c.done_unit.ensures.size);
      cause = tt;
      takes = tt;
      kept = done-kept d.told d.content d.may_leave d.moment d.left_since d.size now p.trusted turn c.args.run p.planned answer mid plan done events shape stems c.done_unit.ensures.size new c.done_unit.ensures.left (c.go_on.ensures.left p.trusted.tells);
    }

pub returns-in-Ok-clause-unasked : goal.returns-in-Ok-clause-unasked
returns-in-Ok-clause-unasked g c turn answer p ahead on_it =
    let d = g.D.Disk in
    let now = c.args.self.now in
    let mid = c.done_unit.new.self in
    let plan = c.args.ahead.plan in
    let laws = g.met.D.Disk g.world.𝓛 g.world.𝓜 g.world.𝓡 ((λ s x. x), (λ x. x), (λ x. x), λ x. x) in
    let stems = at_the_end d.moment d.may_leave d.left_since now.store.disk mid.store.disk (IsLeftByUnit d.content d.may_leave d.size c.args.run now) c.done_unit.ensures.left (laws.counts_now mid.store.disk) in
    let rests = went-rests d.told d.content d.may_leave d.moment d.left_since d.size now p.trusted turn c.args.run p.planned c.args.ahead.unit ahead.looked.of answer on_it plan ahead.looked.planned in
    went-asks d.told d.content d.may_leave d.moment d.left_since d.size now p.trusted turn c.args.run p.planned answer mid plan (c.in_ok-done_unit.ensures.done answer plan ahead.looked)
    (c.in_ok-done_unit.ensures.events p.trusted.tells) ahead.looked.spelled stems rests.0 rests.1

pub returns-in_err-done_unit-clause-unasked : goal.returns-in_err-done_unit-clause-unasked
returns-in_err-done_unit-clause-unasked g c turn answer p ahead on_it =
    subst (λ r. OnOk r (asks (state_of g.D.Disk.content c.args.self.now) turn answer ≡ false)) (sym (err-is c.from_residual.result c.in_err-done_unit.field-0.0 c.from_residual.ensures.1)) tt

abbrev failed : DeskError → Result Reply DeskError
failed error = Err error

pub returns-in-Err-clause-turned : goal.returns-in-Err-clause-turned
returns-in-Err-clause-turned g c turn answer p ahead =
    let d = g.D.Disk in
    let now = c.args.self.now in
    let mid = c.done_unit.new.self in
    let new = c.go_on.new.self in
    let plan = c.args.ahead.plan in
    let done = (c.in_ok-done_unit.ensures.done answer c.args.ahead.plan ahead.looked) in
    let events = c.in_ok-done_unit.ensures.events p.trusted.tells in
    let shape = ahead.looked.spelled in
    let laws = g.met.D.Disk g.world.𝓛 g.world.𝓜 g.world.𝓡 ((λ s x. x), (λ x. x), (λ x. x), λ x. x) in
    let stems = at_the_end d.moment d.may_leave d.left_since now.store.disk mid.store.disk (IsLeftByUnit d.content d.may_leave d.size c.args.run now) c.done_unit.ensures.left (laws.counts_now mid.store.disk) in
    record {
      reply = tt;
      fits = tt;
      after = tt;
      events = tt;
      trusted = tt;
      cause = done-cause d.told d.content d.may_leave d.moment d.left_since d.size now p.trusted turn c.args.run p.planned answer mid plan done events shape stems d.faults new c.in-Err.error c.in-Err.ensures.cause;
      takes = behind-takes d.faults mid new plan (reply_of (state_of d.content now) turn answer) (event_of_turn (state_of d.content now) turn answer) (asks (state_of d.content now) turn answer) c.in-Err.error c.in-Err.ensures.cause;
      kept = subst (λ (s : DeskView g.row.D.Denot). KeepsWithin d.content d.moment d.left_since d.size now s (came_by (failed c.in-Err.error) (spelled (event_of_turn (state_of d.content now) turn answer)))) (sym c.self.view_is)
          (came-of-disk d.content d.moment d.left_since d.size now new (spelled (event_of_turn (state_of d.content now) turn answer)) (failed c.in-Err.error)
          (go-of-disk d.faults mid new plan c.in-Err.error c.in-Err.ensures.cause)
          (done-kept d.told d.content d.may_leave d.moment d.left_since d.size now p.trusted turn c.args.run p.planned answer mid plan done events shape stems c.done_unit.ensures.size new c.done_unit.ensures.left (c.go_on.ensures.left p.trusted.tells)));
    }
