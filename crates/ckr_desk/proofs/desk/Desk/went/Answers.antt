use Rattle.std.proofs.Common.{◌∙◌, arith, refl, sym, subst}
use Rattle.ckr_outside.specs.Moments.{at_the_end}
use Rattle.ckr_desk_refines.specs.Memory.Parts.{step_seen}
use Rattle.ckr_desk_turn.specs.declared.plan.Plan.{Plan}
use Rattle.ckr_desk_turn.specs.declared.plan.Plan.TheVariants.{Rest}
use Rattle.ckr_desk.proofs.Units.Results.{done-after, done-fits, done-reply, done-told, done-trusted, unit-cause, unit-keeps, unit-takes}
use Rattle.ckr_desk.proofs.Turns.Answers.{fault-stands, unasked}
use Rattle.ckr_desk.proofs.Units.Preparation.{err-is, out-of, went-looked}
use Rattle.ckr_desk.proofs.Units.Turn.{went-asks}
use Rattle.ckr_desk.specs.Preparation.{IsLookedAhead, IsWorkedOut}
use Rattle.ckr_desk.specs.Requests.{spelled}
use Rattle.ckr_desk.specs.Soundness.{state_of}
use Rattle.ckr_desk.specs.State.{DeskView}
use Rattle.ckr_desk.specs.Turn.{AnswerStands, asks, event_of_turn, reply_of}
use Rattle.ckr_desk.specs.Units.{HasTurned, IsLeftByUnit}
use Rattle.ckr_desk.proofs.desk.Desk.went.Goals as goal

pub worked-reply-requires-clause-counted : goal.worked-reply-requires-clause-counted
worked-reply-requires-clause-counted g c =
    let d = g.D.Disk in
    let old : DeskView g.row.D.Denot = record { store = c.self.inside.store; jobs = c.self.inside.jobs; machine_room = c.self.inside.machine_room } in
    let of = subst (λ (s : DeskView g.row.D.Denot). IsWorkedOut d.told d.content c.args.run s c.args.unit) (sym c.self.view_is) c.requires.unit in
    let out = out-of d.told d.content c.args.run old c.args.unit of (step_seen c.in-Some.on.now) (sym c.in-Some.ensures.step) in
    out.unit.counted

pub worked-reply-requires-clause-rows : goal.worked-reply-requires-clause-rows
worked-reply-requires-clause-rows g c = c.self.invariant.jobs.are.rows

pub done_unit-requires-clause-unit : goal.done_unit-requires-clause-unit
done_unit-requires-clause-unit g c κs within = c.requires.unit

pub returns-in_err-done_unit-clause-turned : goal.returns-in_err-done_unit-clause-turned
returns-in_err-done_unit-clause-turned g c turn answer p =
    let d = g.D.Disk in
    let now = c.args.self.now in
    subst (HasTurned d.told d.content d.may_leave d.moment d.left_since d.size turn answer now c.done_unit.new.self) (sym (err-is c.from_residual.result c.in_err-done_unit.field-0.0 c.from_residual.ensures.1))
    (record {
      reply = tt;
      fits = tt;
      after = tt;
      events = tt;
      trusted = tt;
      cause = unit-cause d.told d.content d.may_leave d.moment d.left_since d.size now p.trusted turn c.args.run p.planned answer _ _ _ _ c.in_err-done_unit.field-0.0 c.in_err-done_unit.ensures.cause;
      takes = unit-takes d.told d.content d.may_leave d.moment d.left_since d.size now p.trusted turn c.args.run p.planned answer _ _ (reply_of (state_of d.content now) turn answer) (event_of_turn (state_of d.content now) turn answer) (asks (state_of d.content now) turn answer) c.in_err-done_unit.field-0.0 c.in_err-done_unit.ensures.cause;
      kept = unit-keeps d.told d.content d.may_leave d.moment d.left_since d.size now p.trusted turn c.args.run p.planned answer _ c.done_unit.new.self c.done_unit.ensures.left;
    })

pub returns-in_err-done_unit-clause-answered : goal.returns-in_err-done_unit-clause-answered
returns-in_err-done_unit-clause-answered g c turn answer p =
    let now = c.args.self.now in
    subst (AnswerStands (asks (state_of g.D.Disk.content now) turn answer) now.machine_room c.done_unit.new.self.machine_room) (sym (err-is c.from_residual.result c.in_err-done_unit.field-0.0 c.from_residual.ensures.1))
    (fault-stands (asks (state_of g.D.Disk.content now) turn answer) now.machine_room c.done_unit.new.self.machine_room _ _ c.in_err-done_unit.field-0.0 c.in_err-done_unit.ensures.cause)

pub returns-clause-answered : goal.returns-clause-answered
returns-clause-answered g c turn answer p =
    let d = g.D.Disk in
    let now = c.args.self.now in
    let mid = c.done_unit.new.self in
    let plan : Plan = Rest c.worked-reply.result in
    let unit = c.args.unit in
    let old : DeskView g.row.D.Denot = record { store = c.self.inside.store; jobs = c.self.inside.jobs; machine_room = c.self.inside.machine_room } in
    let of = subst (λ (s : DeskView g.row.D.Denot). IsWorkedOut d.told d.content c.args.run s unit) (sym c.self.view_is) c.requires.unit in
    let looked : IsLookedAhead d.told d.content c.args.run now unit answer plan =
    subst (λ (s : DeskView g.row.D.Denot). IsLookedAhead d.told d.content c.args.run s unit answer plan) c.self.view_is
    (went-looked d.told d.content c.args.run old unit of (step_seen c.in-Some.on.now) (sym c.in-Some.ensures.step) answer c.worked-reply.result (c.worked-reply.ensures.plan old.store.layout) c.worked-reply.ensures.told)
    in
    let done = c.in_ok-done_unit.ensures.done answer plan looked in
    let laws = g.met.D.Disk g.world.𝓛 g.world.𝓜 g.world.𝓡 ((λ s x. x), (λ x. x), (λ x. x), λ x. x) in
    let stems = at_the_end d.moment d.may_leave d.left_since now.store.disk mid.store.disk (IsLeftByUnit d.content d.may_leave d.size c.args.run now) c.done_unit.ensures.left (laws.counts_now mid.store.disk) in
    unasked (asks (state_of d.content now) turn answer) now.machine_room mid.machine_room
    (went-asks d.told d.content d.may_leave d.moment d.left_since d.size now p.trusted turn c.args.run p.planned answer mid plan done (c.in_ok-done_unit.ensures.events p.trusted.tells) c.worked-reply.ensures.told stems c.worked-reply.result refl)
    c.done_unit.ensures.machine_room

pub returns-clause-turned : goal.returns-clause-turned
returns-clause-turned g c turn answer p =
    let d = g.D.Disk in
    let now = c.args.self.now in
    let mid = c.done_unit.new.self in
    let plan : Plan = Rest c.worked-reply.result in
    let unit = c.args.unit in
    let old : DeskView g.row.D.Denot = record { store = c.self.inside.store; jobs = c.self.inside.jobs; machine_room = c.self.inside.machine_room } in
    let of = subst (λ (s : DeskView g.row.D.Denot). IsWorkedOut d.told d.content c.args.run s unit) (sym c.self.view_is) c.requires.unit in
    let looked : IsLookedAhead d.told d.content c.args.run now unit answer plan =
    subst (λ (s : DeskView g.row.D.Denot). IsLookedAhead d.told d.content c.args.run s unit answer plan) c.self.view_is
    (went-looked d.told d.content c.args.run old unit of (step_seen c.in-Some.on.now) (sym c.in-Some.ensures.step) answer c.worked-reply.result (c.worked-reply.ensures.plan old.store.layout) c.worked-reply.ensures.told)
    in
    let done = c.in_ok-done_unit.ensures.done answer plan looked in
    let disk = mid.store.disk in
    let events = c.in_ok-done_unit.ensures.events p.trusted.tells in
    let shape = c.worked-reply.ensures.told in
    let laws = g.met.D.Disk g.world.𝓛 g.world.𝓜 g.world.𝓡 ((λ s x. x), (λ x. x), (λ x. x), λ x. x) in
    let stems = at_the_end d.moment d.may_leave d.left_since now.store.disk mid.store.disk (IsLeftByUnit d.content d.may_leave d.size c.args.run now) c.done_unit.ensures.left (laws.counts_now mid.store.disk) in
    record {
      reply = done-reply d.told d.content d.may_leave d.moment d.left_since d.size now p.trusted turn c.args.run p.planned answer mid plan done events shape stems;
      fits = done-fits d.told d.content d.may_leave d.moment d.left_since d.size now p.trusted turn c.args.run p.planned answer mid plan done events shape stems mid refl;
      after = done-after d.told d.content d.may_leave d.moment d.left_since d.size now p.trusted turn c.args.run p.planned answer mid plan done events shape stems mid refl c.done_unit.ensures.layout;
      events = done-told d.told d.content d.may_leave d.moment d.left_since d.size now p.trusted turn c.args.run p.planned answer mid plan done events shape stems mid refl;
      trusted = done-trusted d.told d.content d.may_leave d.moment d.left_since d.size now p.trusted turn c.args.run p.planned answer mid plan done events shape stems mid refl c.done_unit.ensures.layout tt
          (λ image may. laws.sized disk (d.moment disk) image (laws.counts_now disk (d.moment disk) image (omega arith) may) ∙ c.done_unit.ensures.size);
      cause = tt;
      takes = tt;
      kept = unit-keeps d.told d.content d.may_leave d.moment d.left_since d.size now p.trusted turn c.args.run p.planned answer (spelled (event_of_turn (state_of d.content now) turn answer)) mid c.done_unit.ensures.left;
    }
