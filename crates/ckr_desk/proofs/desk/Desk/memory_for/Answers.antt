use Rattle.std.proofs.Common.{◌∙◌, ap, refl, sym}
use Rattle.ckr_desk.proofs.Layouts.{kept-stay}
use Rattle.ckr_desk.proofs.Turns.Mounts.{may-tell-same, told-prepared}
use Rattle.ckr_desk.specs.Preparation.{may_tell}
use Rattle.ckr_desk.specs.State.{DeskView}
use Rattle.ckr_desk.proofs.desk.Desk.memory_for.Goals as goal

pub invariant_of-self : goal.invariant_of-self
invariant_of-self g c =
    let e = c.prepare_mounts.ensures in
    record {
      jobs =
          kept-stay c.self.inside.store.layout c.self.inside.store.layout c.self.inside.jobs c.prepare_mounts.new.self refl e.desk e.running e.failed e.points c.self.invariant.jobs;
      store = c.self.invariant.store;
    }

pub returns-clause-memory : goal.returns-clause-memory
returns-clause-memory g c =
    let plan = c.args.plan.now in
    let counts =
    may-tell-same c.self.inside.jobs c.prepare_mounts.new.self plan c.prepare_mounts.ensures.desk
    ∙ ap (λ (s : DeskView g.row.D.Denot). may_tell s.jobs plan) c.self.view_is
    ∙ sym c.may_tell.ensures
    ∙ c.if-not-may_tell.false in
    record {
      tells = told-prepared c.prepare_mounts.new.self plan c.in_ok-prepared.prepared counts c.in_ok-prepared.ensures.ok.tells;
      ends = c.in_ok-prepared.ensures.ok.ends;
    }

pub invariant_of-self-2 : goal.invariant_of-self-2
invariant_of-self-2 g c =
    let e = c.prepare_mounts.ensures in
    record {
      jobs =
          kept-stay c.self.inside.store.layout c.self.inside.store.layout c.self.inside.jobs c.prepare_mounts.new.self refl e.desk e.running e.failed e.points c.self.invariant.jobs;
      store = c.self.invariant.store;
    }
