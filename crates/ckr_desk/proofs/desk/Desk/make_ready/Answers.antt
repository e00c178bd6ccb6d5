use Rattle.std.proofs.Common.{refl}
use Rattle.ckr_desk.proofs.Layouts.{kept-stay}
use Rattle.ckr_desk.proofs.desk.Desk.make_ready.Goals as goal

pub invariant_of-self : goal.invariant_of-self
invariant_of-self g c =
    let e = c.prepare.ensures in
    record {
      jobs =
          kept-stay c.self-2.inside.store.layout c.self-2.inside.store.layout c.self-2.inside.jobs c.prepare.new.self refl e.desk e.running e.failed e.points c.self-2.invariant.jobs;
      store = c.self-2.invariant.store;
    }

pub invariant_of-self-2 : goal.invariant_of-self-2
invariant_of-self-2 g c =
    let e = c.prepare.ensures in
    record {
      jobs =
          kept-stay c.self-2.inside.store.layout c.self-2.inside.store.layout c.self-2.inside.jobs c.prepare.new.self refl e.desk e.running e.failed e.points c.self-2.invariant.jobs;
      store = c.self-2.invariant.store;
    }
