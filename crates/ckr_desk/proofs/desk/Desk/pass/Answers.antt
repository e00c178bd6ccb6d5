use Rattle.std.proofs.Common.{ap}
use Rattle.ckr_desk_refines.specs.Tables.View.{RoomyTables}
use Rattle.ckr_desk.proofs.Layouts.{kept-moved}
use Rattle.ckr_desk.proofs.desk.Desk.pass.Goals as goal
use Rattle.ckr_desk_refines.proofs.Memory.Served.{counted-all}

pub pass-requires : goal.pass-requires
pass-requires g c = record { counted = counted-all c.self.inside.store.layout c.self.inside.jobs.running c.self.invariant.jobs.are.running }

pub invariant_of-self : goal.invariant_of-self
invariant_of-self g c =
    let layout = c.self.inside.store.layout in
    let kept = c.self.invariant.jobs in
    record {
      jobs =
          kept-moved layout c.self.inside.jobs c.pass.new.self (ap (λ (t : RoomyTables). t.desk) c.pass.ensures.tables) c.pass.ensures.failed (c.pass.ensures.jobs layout kept.are) (c.pass.ensures.own kept.own) kept;
      store = c.self.invariant.store;
    }
