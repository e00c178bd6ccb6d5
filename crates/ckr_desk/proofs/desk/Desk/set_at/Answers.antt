use Rattle.std.proofs.Common.{subst, sym}
use Rattle.ckr_desk_refines.specs.Standing.{StandsForDesk}
use Rattle.ckr_desk.specs.Soundness.{state_of}
use Rattle.ckr_desk.proofs.desk.Desk.set_at.Goals as goal

pub returns : goal.returns
returns g c trusted =
    let d = g.D.Disk in
    let now = c.args.self.now in
    c.set_at.ensures now.store.layout (d.content now.store.disk) (state_of d.content now).desk
    (subst (λ s. StandsForDesk now.store.layout s.jobs (d.content now.store.disk) (state_of d.content now).desk) (sym c.self.view_is) trusted.stands)
