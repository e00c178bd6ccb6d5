use Rattle.ckr_desk.proofs.Images.Soundness.{kept-still}
use Rattle.ckr_desk.proofs.desk.Desk.layout.Goals as goal

pub returns-clause-kept : goal.returns-clause-kept
returns-clause-kept g c is_open trusted =
    let d = g.D.Disk in
    let now = c.args.self.now in
    let laws = g.met.D.Disk g.world.𝓛 g.world.𝓜 g.world.𝓡 ((λ s x. x), (λ x. x), (λ x. x), λ x. x) in
    kept-still d.told d.content d.may_leave d.size now trusted d.moment d.left_since (laws.only_now now.store.disk) (laws.sized now.store.disk (d.moment now.store.disk))
