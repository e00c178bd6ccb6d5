use Rattle.ckr_desk.specs.State.{disk_of}
use Rattle.ckr_session.proofs.Calls.Stops.{goes_still}
use Rattle.ckr_session.proofs.session.serve_line.Goals as goal

pub returns-in-Starts-clause-goes : goal.returns-in-Starts-clause-goes
returns-in-Starts-clause-goes g c holds =
    let d = g.D.Disk in
    let laws = g.met.D.Disk g.world.𝓛 g.world.𝓜 g.world.𝓡 ((λ s x. x), (λ x. x), (λ x. x), λ x. x) in
    let desk = c.args.clerk.now.desk in
    goes_still d.content d.moment d.left_since d.size d.told d.may_leave desk holds (laws.only_now (disk_of desk)) (laws.sized (disk_of desk) (d.moment (disk_of desk)))
