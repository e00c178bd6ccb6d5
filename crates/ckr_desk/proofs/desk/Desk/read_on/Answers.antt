use Rattle.std.proofs.Common.{◌≡◌, subst, sym}
use Rattle.ckr_desk_store.specs.State.{StoreView}
use Rattle.ckr_desk.specs.Points.{ArePointsRead}
use Rattle.ckr_desk.specs.FirstSync.{FromSync}
use Rattle.ckr_desk_turn.proofs.MachineRooms.{units-few}
use Rattle.ckr_desk.proofs.desk.Desk.read_on.Goals as goal

pub returns-in-Ok-clause-synced : goal.returns-in-Ok-clause-synced
returns-in-Ok-clause-synced g c =
    let d = g.D.Disk in
    subst (λ (s : StoreView g.row.D.Denot). FromSync d.content d.may_leave d.moment d.left_since c.args.disk s.disk (λ image. image ≡ d.content c.args.disk)) (sym c.open-store.ensures.value) c.in-Ok.ensures.synced

pub returns-in-Ok-clause-points : goal.returns-in-Ok-clause-points
returns-in-Ok-clause-points g c =
    let d = g.D.Disk in
    let its = c.in-Ok.field-0 in
    subst (λ (s : StoreView g.row.D.Denot). ArePointsRead d.told s.layout its.jobs.tables.desk (d.content c.args.disk) its.jobs.points) (sym c.open-store.ensures.value)
    (subst (λ (image : _). ArePointsRead d.told its.layout its.jobs.tables.desk image its.jobs.points) c.in-Ok.ensures.only_reads.same c.in-Ok.ensures.points)

pub new-mounts-requires : goal.new-mounts-requires
new-mounts-requires g c = units-few c.in-Ok.field-0.layout _ c.in-Ok.ensures.header
