use Rattle.std.proofs.Common.{◌≡◌, ◌∙◌, None, ap, subst, sym, true}
use Rattle.ckr_desk_refines.specs.Memory.OwnSets.{CommitsItsOwn}
use Rattle.ckr_desk_refines.specs.Memory.OwnSteps.{LeavesLeft}
use Rattle.ckr_desk_refines.specs.Tables.View.{RoomyTables}
use Rattle.ckr_desk.specs.Calls.{may_follow}
use Rattle.ckr_desk.specs.State.{DeskView}
use Rattle.ckr_desk.specs.Submit.{is_queued}
use Rattle.ckr_desk.proofs.desk.Desk.take_out.Goals as goal

pub tell-requires-clause-follows : goal.tell-requires-clause-follows
tell-requires-clause-follows g c κs within =
    subst (λ event. may_follow event None c.args.self.now ≡ true) (sym c.purged_event.ensures.event)
    (sym (ap (λ (s : DeskView g.row.D.Denot). is_queued s.jobs.tables.desk c.args.job) c.self.view_is)
    ∙ sym (ap (λ (t : RoomyTables). is_queued t.desk c.args.job) c.tables.ensures) ∙ sym c.purged_follows.ensures ∙ c.if-not-purged_follows.false)

pub tell-requires-clause-commits : goal.tell-requires-clause-commits
tell-requires-clause-commits g c κs within =
    subst (λ event. CommitsItsOwn event c.args.self.now.jobs.tables.desk c.args.self.now.jobs.running) (sym c.purged_event.ensures.event) tt

pub tell-requires-clause-leaves : goal.tell-requires-clause-leaves
tell-requires-clause-leaves g c κs within = subst (λ event. LeavesLeft event c.args.self.now.jobs.failed) (sym c.purged_event.ensures.event) tt
