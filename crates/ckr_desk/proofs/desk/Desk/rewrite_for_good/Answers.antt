use Rattle.std.proofs.Common.{ap, subst, sym, ◌∙◌}
use Rattle.ckr_desk.proofs.Images.Rewrite.{syncing-left}
use Rattle.ckr_desk.specs.Rewrite.{IsWrittenBy}
use Rattle.ckr_desk.specs.State.{DeskView}
use Rattle.ckr_outside.specs.Disk.{EachSince}
use Rattle.ckr_desk.proofs.desk.Desk.rewrite_for_good.Goals as goal

pub returns-clause-written : goal.returns-clause-written
returns-clause-written g c told =
    let d = g.D.Disk in
    let now = c.args.self.now in
    subst (IsWrittenBy now.store.layout now.jobs.tables.desk c.args.event.now (d.content now.store.disk))
    (sym (c.sync.ensures.only_reads.same ∙ ap (λ (s : DeskView g.row.D.Denot). d.content s.store.disk) c.self.view_is)) (c.in_ok-rewrite.ensures.written told)

pub returns-in_err-sync-clause-left : goal.returns-in_err-sync-clause-left
returns-in_err-sync-clause-left g c only =
    let d = g.D.Disk in
    let laws = g.met.D.Disk g.world.𝓛 g.world.𝓜 g.world.𝓡 ((λ s x. x), (λ x. x), (λ x. x), λ x. x) in
    let mid = c.rewrite.new.self in
    syncing-left d.content d.may_leave d.moment d.left_since d.size c.args.event.now c.args.self.now only mid.store.disk c.sync.new.self.disk
    (c.rewrite.ensures.left only) (laws.counts_now mid.store.disk)
    (subst (λ (s : DeskView g.row.D.Denot). EachSince d.moment d.left_since s.store.disk c.sync.new.self.disk (d.may_leave s.store.disk)) c.self.view_is c.sync.ensures.only_reads.since)

pub returns-clause-left : goal.returns-clause-left
returns-clause-left g c only =
    let d = g.D.Disk in
    let laws = g.met.D.Disk g.world.𝓛 g.world.𝓜 g.world.𝓡 ((λ s x. x), (λ x. x), (λ x. x), λ x. x) in
    let mid = c.rewrite.new.self in
    syncing-left d.content d.may_leave d.moment d.left_since d.size c.args.event.now c.args.self.now only mid.store.disk c.sync.new.self.disk
    (c.rewrite.ensures.left only) (laws.counts_now mid.store.disk)
    (subst (λ (s : DeskView g.row.D.Denot). EachSince d.moment d.left_since s.store.disk c.sync.new.self.disk (d.may_leave s.store.disk)) c.self.view_is c.sync.ensures.only_reads.since)
