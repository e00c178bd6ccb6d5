use Rattle.ckr_session.specs.Service.{seen}
use Rattle.ckr_service.proofs.Streams.Feeds.{serving_on, serving_stopped}
use Rattle.ckr_service.proofs.Streams.Totals.{behind_on}
use Rattle.ckr_service.proofs.stream.serve_on.Goals as goal

pub returns-in_err-feed_all-clause-served : goal.returns-in_err-feed_all-clause-served
returns-in_err-feed_all-clause-served g c =
    serving_stopped _ _ _ _ c.from_residual.result c.in_err-feed_all.field-0.0 _ _ _ _ _ c.from_residual.ensures.1 c.in_err-feed_all.ensures.stop

pub returns-clause-served : goal.returns-clause-served
returns-clause-served g c =
    let d = g.D.Disk in
    let o = c.in_ok-feed_all.ensures in
    let e = c.end.ensures in
    serving_on d.content d.moment d.left_since d.size _ c.args.flow.now.session.clerk _ c.feed_all.new.flow c.end.new.self c.end.result _ _ _ _ _ _ _ _ _ _ _ _ _ c.requires.begun.refused o.ok o.goes
    (λ holds. e.goes (o.trusted holds)) (λ holds. e.ok (o.trusted holds)) (λ holds. e.err (o.trusted holds)) c.feed_all.ensures.sink_later c.feed_all.ensures.disk_later o.trusted e.cause

pub returns-clause-behind : goal.returns-clause-behind
returns-clause-behind g c =
    let d = g.D.Disk in
    let o = c.in_ok-feed_all.ensures in
    let e = c.end.ensures in
    behind_on d.content _ (seen d.content c.args.flow.now.session.clerk) c.feed_all.new.flow (seen d.content c.end.new.self.session.clerk) c.end.result _ _ _ _ _ c.requires.begun.refused o.ok (λ holds. e.ok (o.trusted holds))
