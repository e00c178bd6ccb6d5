use Rattle.std.proofs.Common.{sym, ap, subst, ◌∙◌}
use Rattle.ckr_session.specs.Model.Soundness.{IsTrusted}
use Rattle.ckr_session.specs.Service.{seen, staffed_by}
use Rattle.ckr_service.proofs.Streams.Servings.{serving_by}
use Rattle.ckr_service.proofs.Streams.Totals.{counted_behind}
use Rattle.ckr_service.proofs.stream.serve.Goals as goal
use Rattle.ckr_session.specs.Model.State.{DeskView, disk_of}

pub returns-clause-served : goal.returns-clause-served
returns-clause-served g c =
    let d = g.D.Disk in
    serving_by d.told d.content d.may_leave d.moment d.left_since d.size d.faults c.new-flow.result.session.clerk.desk c.args.desk c.new-flow.result.session.clerk.roster c.args.roster (disk_of c.serve_on-outcome.new.flow.session.clerk.desk) c.close.result
    c.serve_on-outcome.result _ _ _ _ _ _ _ _ c.new-flow.ensures.desk c.new-flow.ensures.roster c.close.ensures c.serve_on-outcome.ensures.served

pub returns-clause-counted : goal.returns-clause-counted
returns-clause-counted g c =
    let d = g.D.Disk in
    let e = c.serve_on-outcome.ensures in
    let first = c.new-flow.result.session.clerk in
    let last = c.serve_on-outcome.new.flow.session.clerk in
    let same = ap (λ (w : DeskView _). staffed_by d.content w first.roster) c.new-flow.ensures.desk ∙ ap (staffed_by d.content c.args.desk) c.new-flow.ensures.roster in
    counted_behind (IsTrusted d.told d.content d.may_leave first.desk) (IsTrusted d.told d.content d.may_leave c.args.desk) (IsTrusted d.told d.content d.may_leave last.desk) (seen d.content first) (seen d.content last) (staffed_by d.content c.args.desk c.args.roster)
    c.serve_on-outcome.result c.counts_of-counts.result _ _
    (λ holds. subst (IsTrusted d.told d.content d.may_leave) (sym c.new-flow.ensures.desk) holds) same c.new-flow.ensures.begun.tally e.behind e.trusted c.counts_of-counts.ensures
