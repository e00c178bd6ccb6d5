use Rattle.std.proofs.Common.{Some, ap, map, sym, ◌∙◌}
use Rattle.ckr_service.specs.Completeness.{GivesAll}
use Rattle.ckr_service.specs.Faultless.{bytes_left}
use Rattle.ckr_service.specs.Feeds.{faults_of}
use Rattle.ckr_session.specs.Staff.{staffed_with}
use Rattle.ckr_service.proofs.MadeDisks.{not_rose}
use Rattle.ckr_service.proofs.MadeEnds.{lacks-memory, line-completes}
use Rattle.ckr_service.proofs.MadeRuns.{runs_nothing, runs_whole}
use Rattle.ckr_service.proofs.make.serve_bytes.Goals as goal

pub returns-then-not-is_whole-clause-runs : goal.returns-then-not-is_whole-clause-runs
returns-then-not-is_whole-clause-runs g c =
    let d = g.D.Disk in
    let r = c.run-status in
    runs_nothing d.told d.content d.may_leave d.moment d.left_since d.size d.faults c.args.disk r.result.disk (map g.O.Operator.answering c.args.operators.items) c.args.bytes.items (bytes_left c.new-source.result)
    (bytes_left r.new.source) r.result.status c.new-source.ensures c.requires.few r.ensures.run _ _ (sym c.is_whole.ensures ∙ c.if-not-is_whole.true)

pub returns-clause-runs : goal.returns-clause-runs
returns-clause-runs g c =
    let d = g.D.Disk in
    let r = c.run-status in
    runs_whole d.told d.content d.may_leave d.moment d.left_since d.size d.faults c.args.disk r.result.disk (map g.O.Operator.answering c.args.operators.items) c.args.bytes.items (bytes_left c.new-source.result)
    (bytes_left r.new.source) r.result.status c.new-source.ensures c.requires.few r.ensures.run r.result.counts c.serving_status.result _ _ _ _ c.tell.result (sym c.is_whole.ensures ∙ c.if-not-is_whole.false)
    r.ensures.counted c.serving_status.ensures c.tell.ensures

pub returns-then-not-is_whole-clause-completes : goal.returns-then-not-is_whole-clause-completes
returns-then-not-is_whole-clause-completes g c = λ all state opens works fits.
    let r = c.run-status in
    let faults = faults_of 0 0 0 0 (g.D.Disk.faults c.args.disk) (g.D.Disk.faults r.result.disk) in
    let gives : GivesAll c.args.bytes.items (Some (bytes_left c.new-source.result)) faults = record { bytes = ap Some c.new-source.ensures; few = c.requires.few; works = record { source = not_rose; sink = not_rose; disk = works.disk } } in
    lacks-memory r.result.status (staffed_with (map g.O.Operator.answering c.args.operators.items) state) c.args.bytes.items (sym c.is_whole.ensures ∙ c.if-not-is_whole.true)
    (r.ensures.completes all state c.args.bytes.items opens gives fits)

pub returns-clause-completes : goal.returns-clause-completes
returns-clause-completes g c = λ all state opens works fits. line-completes _ c.tell.result c.serving_status.result _ _ _ _ works.sink c.serving_status.ensures c.tell.ensures
