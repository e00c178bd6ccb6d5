use Rattle.ckr_base.proofs.Results.{err-holds}
use Rattle.ckr_session.specs.Model.State.{disk_of}
use Rattle.ckr_session.specs.Events.{events_told}
use Rattle.ckr_session.specs.Lines.{telling}
use Rattle.ckr_session.specs.Service.{HaltsTelling, seen, staffed_of}
use Rattle.ckr_service.specs.Flows.{FinishBreaks, end_requests}
use Rattle.ckr_service.proofs.Streams.End.{finished, finish_broken}
use Rattle.ckr_service.proofs.Calls.Texts.{halted, unwritten}
use Rattle.ckr_session.proofs.Calls.Stops.{stopped_here, stopped_so}
use Rattle.ckr_service.proofs.flow.Flow.end.Goals as goal

pub returns-in-Ok-clause-ok : goal.returns-in-Ok-clause-ok
returns-in-Ok-clause-ok g c holds =
    let o = c.in-Ok.ensures in
    let from = telling c.new-lines.result (g.K.Sink.written c.args.sink.now) (g.K.Sink.faults c.args.sink.now) in
    let serves = o.serves holds in
    finished g.D.Disk.content c.args.self.now (seen g.D.Disk.content c.end_requests.new.self.session.clerk) _ _ from.waits serves.told serves.so c.new-lines.ensures.text
    (c.in_ok-write-in-Ok.ensures.ok from serves.told o.sink_later serves.is)

pub returns-in_err-write-in-Ok-clause-err : goal.returns-in_err-write-in-Ok-clause-err
returns-in_err-write-in-Ok-clause-err g c holds =
    let d = g.D.Disk in
    let f = c.args.self.now in
    let stop = c.in_err-write-in-Ok.field-0.0 in
    let e = c.in_err-write-in-Ok.ensures in
    let o = c.in-Ok.ensures in
    let from = telling c.new-lines.result (g.K.Sink.written c.args.sink.now) (g.K.Sink.faults c.args.sink.now) in
    let to = telling c.end_requests.new.lines (g.K.Sink.written c.end_requests.new.sink) (g.K.Sink.faults c.end_requests.new.sink) in
    let now = g.K.Sink.faults c.write.new.sink in
    let new = g.K.Sink.written c.write.new.sink in
    let serves = o.serves holds in
    let came = events_told (staffed_of d.content f.session.clerk) (end_requests f) in
    err-holds c.from_residual.result stop _ c.from_residual.ensures.1
    (stopped_here d.content d.moment d.left_since d.size f.session.clerk.desk c.end_requests.new.self.session.clerk.desk (o.goes holds) came (FinishBreaks d.content stop from.faults now f from.written new) serves.so.events
    (finish_broken d.content from.faults now f from.written new stop came came
    (unwritten (seen d.content f.session.clerk) (seen d.content c.end_requests.new.self.session.clerk) (end_requests f) from to stop now new serves c.new-lines.ensures.text o.sink_later e.cause.0 e.err)))

pub returns-clause-err : goal.returns-clause-err
returns-clause-err g c holds =
    let d = g.D.Disk in
    let f = c.args.self.now in
    let halt = c.in-Err.halt in
    let stop = c.write_rest.result in
    let from = telling c.new-lines.result (g.K.Sink.written c.args.sink.now) (g.K.Sink.faults c.args.sink.now) in
    let to = telling c.end_requests.new.lines (g.K.Sink.written c.end_requests.new.sink) (g.K.Sink.faults c.end_requests.new.sink) in
    let now = g.K.Sink.faults c.write_rest.new.sink in
    let new = g.K.Sink.written c.write_rest.new.sink in
    stopped_so d.content d.moment d.left_since d.size f.session.clerk.desk (disk_of c.end_requests.new.self.session.clerk.desk)
    (HaltsTelling halt (staffed_of d.content f.session.clerk) (end_requests f) from to) (FinishBreaks d.content stop from.faults now f from.written new)
    (λ came kept so.
    finish_broken d.content from.faults now f from.written new stop came kept
    (halted halt stop now (staffed_of d.content f.session.clerk) (end_requests f) from to new came kept c.new-lines.ensures.text so c.write_rest.ensures.stop
    (λ whole told ends. c.write_rest.ensures.writes from whole told c.in-Err.ensures.sink_later ends)))
    (c.in-Err.ensures.halt holds)
