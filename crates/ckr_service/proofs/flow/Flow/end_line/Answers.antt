use Rattle.std.proofs.Common.{List, ℕ, ap, subst, ◌∙◌}
use Rattle.std.specs.Str.Lines.{strip_carriage_return}
use Rattle.ckr_base.proofs.Results.{err-holds}
use Rattle.ckr_session.specs.Model.Session.{handed_with, session_behind}
use Rattle.ckr_session.specs.Model.State.{disk_of}
use Rattle.ckr_session.specs.Events.{events_told}
use Rattle.ckr_service.specs.Flows.{line_requests}
use Rattle.ckr_session.specs.Lines.{telling}
use Rattle.ckr_session.specs.Service.{HaltsTelling, ServesTelling, StopsWithin, seen, staffed_of}
use Rattle.ckr_session.specs.Sessions.{standing_of}
use Rattle.ckr_service.proofs.Calls.Texts.{halted, serves_first, unwritten}
use Rattle.ckr_session.proofs.Calls.Stops.{stopped_here, stopped_so}
use Rattle.ckr_service.proofs.flow.Flow.end_line.Goals as goal

pub returns-in-Ok-clause-ok : goal.returns-in-Ok-clause-ok
returns-in-Ok-clause-ok g c holds =
    let d = g.D.Disk in
    let f = c.args.self.now in
    let o = c.in-Ok.ensures in
    let from = telling c.new-lines.result (g.K.Sink.written c.args.sink.now) (g.K.Sink.faults c.args.sink.now) in
    let to = telling c.line.new.lines (g.K.Sink.written c.line.new.sink) (g.K.Sink.faults c.line.new.sink) in
    let line = c.without_return.ensures ∙ ap strip_carriage_return c.deref.ensures.value in
    let serves = subst (λ (l : List ℕ). ServesTelling (seen d.content f.session.clerk) (seen d.content c.line.new.self.clerk) (handed_with (standing_of f.session) l) from to) line (o.serves holds) in
    record {
      cuts = record { standing = o.standing ∙ ap (session_behind (standing_of f.session)) line; partial = c.clear.ensures.items };
      text = serves.told;
      serves = serves_first (seen d.content f.session.clerk) (seen d.content c.line.new.self.clerk) (line_requests f) from.waits serves.told c.new-lines.ensures.text serves.so;
      written = c.in_ok-write-in-Ok.ensures.ok from serves.told o.sink_later serves.is;
    }

pub returns-in_err-write-in-Ok-clause-err : goal.returns-in_err-write-in-Ok-clause-err
returns-in_err-write-in-Ok-clause-err g c holds =
    let d = g.D.Disk in
    let f = c.args.self.now in
    let e = c.in_err-write-in-Ok.ensures in
    let o = c.in-Ok.ensures in
    let stop = c.in_err-write-in-Ok.field-0.0 in
    let from = telling c.new-lines.result (g.K.Sink.written c.args.sink.now) (g.K.Sink.faults c.args.sink.now) in
    let to = telling c.line.new.lines (g.K.Sink.written c.line.new.sink) (g.K.Sink.faults c.line.new.sink) in
    let now = g.K.Sink.faults c.write.new.sink in
    let new = g.K.Sink.written c.write.new.sink in
    let line = c.without_return.ensures ∙ ap strip_carriage_return c.deref.ensures.value in
    let serves = subst (λ (l : List ℕ). ServesTelling (seen d.content f.session.clerk) (seen d.content c.line.new.self.clerk) (handed_with (standing_of f.session) l) from to) line (o.serves holds) in
    err-holds c.from_residual.result stop _ c.from_residual.ensures.1
    (stopped_here d.content d.moment d.left_since d.size f.session.clerk.desk c.line.new.self.clerk.desk (o.goes holds) (events_told (staffed_of d.content f.session.clerk) (line_requests f))
    (StopsWithin stop from.faults now (staffed_of d.content f.session.clerk) (line_requests f) from.written new) serves.so.events
    (unwritten (seen d.content f.session.clerk) (seen d.content c.line.new.self.clerk) (line_requests f) from to stop now new serves c.new-lines.ensures.text o.sink_later e.cause.0 e.err))

pub returns-clause-err : goal.returns-clause-err
returns-clause-err g c holds =
    let d = g.D.Disk in
    let f = c.args.self.now in
    let s = staffed_of d.content f.session.clerk in
    let halt = c.in-Err.halt in
    let stop = c.write_rest.result in
    let from = telling c.new-lines.result (g.K.Sink.written c.args.sink.now) (g.K.Sink.faults c.args.sink.now) in
    let to = telling c.line.new.lines (g.K.Sink.written c.line.new.sink) (g.K.Sink.faults c.line.new.sink) in
    let now = g.K.Sink.faults c.write_rest.new.sink in
    let new = g.K.Sink.written c.write_rest.new.sink in
    let line = c.without_return.ensures ∙ ap strip_carriage_return c.deref.ensures.value in
    stopped_so d.content d.moment d.left_since d.size f.session.clerk.desk (disk_of c.line.new.self.clerk.desk)
    (HaltsTelling halt s (handed_with (standing_of f.session) c.without_return.result.now) from to) (StopsWithin stop from.faults now s (line_requests f) from.written new)
    (λ came kept so.
    halted halt stop now s (line_requests f) from to new came kept c.new-lines.ensures.text (subst (λ (l : List ℕ). HaltsTelling halt s (handed_with (standing_of f.session) l) from to came kept) line so)
    c.write_rest.ensures.stop (λ whole told ends. c.write_rest.ensures.writes from whole told c.in-Err.ensures.sink_later ends))
    (c.in-Err.ensures.halt holds)
