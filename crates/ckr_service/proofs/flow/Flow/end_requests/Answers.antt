use Rattle.std.proofs.Common.{◌≡◌, ◌==◌, List, true, false, length, ap, subst, refl, arith, OnOk, IfErr}
use Rattle.std.proofs.lemmas.Grind.{common_steps}
use Rattle.ckr_base.proofs.Results.{err-holds}
use Rattle.ckr_session.specs.Model.State.{disk_of}
use Rattle.ckr_session.specs.Model.Session.{Handed, SessionModel as Standing, handed_with, session_behind}
use Rattle.ckr_service.specs.Flows.{end_requests}
use Rattle.ckr_session.specs.Lines.{telling}
use Rattle.ckr_session.specs.Service.{Serves, HaltsSo, HaltsTelling, ServesTelling, seen, staffed_of}
use Rattle.ckr_session.specs.Stops.{Stopped}
use Rattle.ckr_session.specs.Sessions.{standing_of}
use Rattle.ckr_service.proofs.Streams.End.{end_requests_of, end_requests_without}
use Rattle.ckr_session.proofs.Service.Tellings.{serves_quiet_behind, waiting_with}
use Rattle.ckr_session.proofs.Calls.Halts.{halts_before_them, halts_quiet_on, halts_then_on}
use Rattle.ckr_session.proofs.Calls.Stops.{goes_then_on}
use Rattle.ckr_session.proofs.Tellings.{tells_quiet}
use Rattle.ckr_service.proofs.flow.Flow.end_requests.Goals as goal

pub returns-then-is_empty-clause-serves : goal.returns-then-is_empty-clause-serves
returns-then-is_empty-clause-serves g c holds =
    let f = c.args.self.now in
    let none : (length f.partial.items == 0) ≡ true = grind (arith, common_steps, c.is_empty.ensures, c.if-is_empty.true) in
    let from = telling c.args.lines.now (g.K.Sink.written c.args.sink.now) (g.K.Sink.faults c.args.sink.now) in
    tells_quiet c.end.result (Serves (seen g.D.Disk.content f.session.clerk) (seen g.D.Disk.content c.end.new.self.clerk) (end_requests f) from.waits) from (waiting_with from.failed from.written from.faults c.end.new.out) c.requires.fresh refl
    (subst (λ (xs : List Handed). OnOk c.end.result (Serves (seen g.D.Disk.content f.session.clerk) (seen g.D.Disk.content c.end.new.self.clerk) xs from.waits c.end.new.out)) (end_requests_without g.D.Disk.content f none) (c.end.ensures.serves holds))

pub returns-then-is_empty-clause-halt : goal.returns-then-is_empty-clause-halt
returns-then-is_empty-clause-halt g c holds =
    let d = g.D.Disk in
    let f = c.args.self.now in
    let none : (length f.partial.items == 0) ≡ true = grind (arith, common_steps, c.is_empty.ensures, c.if-is_empty.true) in
    let from = telling c.args.lines.now (g.K.Sink.written c.args.sink.now) (g.K.Sink.faults c.args.sink.now) in
    halts_quiet_on d.content d.moment d.left_since d.size c.end.result f.session.clerk (disk_of c.end.new.self.clerk.desk) (end_requests f) from (waiting_with from.failed from.written from.faults c.end.new.out) c.requires.fresh refl
    (subst (λ (xs : List Handed). IfErr c.end.result (λ halt. Stopped d.content d.moment d.left_since d.size f.session.clerk.desk (disk_of c.end.new.self.clerk.desk) (HaltsSo halt (staffed_of d.content f.session.clerk) xs from.waits c.end.new.out)))
    (end_requests_without d.content f none) (c.end.ensures.halt holds))

pub returns-in_err-line-clause-halt : goal.returns-in_err-line-clause-halt
returns-in_err-line-clause-halt g c holds =
    let d = g.D.Disk in
    let f = c.args.self.now in
    let line = c.deref.result.now in
    let some : (length f.partial.items == 0) ≡ false = grind (arith, common_steps, c.is_empty.ensures, c.if-is_empty.false) in
    let whole = end_requests_of d.content f line (session_behind (standing_of f.session) line).cards c.deref.ensures.value some refl in
    let halt = c.in_err-line.field-0.0 in
    let s = staffed_of d.content f.session.clerk in
    let from = telling c.args.lines.now (g.K.Sink.written c.args.sink.now) (g.K.Sink.faults c.args.sink.now) in
    let to = telling c.line.new.lines (g.K.Sink.written c.line.new.sink) (g.K.Sink.faults c.line.new.sink) in
    err-holds c.from_residual.result halt _ c.from_residual.ensures.1
    (subst (λ (ys : List Handed). Stopped d.content d.moment d.left_since d.size f.session.clerk.desk (disk_of c.line.new.self.clerk.desk) (HaltsTelling halt s ys from to)) whole
    (halts_before_them d.content d.moment d.left_since d.size halt f.session.clerk (disk_of c.line.new.self.clerk.desk) (handed_with (standing_of f.session) line) _ from to (c.in_err-line.ensures.halt holds)))

pub returns-clause-serves : goal.returns-clause-serves
returns-clause-serves g c holds =
    let content = g.D.Disk.content in
    let f = c.args.self.now in
    let line = c.deref.result.now in
    let o = c.in_ok-line.ensures in
    let some : (length f.partial.items == 0) ≡ false = grind (arith, common_steps, c.is_empty.ensures, c.if-is_empty.false) in
    let whole = end_requests_of content f line c.line.new.self.deck c.deref.ensures.value some (ap (λ (s : Standing). s.cards) o.standing) in
    let from = telling c.args.lines.now (g.K.Sink.written c.args.sink.now) (g.K.Sink.faults c.args.sink.now) in
    let lines = c.line.new.lines in
    let written = g.K.Sink.written c.line.new.sink in
    let faults = g.K.Sink.faults c.line.new.sink in
    subst (λ (xs : List Handed). OnOk c.end-2.result (ServesTelling (seen content f.session.clerk) (seen content c.end-2.new.self.clerk) xs from (waiting_with lines.failed written faults c.end-2.new.out))) whole
    (serves_quiet_behind lines.failed written faults c.end-2.result (seen content f.session.clerk) (seen content c.line.new.self.clerk) (seen content c.end-2.new.self.clerk) _ _ from lines.text c.end-2.new.out
    (o.serves holds) (c.end-2.ensures.serves (o.trusted holds)))

pub returns-clause-halt : goal.returns-clause-halt
returns-clause-halt g c holds =
    let d = g.D.Disk in
    let f = c.args.self.now in
    let line = c.deref.result.now in
    let o = c.in_ok-line.ensures in
    let some : (length f.partial.items == 0) ≡ false = grind (arith, common_steps, c.is_empty.ensures, c.if-is_empty.false) in
    let whole = end_requests_of d.content f line c.line.new.self.deck c.deref.ensures.value some (ap (λ (s : Standing). s.cards) o.standing) in
    let from = telling c.args.lines.now (g.K.Sink.written c.args.sink.now) (g.K.Sink.faults c.args.sink.now) in
    let lines = c.line.new.lines in
    let written = g.K.Sink.written c.line.new.sink in
    let faults = g.K.Sink.faults c.line.new.sink in
    subst (λ (xs : List Handed). IfErr c.end-2.result (λ halt. Stopped d.content d.moment d.left_since d.size f.session.clerk.desk (disk_of c.end-2.new.self.clerk.desk)
    (HaltsTelling halt (staffed_of d.content f.session.clerk) xs from (waiting_with lines.failed written faults c.end-2.new.out)))) whole
    (halts_then_on d.content d.moment d.left_since d.size c.end-2.result lines.failed written faults f.session.clerk c.line.new.self.clerk (disk_of c.end-2.new.self.clerk.desk) _ _ from lines.text c.end-2.new.out
    (o.goes holds) (o.serves holds) (c.end-2.ensures.halt (o.trusted holds)))

pub returns-clause-goes : goal.returns-clause-goes
returns-clause-goes g c holds =
    let d = g.D.Disk in
    let o = c.in_ok-line.ensures in
    goes_then_on d.content d.moment d.left_since d.size c.end-2.result c.args.self.now.session.clerk.desk c.line.new.self.clerk.desk c.end-2.new.self.clerk.desk (o.goes holds) (c.end-2.ensures.goes (o.trusted holds))
