use Rattle.std.proofs.Common.{true, refl, subst}
use Rattle.std.specs.Io.KnownBytes.{Appends}
use Rattle.ckr_outside.specs.Front.{AppendsFront}
use Rattle.ckr_session.specs.Lines.{telling}
use Rattle.ckr_session.proofs.Tellings.{rose_by, stays_failed, stays_written, writes_all, writes_front}
use Rattle.ckr_session.proofs.lines.Lines.write.Goals as goal

pub returns-in-Ok-clause-told : goal.returns-in-Ok-clause-told
returns-in-Ok-clause-told g c from told later is =
    let lines = c.args.self.now in
    let old = g.K.Sink.written c.args.sink.now in
    let new = g.K.Sink.written c.put_all.new.sink in
    let to = telling lines old (g.K.Sink.faults c.args.sink.now) in
    stays_written from to (record { waits = c.clear-in-Ok.new.self; failed = lines.failed; written = new; faults = g.K.Sink.faults c.put_all.new.sink }) told later c.if-self.false c.clear-in-Ok.ensures
    (writes_all to new c.if-self.false (subst (Appends old new) c.bytes.ensures c.in-Ok.ensures.ok)) is

pub returns-in-Err-clause-told : goal.returns-in-Err-clause-told
returns-in-Err-clause-told g c from told later is =
    let lines = c.args.self.now in
    let old = g.K.Sink.written c.args.sink.now in
    let new = g.K.Sink.written c.put_all.new.sink in
    let before = g.K.Sink.faults c.args.sink.now in
    let now = g.K.Sink.faults c.put_all.new.sink in
    let to = telling lines old before in
    stays_failed from to (record { waits = c.clear-in-Err.new.self; failed = true; written = new; faults = now }) told later refl (rose_by from.faults before now later c.in-Err.ensures.cause)
    (writes_front to new c.if-self.false (subst (AppendsFront old new) c.bytes.ensures c.in-Err.ensures.err)) is
