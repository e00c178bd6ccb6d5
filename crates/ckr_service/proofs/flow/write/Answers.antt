use Rattle.std.proofs.Common.{[], append-nil, sym}
use Rattle.ckr_session.specs.Lines.{telling}
use Rattle.ckr_session.proofs.Tellings.{all_written, front_told}
use Rattle.ckr_service.proofs.flow.write.Goals as goal

pub returns-then-lines-clause-err : goal.returns-then-lines-clause-err
returns-then-lines-clause-err g c from told later is =
    front_told from (telling c.write.new.self (g.K.Sink.written c.write.new.sink) (g.K.Sink.faults c.write.new.sink)) told [] told (sym (append-nil told)) (c.write.ensures.told from told later is)

pub returns-clause-ok : goal.returns-clause-ok
returns-clause-ok g c from told later is =
    all_written from (telling c.write.new.self (g.K.Sink.written c.write.new.sink) (g.K.Sink.faults c.write.new.sink)) told c.if-lines.false c.write.ensures.text (c.write.ensures.told from told later is)
