use Rattle.std.proofs.Common.{subst, sym}
use Rattle.ckr_base.proofs.Results.{err-holds}
use Rattle.ckr_desk_turn.specs.Queue.{AreNumbered}
use Rattle.ckr_outside.specs.Disk.{part}
use Rattle.ckr_points.specs.Rows.{TablesModel}
use Rattle.ckr_outside.specs.Faults.{Rose}
use Rattle.ckr_journal.specs.Events.{GoesOn}
use Rattle.ckr_desk.proofs.Openings.Replay.{gone_on, not_followed, numbered-replayed, book_inside, replay_cause, event_read}
use Rattle.ckr_desk.proofs.opening.replay_one.Goals as goal

pub returns-in_err-event_at-clause-cause : goal.returns-in_err-event_at-clause-cause
returns-in_err-event_at-clause-cause g c =
    err-holds c.from_residual.result c.in_err-event_at.field-0.0 _ c.from_residual.ensures.1
    (replay_cause (Rose (g.D.Disk.faults c.args.disk.now) (g.D.Disk.faults c.event_at.new.disk)) g.D.Disk.told c.args.layout.now
    (part 512 c.args.layout.now.book (g.D.Disk.content c.args.disk.now)) c.args.found.now.jobs.tables.desk c.args.found.now.place c.in_err-event_at.field-0.0 c.in_err-event_at.ensures.cause)

pub returns-then-not-branch-clause-cause : goal.returns-then-not-branch-clause-cause
returns-then-not-branch-clause-cause g c = λ both.
    not_followed c.args.layout.now (part 512 c.args.layout.now.book (g.D.Disk.content c.args.disk.now)) c.args.found.now.jobs.tables.desk c.args.found.now.place c.in-Event.event both.1
    (event_read _ _ _ _ c.in-Event.is (c.in_ok-event_at.ensures.read both.0)) c.in_ok-replay-in-Event.field-0 c.in_ok-replay-in-Event.ensures.answer c.if-not-branch.true

pub returns-else-not-branch-clause-goes : goal.returns-else-not-branch-clause-goes
returns-else-not-branch-clause-goes g c =
    gone_on g.D.Disk.told c.args.layout.now (part 512 c.args.layout.now.book (g.D.Disk.content c.args.disk.now)) c.args.found.now.jobs.tables.desk c.replay.new.self.tables.desk c.args.found.now.place
    c.in-Event.next c.in-Event.event (subst (GoesOn c.args.found.now.place c.args.layout.now.book) c.in-Event.is c.in_ok-event_at.ensures.next)
    (λ told. event_read _ _ _ _ c.in-Event.is (c.in_ok-event_at.ensures.read told))
    c.in_ok-replay-in-Event.field-0 c.in_ok-replay-in-Event.ensures.answer c.if-not-branch.false c.in_ok-replay-in-Event.ensures.ok

pub event_at-requires-clause-inside : goal.event_at-requires-clause-inside
event_at-requires-clause-inside g c _ _ = book_inside c.args.layout.now (g.D.Disk.size c.args.disk.now) c.requires.header

pub returns-else-not-branch-clause-numbered : goal.returns-else-not-branch-clause-numbered
returns-else-not-branch-clause-numbered g c = λ numbered.
    subst (λ (tables : TablesModel). AreNumbered 1 tables.runs) (sym c.in_ok-replay-in-Event.ensures.ok)
    (numbered-replayed c.args.layout.now c.args.found.now.jobs.tables.desk c.in-Event.event numbered)
