use Rattle.std.proofs.Common.{◌≡◌, ◌≤◌, ◌-◌, true}
use Rattle.ckr_outside.specs.Faults.{Rose}
use Rattle.ckr_desk.specs.Model.OpenImages.{event_records}
use Rattle.ckr_desk.specs.Soundness.{IsTrusted}
use Rattle.ckr_desk.specs.State.{IsOpen, disk_of, layout_of}
use Rattle.ckr_session.specs.Calls.{turns}
use Rattle.ckr_session.specs.Lines.{TellsSo, telling}
use Rattle.ckr_session.specs.Texts.{waiting_count}
use Rattle.ckr_session.specs.Service.{attended_of}
use Rattle.ckr_session.specs.Stops.{Goes}
use Rattle.ckr_session.specs.Tallies.{with_replies}
use Rattle.ckr_session.specs.Turns.{IsToldWaiting, Turns}
use Rattle.ckr_session.proofs.turns.turned.Given as goal

abbrev pub invariant-loop : goal.invariant-loop
invariant-loop g l = record {
  -- what is counted so far, with the replies to come, is all that is to be counted
  tally : IsTrusted g.D.Disk.told g.D.Disk.content g.D.Disk.may_leave l.fn.desk
      → with_replies l.tally (turns l.turn (l.count - l.counter) (attended_of g.D.Disk.content l.desk)) ≡ with_replies l.fn.tally (turns l.turn l.count (attended_of g.D.Disk.content l.fn.desk));
  turns : IsTrusted g.D.Disk.told g.D.Disk.content g.D.Disk.may_leave l.fn.desk
      → TellsSo
      (λ told. Turns (layout_of l.fn.desk) l.turn l.count (l.count - l.counter) (attended_of g.D.Disk.content l.fn.desk) (attended_of g.D.Disk.content l.desk) l.waiting l.fn.lines.text told
      (event_records (layout_of l.fn.desk) (g.D.Disk.content (disk_of l.fn.desk))) (event_records (layout_of l.desk) (g.D.Disk.content (disk_of l.desk))))
      (telling l.fn.lines (g.K.Sink.written l.fn.sink) (g.K.Sink.faults l.fn.sink)) (telling l.lines (g.K.Sink.written l.sink) (g.K.Sink.faults l.sink));
  told : IsToldWaiting l.waiting;
  few : waiting_count l.waiting ≤ l.counter;
  is_open : IsOpen l.desk;
  layout : layout_of l.desk ≡ layout_of l.fn.desk;
  trusted : IsTrusted g.D.Disk.told g.D.Disk.content g.D.Disk.may_leave l.fn.desk → IsTrusted g.D.Disk.told g.D.Disk.content g.D.Disk.may_leave l.desk;
  goes : IsTrusted g.D.Disk.told g.D.Disk.content g.D.Disk.may_leave l.fn.desk → Goes g.D.Disk.content g.D.Disk.moment g.D.Disk.left_since g.D.Disk.size l.fn.desk l.desk;
  later : g.D.Disk.faults (disk_of l.fn.desk) ≤ g.D.Disk.faults (disk_of l.desk);
  size : g.D.Disk.size (disk_of l.desk) ≡ g.D.Disk.size (disk_of l.fn.desk);
  sink_later : g.K.Sink.faults l.fn.sink ≤ g.K.Sink.faults l.sink;
  failed : l.lines.failed ≡ true → Rose (g.K.Sink.faults l.fn.sink) (g.K.Sink.faults l.sink);
}
