use Rattle.std.proofs.Common.{◌≡◌, ◌≤◌, ◌-◌, ◌+◌, length}
use Rattle.ckr_session.specs.Model.Soundness.{IsTrusted}
use Rattle.ckr_session.specs.Model.State.{IsOpen, disk_of}
use Rattle.ckr_session.specs.Stops.{Goes}
use Rattle.ckr_session.specs.Service.{seen}
use Rattle.ckr_session.specs.Sessions.{HasFewCards}
use Rattle.ckr_service.specs.Feeds.{Feeding}
use Rattle.ckr_service.proofs.stream.feed_all.Given as goal

abbrev pub invariant-loop-taken : goal.invariant-loop-taken
invariant-loop-taken g l = record {
  feeding : Feeding g.D.Disk.content (IsTrusted g.D.Disk.told g.D.Disk.content g.D.Disk.may_leave l.fn.flow.session.clerk.desk) (seen g.D.Disk.content l.fn.flow.session.clerk) l.flow l.count
      (g.S.Source.left l.fn.source) (g.S.Source.left l.source) (g.K.Sink.written l.fn.sink) (g.K.Sink.written l.sink);
  trusted : IsTrusted g.D.Disk.told g.D.Disk.content g.D.Disk.may_leave l.fn.flow.session.clerk.desk → IsTrusted g.D.Disk.told g.D.Disk.content g.D.Disk.may_leave l.flow.session.clerk.desk;
  goes : IsTrusted g.D.Disk.told g.D.Disk.content g.D.Disk.may_leave l.fn.flow.session.clerk.desk
      → Goes g.D.Disk.content g.D.Disk.moment g.D.Disk.left_since g.D.Disk.size l.fn.flow.session.clerk.desk l.flow.session.clerk.desk;
  is_open : IsOpen l.flow.session.clerk.desk;
  few : l.count ≤ 16_777_216;
  lines : l.flow.session.number + length l.flow.partial.items ≤ l.count;
  cards : HasFewCards l.flow.session;
  source_later : g.S.Source.faults l.fn.source ≤ g.S.Source.faults l.source;
  sink_later : g.K.Sink.faults l.fn.sink ≤ g.K.Sink.faults l.sink;
  disk_later : g.D.Disk.faults (disk_of l.fn.flow.session.clerk.desk) ≤ g.D.Disk.faults (disk_of l.flow.session.clerk.desk);
  size : g.D.Disk.size (disk_of l.flow.session.clerk.desk) ≡ g.D.Disk.size (disk_of l.fn.flow.session.clerk.desk);
}

abbrev pub decreases-loop-taken : goal.decreases-loop-taken
decreases-loop-taken g l = 16_777_216 - l.count
