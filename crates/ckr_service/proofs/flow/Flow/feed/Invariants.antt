use Rattle.std.proofs.Common.{◌≡◌, ◌≤◌, ◌+◌, length, take}
use Rattle.ckr_session.specs.Model.Soundness.{IsTrusted}
use Rattle.ckr_session.specs.Model.State.{IsOpen, disk_of}
use Rattle.ckr_session.specs.Stops.{Goes}
use Rattle.ckr_session.specs.Sessions.{HasFewCards}
use Rattle.ckr_service.specs.Flows.{Carries}
use Rattle.ckr_service.proofs.flow.Flow.feed.Given as goal

abbrev pub invariant-loop-byte : goal.invariant-loop-byte
invariant-loop-byte g l = record {
  trusted : IsTrusted g.D.Disk.told g.D.Disk.content g.D.Disk.may_leave l.fn.self.session.clerk.desk → IsTrusted g.D.Disk.told g.D.Disk.content g.D.Disk.may_leave l.self.session.clerk.desk;
  goes : IsTrusted g.D.Disk.told g.D.Disk.content g.D.Disk.may_leave l.fn.self.session.clerk.desk
      → Goes g.D.Disk.content g.D.Disk.moment g.D.Disk.left_since g.D.Disk.size l.fn.self.session.clerk.desk l.self.session.clerk.desk;
  carries : IsTrusted g.D.Disk.told g.D.Disk.content g.D.Disk.may_leave l.fn.self.session.clerk.desk
      → Carries g.D.Disk.content l.fn.self l.self (take l.byte-index l.piece) (g.K.Sink.written l.fn.sink) (g.K.Sink.written l.sink);
  is_open : IsOpen l.self.session.clerk.desk;
  few : l.self.session.number + length l.self.partial.items ≤ l.fn.self.session.number + length l.fn.self.partial.items + l.byte-index;
  cards : HasFewCards l.self.session;
  sink_later : g.K.Sink.faults l.fn.sink ≤ g.K.Sink.faults l.sink;
  disk_later : g.D.Disk.faults (disk_of l.fn.self.session.clerk.desk) ≤ g.D.Disk.faults (disk_of l.self.session.clerk.desk);
  size : g.D.Disk.size (disk_of l.self.session.clerk.desk) ≡ g.D.Disk.size (disk_of l.fn.self.session.clerk.desk);
}
