use Rattle.std.proofs.Common.{◌≡◌, ◌≤◌, ◌-◌, []}
use Rattle.ckr_outside.specs.Disk.{OnlyReads, part}
use Rattle.ckr_desk_refines.specs.Memory.Holders.{AreHolders}
use Rattle.ckr_desk_refines.specs.Memory.Invariant.{AreJobs}
use Rattle.ckr_desk_turn.specs.Queue.{AreNumbered}
use Rattle.ckr_desk.specs.Replay.{IsLastTo, IsReplayed}
use Rattle.ckr_desk.proofs.opening.replay.Given as goal

abbrev pub invariant-loop-found : goal.invariant-loop-found
invariant-loop-found g l =
    let d = g.D.Disk in
    record {
      replayed : d.told → IsReplayed l.layout (part 512 l.layout.book (d.content l.fn.disk)) l.found.jobs.tables.desk l.found.place;
      last : d.told → IsLastTo (part 512 l.layout.book (d.content l.fn.disk)) l.found.place l.found.last;
      place : l.found.place ≤ l.layout.book;
      jobs : AreJobs l.layout l.found.jobs;
      holders : AreHolders l.found.jobs.tables.desk;
      numbered : AreNumbered 1 l.found.jobs.tables.desk.runs;
      running : l.found.jobs.running ≡ [];
      only_reads : OnlyReads d.content d.may_leave d.moment d.left_since l.fn.disk l.disk;
      size : d.size l.disk ≡ d.size l.fn.disk;
      faults : d.faults l.fn.disk ≤ d.faults l.disk;
    }

abbrev pub decreases-loop-found : goal.decreases-loop-found
decreases-loop-found g l = l.layout.book - l.found.place
