use Rattle.std.proofs.Common.{◌≡◌, ◌≤◌}
use Rattle.ckr_outside.specs.Disk.{OnlyReads}
use Rattle.ckr_desk.proofs.Openings.Refusals.{bad_from}
use Rattle.ckr_desk.proofs.Openings.NextPoints.{AreSoFar}
use Rattle.ckr_desk.specs.Entries.{bad_entry}
use Rattle.ckr_desk.proofs.entries.check_entries.Given as goal

abbrev pub invariant-loop-run : goal.invariant-loop-run
invariant-loop-run g l =
    let d = g.D.Disk in
    record {
      none : d.told → bad_from l.layout l.jobs.tables.desk (d.content l.fn.disk) l.run-index ≡ bad_entry l.layout l.jobs.tables.desk (d.content l.fn.disk);
      points : AreSoFar d.told l.layout l.jobs.tables.desk (d.content l.fn.disk) l.run-index l.points.items;
      only_reads : OnlyReads d.content d.may_leave d.moment d.left_since l.fn.disk l.disk;
      size : d.size l.disk ≡ d.size l.fn.disk;
      faults : d.faults l.fn.disk ≤ d.faults l.disk;
    }
