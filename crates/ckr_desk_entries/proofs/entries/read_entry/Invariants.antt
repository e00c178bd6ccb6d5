use Rattle.std.proofs.Common.{◌≡◌, ◌≤◌}
use Rattle.ckr_outside.specs.Disk.{OnlyReads}
use Rattle.ckr_desk_entries.proofs.EntryReads.{pieces_on}
use Rattle.ckr_desk_entries.proofs.entries.read_entry.Given as goal

abbrev pub invariant-loop-place : goal.invariant-loop-place
invariant-loop-place g l =
    let d = g.D.Disk in
    record {
      read : d.told → l.found.items ≡ pieces_on (d.content l.fn.disk) l.layout l.set l.kept.place l.place;
      only_reads : OnlyReads d.content d.may_leave d.moment d.left_since l.fn.disk l.disk;
      size : d.size l.disk ≡ d.size l.fn.disk;
      faults : d.faults l.fn.disk ≤ d.faults l.disk;
    }
