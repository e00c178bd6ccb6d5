use Rattle.std.proofs.Common.{◌≡◌, ◌≤◌}
use Rattle.ckr_outside.specs.Disk.{OnlyReads}
use Rattle.ckr_desk_entries.proofs.EntryReads.{pieces_on}
use Rattle.ckr_desk_store.specs.State.{IsSound}
use Rattle.ckr_desk_entries.proofs.continuation.read_entry.Given as goal

abbrev pub invariant-loop-place : goal.invariant-loop-place
invariant-loop-place g l =
    let d = g.D.Disk in
    record {
      read : d.told → l.found.items ≡ pieces_on (d.content l.fn.store.disk) l.fn.store.layout l.set l.kept.place l.place;
      sound : IsSound d.content d.may_leave d.size l.store;
      kept : l.store ≡ record l.fn.store { disk = l.store.disk };
      only_reads : OnlyReads d.content d.may_leave d.moment d.left_since l.fn.store.disk l.store.disk;
      size : d.size l.store.disk ≡ d.size l.fn.store.disk;
      faults : d.faults l.fn.store.disk ≤ d.faults l.store.disk;
    }
