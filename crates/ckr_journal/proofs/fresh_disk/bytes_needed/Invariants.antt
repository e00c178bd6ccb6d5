use Rattle.std.proofs.Common.{◌≡◌, ◌≤◌, ◌+◌, ◌*◌, ◌^◌, drop}
use Rattle.ckr_volumes.specs.Layouts.{volumes_end, disk_needed}
use Rattle.ckr_journal.proofs.fresh_disk.bytes_needed.Given as goal

abbrev pub invariant-loop-volume : goal.invariant-loop-volume
invariant-loop-volume l = record {
  rest : volumes_end l.end (drop l.volume-index l.layout.volumes.items) ≡ disk_needed l.layout;
  bound : l.end ≤ 2 ^ 35 + l.volume-index * 2 ^ 32;
}
