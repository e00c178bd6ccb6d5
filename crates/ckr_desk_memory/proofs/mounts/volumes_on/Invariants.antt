use Rattle.std.proofs.Common.{◌≡◌, ◌≤◌, ◌-◌, ◌++◌, length}
use Rattle.ckr_desk_memory.specs.Mounts.{volumes_from}
use Rattle.ckr_desk_memory.proofs.mounts.volumes_on.Given as goal

abbrev pub invariant-loop-volume : goal.invariant-loop-volume
invariant-loop-volume l = record {
  kept : l.volumes.items ++ volumes_from l.sets.sets l.step l.volume (l.count - l.volume) ≡ volumes_from l.sets.sets l.step 0 l.count;
  few : length l.volumes.items ≤ l.volume;
}
