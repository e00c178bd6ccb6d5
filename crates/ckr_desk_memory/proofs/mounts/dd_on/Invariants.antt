use Rattle.std.proofs.Common.{◌≡◌, ◌+◌, drop}
use Rattle.ckr_desk_memory.specs.Mounts.{dd_from}
use Rattle.ckr_desk_memory.proofs.mounts.dd_on.Given as goal

abbrev pub invariant-loop-dd : goal.invariant-loop-dd
invariant-loop-dd l = record {
  number : l.number ≡ l.dd-index;
  rest : dd_from l.sets.sets l.step l.sought (l.dd-index + 1) (drop l.dd-index l.dd-items) ≡ dd_from l.sets.sets l.step l.sought 1 l.dd-items;
}
