use Rattle.std.proofs.Common.{◌≡◌, ◌≤◌, drop}
use Rattle.ckr_volumes.specs.Space.{holes_from, placed_after, placed_in}
use Rattle.ckr_volumes.proofs.space.lowest.Given as goal

abbrev pub invariant-loop-span : goal.invariant-loop-span
invariant-loop-span l = record {
  bound : l.from ≤ l.end;
  walk : placed_after l.lrecl l.space l.free (holes_from l.from l.end (drop l.span-index l.spans)) ≡ placed_in l.lrecl l.space (holes_from l.fn.from l.end l.spans);
}
