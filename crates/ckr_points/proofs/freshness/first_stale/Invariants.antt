use Rattle.std.proofs.Common.{◌≡◌, drop}
use Rattle.ckr_points.specs.Staleness.{stale_among}
use Rattle.ckr_points.proofs.freshness.first_stale.Given as goal

abbrev pub invariant-loop-mark : goal.invariant-loop-mark
invariant-loop-mark l =
    stale_among l.needed l.library.sets (drop l.mark-index l.marks) ≡ stale_among l.needed l.library.sets l.marks
