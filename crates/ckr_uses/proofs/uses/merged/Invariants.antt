use Rattle.std.proofs.Common.{◌≡◌, map, take}
use Rattle.ckr_uses.specs.Uses.{use_among, names_once, names_in}
use Rattle.ckr_uses.proofs.uses.merged.Given as goal

abbrev pub invariant-loop-place : goal.invariant-loop-place
invariant-loop-place l = l.one ≡ map (use_among l.uses) (names_once (names_in (take l.place l.uses)))
