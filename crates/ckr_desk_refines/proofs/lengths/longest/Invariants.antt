use Rattle.std.proofs.Common.{◌≡◌, map, drop}
use Rattle.ckr_desk_memory.specs.Parts.{step_seen}
use Rattle.ckr_desk_refines.specs.Lengths.{longest_seen}
use Rattle.ckr_desk_refines.proofs.lengths.longest.Given as goal

abbrev pub invariant-loop-on : goal.invariant-loop-on
invariant-loop-on l = longest_seen l.name (map step_seen (drop l.on-index l.running)) l.most ≡ longest_seen l.name (map step_seen l.running) l.committed
