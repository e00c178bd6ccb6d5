use Rattle.ckr_desk_memory.specs.EventChanges.{coded_on}
use Rattle.ckr_desk_memory.specs.Parts.{step_seen}
use Rattle.ckr_desk_memory.proofs.Stops.{IsChangedTo}
use Rattle.ckr_desk_memory.proofs.waiting.stop_with.Given as goal

abbrev pub invariant-loop-on : goal.invariant-loop-on
invariant-loop-on l = IsChangedTo step_seen (coded_on l.run l.code) l.on-index l.fn.running l.running
