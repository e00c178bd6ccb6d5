use Rattle.std.proofs.Common.{arith}
use Rattle.ckr_desk_memory.specs.EventChanges.{coded_on}
use Rattle.ckr_desk_memory.specs.Parts.{step_seen}
use Rattle.ckr_desk_memory.proofs.Stops.{changed-all}
use Rattle.ckr_desk_memory.proofs.waiting.stop_with.Goals as goal

pub returns : goal.returns
returns c =
    changed-all step_seen (coded_on c.args.run c.args.code) c.loop-on.on-index c.args.running.now c.loop-on.running c.loop-on.invariant (omega (arith, c.loop-on-test.false, c.loop-on.auto.on-index-end))
