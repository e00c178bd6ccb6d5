use Rattle.std.proofs.Common.{arith}
use Rattle.ckr_desk_turn.specs.Desk.{asked_run}
use Rattle.ckr_desk_memory.proofs.Stops.{changed-items}
use Rattle.ckr_desk_memory.proofs.waiting.mark_asked.Goals as goal

pub returns : goal.returns
returns c =
    changed-items (asked_run c.args.run) c.loop-one.one-index c.args.failed.now c.loop-one.failed c.loop-one.invariant (omega (arith, c.loop-one-test.false, c.loop-one.auto.one-index-end))
