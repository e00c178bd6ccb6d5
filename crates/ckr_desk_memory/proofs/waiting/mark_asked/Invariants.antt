use Rattle.ckr_desk_turn.specs.declared.failed_run.FailedRun.{FailedRun}
use Rattle.ckr_desk_turn.specs.Desk.{asked_run}
use Rattle.ckr_desk_memory.proofs.Stops.{IsChangedTo}
use Rattle.ckr_desk_memory.proofs.waiting.mark_asked.Given as goal

abbrev pub invariant-loop-one : goal.invariant-loop-one
invariant-loop-one l = IsChangedTo (λ (one : FailedRun). one) (asked_run l.run) l.one-index l.fn.failed l.failed
