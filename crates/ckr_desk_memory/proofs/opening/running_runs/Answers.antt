use Rattle.std.proofs.Common.{◌≡◌, ◌∷◌, ◌++◌, []}
use Rattle.ckr_desk_memory.proofs.FailedRuns.{mark_at, one-left, one-put}
use Rattle.ckr_desk_memory.proofs.opening.running_runs.Goals as goal
use Rattle.ckr_desk_memory.proofs.opening.running_runs.Goals.{then-is_running+in_ok-push, else-is_running}

pub loop-line-preserved : goal.loop-line-preserved
loop-line-preserved c =
    elim c.if-is_running.branch [
      | then-is_running+in_ok-push w ↦
          let pushed : c.if-is_running.running.items ≡ c.loop-line.running.items ++ mark_at c.line-item.result ∷ [] = cc w.in_ok-push.ensures.items in
          record {
            lines = c.loop-line.invariant.lines;
            running =
                one-put c.args.tables.now.desk c.runs-line-items.result.now c.loop-line.line-index c.line-item.result c.is_running.result c.requires c.loop-line.invariant.lines c.loop-line-test.true c.line-item.is c.is_running.ensures
                c.if-is_running.running.items c.loop-line.running.items w.if-is_running.true c.loop-line.invariant.running pushed;
          }
      | else-is_running w ↦
          let same : c.if-is_running.running.items ≡ c.loop-line.running.items = cc in
          record {
            lines = c.loop-line.invariant.lines;
            running =
                one-left c.args.tables.now.desk c.runs-line-items.result.now c.loop-line.line-index c.line-item.result c.is_running.result c.requires c.loop-line.invariant.lines c.loop-line-test.true c.line-item.is c.is_running.ensures
                c.if-is_running.running.items c.loop-line.running.items w.if-is_running.false c.loop-line.invariant.running same;
          }
    ]
