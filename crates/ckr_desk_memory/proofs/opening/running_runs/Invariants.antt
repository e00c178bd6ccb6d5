use Rattle.std.proofs.Common.{◌≡◌, false, filter, map, take}
use Rattle.ckr_points.specs.Rows.{RunRow}
use Rattle.ckr_points_tables.specs.View.{line_of}
use Rattle.ckr_desk_turn.specs.Desk.{is_running}
use Rattle.ckr_desk_memory.proofs.opening.running_runs.Given as goal

abbrev pub invariant-loop-line : goal.invariant-loop-line
invariant-loop-line l = record {
  lines : l.line-items ≡ map line_of l.tables.desk.runs;
  running : l.running.items ≡ map (λ (row : RunRow). record { run = row.number; asked = false }) (filter is_running (take l.line-index l.tables.desk.runs));
}
