use Rattle.std.proofs.Common.{◌≡◌, [], take, drop}
use Rattle.ckr_points_clearance.specs.Placements.{are_clear_beside, placed_list}
use Rattle.ckr_points_clearance.proofs.clearance.are_clear_beside.Given as goal

abbrev pub invariant-loop-place : goal.invariant-loop-place
invariant-loop-place l =
    are_clear_beside l.layout l.items l.tables.desk.sets (placed_list (take l.place l.placed)) (placed_list (drop l.place l.placed))
    ≡ are_clear_beside l.layout l.items l.tables.desk.sets [] (placed_list l.placed)
