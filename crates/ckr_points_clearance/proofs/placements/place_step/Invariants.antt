use Rattle.std.proofs.Common.{◌≡◌, ◌+◌, ◌≤◌, ◌++◌, length, drop}
use Rattle.ckr_meaning.specs.EffectiveJob.{placed_from}
use Rattle.ckr_points.specs.Rows.{table_ways}
use Rattle.ckr_points_tables.specs.RunJobs.{own_of}
use Rattle.ckr_points_clearance.specs.Placements.{placed_list}
use Rattle.ckr_points_clearance.specs.Start.{standing_now}
use Rattle.ckr_points_clearance.proofs.placements.place_step.Given as goal

abbrev pub invariant-loop-dd : goal.invariant-loop-dd
invariant-loop-dd l = record {
  number : l.number ≡ l.dd-index;
  placed :
      placed_list l.placed.items ++ placed_from table_ways (standing_now l.tables.desk l.table) l.table.job.root (own_of l.own) (l.number + 1) (drop l.dd-index l.dd-items)
      ≡ placed_from table_ways (standing_now l.tables.desk l.table) l.table.job.root (own_of l.own) 1 l.dd-items;
  few : length l.placed.items + length (drop l.dd-index l.dd-items) ≤ 16;
}
