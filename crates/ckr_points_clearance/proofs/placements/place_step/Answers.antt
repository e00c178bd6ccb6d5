use Rattle.std.proofs.Common.{◌∷◌, [], length, arith, ap, length-append}
use Rattle.ckr_base.proofs.Sequences.{drop-at}
use Rattle.ckr_points_tables.specs.RunJobs.{own_of}
use Rattle.ckr_points_clearance.specs.Start.{standing_now}
use Rattle.ckr_points_clearance.proofs.Starts.Placements.{placed-next}
use Rattle.ckr_points_clearance.proofs.placements.place_step.Goals as goal

pub loop-dd-preserved : goal.loop-dd-preserved
loop-dd-preserved c =
    let table = c.args.table.now in
    let root = table.job.root in
    let dds = c.as_slice-dd-items.result.now in
    let next = drop-at dds c.loop-dd.dd-index c.dd-item.result c.loop-dd-test.true c.dd-item.is in
    record {
      number = omega arith;
      placed =
          placed-next (standing_now c.args.tables.now.desk table) root (own_of c.args.own.now) c.loop-dd.number dds c.loop-dd.dd-index c.dd-item.result next
          c.loop-dd.placed.items c.place_dd.result c.push.new.self.items c.place_dd.ensures c.push.ensures.items _ c.loop-dd.invariant.placed;
      few = omega (arith, c.loop-dd.invariant.few, ap length c.push.ensures.items, length-append c.loop-dd.placed.items (c.place_dd.result ∷ []), ap length next);
    }
