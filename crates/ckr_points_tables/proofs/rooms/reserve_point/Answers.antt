use Rattle.std.proofs.Common.{arith}
use Rattle.ckr_points_runs.specs.RunJobs.{effective}
use Rattle.ckr_points_tables.proofs.DdCounts.{names-most}
use Rattle.ckr_points_tables.proofs.rooms.reserve_point.Goals as goal

pub returns-clause-ok : goal.returns-clause-ok
returns-clause-ok c =
    let names = names-most (effective c.args.run c.args.job.now) in
    record {
      sorted = omega (arith, names, c.dds_of-names.ensures, c.in_ok-reserve.ensures.ok);
      marks = omega (arith, names, c.dds_of-names.ensures, c.in_ok-reserve-2.ensures.ok);
      passed = omega (arith, c.in-Ok.ensures, c.in_ok-reserve-3.ensures.ok);
    }
