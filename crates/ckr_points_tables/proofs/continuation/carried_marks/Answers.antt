use Rattle.std.proofs.Common.{length, ap, arith}
use Rattle.ckr_points_tables.proofs.DdCounts.{names-most}
use Rattle.ckr_points_runs.specs.RunJobs.{effective}
use Rattle.ckr_points_tables.proofs.continuation.carried_marks.Goals as goal

pub mark_job-requires-clause-room : goal.mark_job-requires-clause-room
mark_job-requires-clause-room c = omega (arith, names-most (effective c.args.run c.args.job.now), c.dds_of-names.ensures, c.in_ok-reserve.ensures.ok)

pub put_marks-requires : goal.put_marks-requires
put_marks-requires c = omega (arith, names-most (effective c.args.run c.args.job.now), c.dds_of-names.ensures, c.in_ok-reserve-2.ensures.ok, ap length c.as_slice.ensures, c.mark_job.ensures.few)
