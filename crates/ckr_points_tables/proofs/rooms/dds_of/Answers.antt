use Rattle.std.proofs.Common.{◌<◌, ◌+◌, ap, length, arith}
use Rattle.std.proofs.lemmas.List.{drop_all}
use Rattle.ckr_points_tables.specs.Rooms.{dds_of}
use Rattle.ckr_points_runs.specs.RunJobs.{effective}
use Rattle.ckr_points_tables.proofs.DdCounts.{dds-next}
use Rattle.ckr_points_tables.proofs.DdCounts.{dds-most}
use Rattle.ckr_points_tables.proofs.rooms.dds_of.Goals as goal

pub overflow_add-count : goal.overflow_add-count
overflow_add-count c = omega (arith, c.loop-place.invariant, dds-most (effective c.args.run c.args.job.now) c.requires, c.dds_in-count.ensures.few)

pub loop-place-preserved : goal.loop-place-preserved
loop-place-preserved c =
    let steps = (effective c.args.run c.args.job.now).steps in
    let place = c.loop-place.place in
    let inside : place < length steps = omega (arith, c.loop-place-test.true, c.count_steps-place-end.ensures c.args.run) in
    omega (arith, c.loop-place.invariant, c.dds_in-count.ensures.count, dds-next steps place (place + 1) inside (omega arith))

pub returns : goal.returns
returns c =
    let steps = (effective c.args.run c.args.job.now).steps in
    let place = c.loop-place.place in
    omega (arith, c.loop-place.invariant, ap dds_of (drop_all place steps (omega (arith, c.loop-place-test.false, c.count_steps-place-end.ensures c.args.run))))
