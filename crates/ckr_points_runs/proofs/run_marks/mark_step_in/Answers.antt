use Rattle.std.proofs.Common.{sym}
use Rattle.ckr_base.proofs.Numbers.{nat_le-true}
use Rattle.ckr_points_runs.specs.RunJobs.{effective, own_of}
use Rattle.ckr_points_runs.proofs.OwnNames.{names-behind}
use Rattle.ckr_points_runs.proofs.run_marks.mark_step_in.Goals as goal

pub mark_step-requires-clause-own : goal.mark_step-requires-clause-own
mark_step-requires-clause-own c = λ own name among.
    let job = c.args.marking.now.job.now in
    names-behind job.root (effective c.args.marking.now.run job).steps c.args.marking.now.own_from c.args.place (own_of c.in-Some.step) name (nat_le-true c.args.marking.now.own_from c.args.place own) (sym c.in-Some.ensures.step) among
