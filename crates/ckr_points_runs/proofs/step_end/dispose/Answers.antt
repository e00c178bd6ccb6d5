use Rattle.std.proofs.Common.{◌≤◌, sym, subst, arith, length}
use Rattle.ckr_meaning.specs.EffectiveJob.{name_of}
use Rattle.ckr_points_runs.specs.RunJobs.{own_of}
use Rattle.ckr_points_runs.specs.StepEnd.{HasPassedRoom}
use Rattle.ckr_points_runs.proofs.Steps.{named-most}
use Rattle.ckr_points_runs.proofs.step_end.dispose.Goals as goal

pub end_step-requires-clause-spare : goal.end_step-requires-clause-spare
end_step-requires-clause-spare c =
    let own = own_of c.in-Some.own in
    let room : length own.step.dds ≤ c.args.passed.now.room = subst (HasPassedRoom c.args.passed.now.room) (sym c.in-Some.ensures.step) c.requires.room in
    omega (arith, room, named-most (name_of c.root-root.result own) own.step.dds)
