use Rattle.std.proofs.Common.{true, ap, sym, ◌∙◌, map}
use Rattle.std.specs.Option.{option_map_or}
use Rattle.ckr_points_library.specs.Holdings.{holding_ways, standing}
use Rattle.ckr_meaning.specs.Dispositions.{disposed_all}
use Rattle.ckr_meaning.specs.EffectiveJob.{step_at}
use Rattle.ckr_points_runs.specs.StepEnd.{disposals_at}
use Rattle.ckr_points_runs.specs.RunJobs.{effective}
use Rattle.ckr_points_runs.specs.View.{facts_of, point_of}
use Rattle.ckr_points_runs.proofs.StepEnd.{ended_so}
use Rattle.ckr_points_runs.proofs.step_end.end_in.Goals as goal

pub returns : goal.returns
returns c =
    let run = c.args.line.now.number in
    let job = c.args.table.now.job in
    let sets = c.args.library.now.sets in
    let passed = c.args.table.now.passed.items in
    c.finish.ensures
    ∙ ended_so c.args.line.now (facts_of c.args.table.now) sets c.args.earlier.now c.args.step
    (sym (c.if-not-has_step.ensures run))
    c.dispose.new.library.sets c.dispose.new.passed.items
    (
    c.dispose.ensures
    ∙ ap (λ points. option_map_or (λ own. disposed_all holding_ways (disposals_at job.root (map point_of points) c.args.earlier.now c.args.step true own) (standing sets passed)) (step_at (effective run job) c.args.step) (standing sets passed)) c.as_slice.ensures
    )
