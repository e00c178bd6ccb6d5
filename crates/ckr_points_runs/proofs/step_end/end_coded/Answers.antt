use Rattle.std.proofs.Common.{ap, sym, ◌∙◌}
use Rattle.ckr_points_runs.specs.RunChange.{by_step_of, coded, going, holding_kit}
use Rattle.ckr_points_runs.specs.View.{facts_of}
use Rattle.ckr_points_runs.proofs.StepEnd.{coded_so}
use Rattle.ckr_points_runs.proofs.step_end.end_coded.Goals as goal

pub returns : goal.returns
returns c =
    c.end_in.ensures
    ∙ coded_so c.args.line.now (facts_of c.args.table.now) c.args.library.now.sets c.args.earlier.now c.step_now-step.result c.args.writes c.args.lengths.now
    (sym (c.if-not-has_step.ensures c.args.line.now.number)) c.commit.new.library.sets c.commit.ensures.sets
    ∙ ap (λ step. by_step_of step (coded holding_kit c.args.earlier.now step c.args.writes c.args.lengths.now (going c.args.line.now (facts_of c.args.table.now) c.args.library.now.sets)) (going c.args.line.now (facts_of c.args.table.now) c.args.library.now.sets)) c.step_now-step.ensures
