use Rattle.std.proofs.Common.{◌-◌, ap, ◌∙◌, slice_get}
use Rattle.ckr_points_deferred.proofs.RunFacts.{line-got, none-numbered}
use Rattle.ckr_points_deferred.proofs.runs.line_at.Goals as goal

pub returns-clause-line : goal.returns-clause-line
returns-clause-line c = c.line_in.ensures ∙ ap (λ lines. slice_get lines (c.args.job - 1)) c.runs.ensures.lines ∙ line-got c.args.tables.now.desk c.args.job c.if-job-eq0.false

pub returns-then-job-eq0-clause-rows : goal.returns-then-job-eq0-clause-rows
returns-then-job-eq0-clause-rows c = none-numbered c.args.tables.now.desk c.args.job c.if-job-eq0.true

pub returns-clause-rows : goal.returns-clause-rows
returns-clause-rows c = c.runs.ensures.rows c.args.job
