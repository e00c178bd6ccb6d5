use Rattle.std.proofs.Common.{◌-◌, ap, ◌∙◌, slice_get}
use Rattle.ckr_desk_plans.proofs.RunFacts.{line-got}
use Rattle.ckr_desk_memory.proofs.lines.run_line.Goals as goal

pub returns : goal.returns
returns c = c.line_in.ensures ∙ ap (λ lines. slice_get lines (c.args.job - 1)) c.runs.ensures.lines ∙ line-got c.args.tables.now.desk c.args.job c.if-job-eq0.false
