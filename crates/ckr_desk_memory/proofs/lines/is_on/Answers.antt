use Rattle.std.proofs.Common.{◌∙◌}
use Rattle.ckr_desk_memory.proofs.RunLines.{no-line, on-line}
use Rattle.ckr_desk_memory.proofs.lines.is_on.Goals as goal

pub returns-in-Some : goal.returns-in-Some
returns-in-Some c = c.is_on_state.ensures ∙ on-line c.args.tables.now.desk c.args.job c.in-Some.line.now c.in-Some.ensures

pub returns-in-None : goal.returns-in-None
returns-in-None c = no-line c.args.tables.now.desk c.args.job c.in-None.ensures
