use Rattle.std.proofs.Common.{sym, subst}
use Rattle.ckr_desk_memory.specs.Lines.{AreNumberedLines}
use Rattle.ckr_desk_memory.proofs.RunLines.{numbered-lines}
use Rattle.ckr_desk_memory.proofs.jobs.Jobs.runs.Goals as goal

pub returns-clause-numbered : goal.returns-clause-numbered
returns-clause-numbered c = subst AreNumberedLines (sym c.runs.ensures.lines) (numbered-lines c.self.inside.tables.desk c.runs.ensures.rows)
