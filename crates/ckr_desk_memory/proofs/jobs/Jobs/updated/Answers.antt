use Rattle.std.proofs.Common.{sym, ◌∙◌}
use Rattle.ckr_base.proofs.Options.{some-not-none}
use Rattle.ckr_desk_memory.proofs.jobs.Jobs.updated.Goals as goal

pub returns-in_err-table : goal.returns-in_err-table
returns-in_err-table c = λ row there. absurd (some-not-none row (sym there ∙ c.in_err-table.ensures.none))
